use Rattle.std.proofs.Common.{◌≡◌, ◌∙◌, ◌<◌, length, refl, sym, arith, true, false}
use Rattle.std.proofs.lemmas.Option.{slice_get-get_or}
use Rattle.fare_tariff.proofs.MoveLaws.{none_better}
use Rattle.fare_tariff.proofs.moves.is_bettered.Goals as goal

pub loop-earlier-preserved : goal.loop-earlier-preserved
loop-earlier-preserved c =
    let moves = c.args.moves.now in
    let k = c.loop-earlier.earlier in
    let test = c.loop-earlier-test.true in
    let within = c.requires in
    let lt : k < length moves = omega (arith, test, within) in
    none_better moves c.args.number k _ _ (slice_get-get_or moves k _ lt) (slice_get-get_or moves c.args.number _ within)
    (sym c.betters.ensures ∙ c.if-betters.false) c.loop-earlier.invariant

pub returns-then-betters-clause-better : goal.returns-then-betters-clause-better
returns-then-betters-clause-better c e =
    let moves = c.args.moves.now in
    let k = c.loop-earlier.earlier in
    let test = c.loop-earlier-test.true in
    let within = c.requires in
    let lt : k < length moves = omega (arith, test, within) in
    record {
      earlier = k;
      before = test;
      better = _;
      is = slice_get-get_or moves k _ lt;
      other = _;
      at = slice_get-get_or moves c.args.number _ within;
      betters = sym c.betters.ensures ∙ c.if-betters.true;
    }

pub returns-then-betters-clause-none : goal.returns-then-betters-clause-none
returns-then-betters-clause-none c has = refl

pub returns-clause-better : goal.returns-clause-better
returns-clause-better c e = absurd (let no : false ≡ true = e in cc)

pub returns-clause-none : goal.returns-clause-none
returns-clause-none c has =
    let before = has.before in
    let test = c.loop-earlier-test.false in
    let lt : has.earlier < c.loop-earlier.earlier = omega (arith, before, test) in
    sym (c.loop-earlier.invariant has.earlier has.better has.other lt has.is has.at) ∙ has.betters

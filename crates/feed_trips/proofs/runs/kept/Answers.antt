use Rattle.std.proofs.Common.{◌∙◌, sym, ap, rules, arith, pos, get_or, List, [], ◌∷◌, ◌++◌, ℤ}
use Rattle.std.proofs.lemmas.Int.{to_z-of_z}
use Rattle.std.proofs.lemmas.List.{take_more, take_all}
use mir.Syntax.{w64}
use mir.Val.{SFits}
use Rattle.feed_trips.proofs.NumberLaws.{past_last}
use Rattle.feed_trips.proofs.runs.kept.Goals as goal

pub loop-i-init : goal.loop-i-init
loop-i-init c = c.empty-shifts.ensures

pub push-requires : goal.push-requires
push-requires c =
    let fits : SFits w64 (get_or c.args.numbers.now c.loop-i.i (pos 0)) = search rules in
    (omega arith, rw (to_z-of_z w64 (get_or c.args.numbers.now c.loop-i.i (pos 0)) fits, c.loop-i.invariant) (past_last c.args.numbers.now c.loop-i.i (pos 0) c.requires c.loop-i-test.true))

pub loop-i-preserved : goal.loop-i-preserved
loop-i-preserved c =
    let next = get_or c.args.numbers.now c.loop-i.i (pos 0) in
    let fits : SFits w64 next = search rules in
    let grown = c.in_ok-push.ensures.ok in
    grown ∙ ap (λ (z : ℤ). c.loop-i.shifts ++ z ∷ []) (to_z-of_z w64 next fits) ∙ ap (λ (zs : List ℤ). zs ++ next ∷ []) c.loop-i.invariant ∙ sym (take_more c.args.numbers.now c.loop-i.i (pos 0) c.loop-i-test.true)

pub returns : goal.returns
returns c = c.loop-i.invariant ∙ take_all c.loop-i.i c.args.numbers.now c.loop-i-test.false

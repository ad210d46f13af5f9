use Rattle.std.proofs.Common.{◌≡◌, sym, ◌∙◌, ap, false, arith}
use Rattle.std.proofs.lemmas.List.Elements.{All-more}
use Rattle.std.proofs.lemmas.List.Sums.{sum_by_more, sum_by_more_le}
use Rattle.label_bag.proofs.flights.place_of.Goals as goal

pub overflow_add-end : goal.overflow_add-end
overflow_add-end g c =
    let upto = sum_by_more_le (λ f. f.size) c.args.flights.now c.loop-number.number c.index-flights-number.result c.loop-number-test.true in
    let here = ap (λ f. f.size) c.index-flights-number.is in
    omega (arith, upto, here, c.loop-number.invariant.begins, c.requires)

pub loop-number-preserved : goal.loop-number-preserved
loop-number-preserved g c =
    let more = sum_by_more (λ f. f.size) c.args.flights.now c.loop-number.number c.index-flights-number.result c.loop-number-test.true in
    let here = ap (λ f. f.size) c.index-flights-number.is in
    let other = ap (λ f. g.C.PartialEq.eq f.class c.args.class) c.index-flights-number.is in
    record {
      begins = omega (arith, more, here, c.loop-number.invariant.begins);
      lacks = All-more (λ f. g.C.PartialEq.eq f.class c.args.class ≡ false) c.args.flights.now c.loop-number.number c.index-flights-number.result c.loop-number-test.true c.loop-number.invariant.lacks (sym other ∙ sym c.if-eq.ensures);
    }

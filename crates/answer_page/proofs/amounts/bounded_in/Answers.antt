use Rattle.std.proofs.Common.{◌∙◌, ap, arith, w64, to_z, of_z}
use Rattle.std.specs.Prelude.{FitsSigned}
use Rattle.std.proofs.lemmas.Int.{ints, to_z-of_z}
use Rattle.feed_faults.specs.FieldGrammars.{int_value}
use Rattle.answer_page.proofs.AmountLaws.{int_low, int_high}
use Rattle.answer_page.proofs.amounts.bounded_in.Goals as goal

pub returns-clause-value : goal.returns-clause-value
returns-clause-value c =
    let least = c.ranges.least.sfits in
    let most = c.ranges.most.sfits in
    let from : FitsSigned w64 c.args.least = grind (arith, ints, least) in
    let to : FitsSigned w64 c.args.most = grind (arith, ints, most) in
    c.int_of.ensures
    ∙ ap (λ z. int_value z (to_z w64 (of_z w64 c.args.most)) c.args.text.now) (to_z-of_z w64 c.args.least from)
    ∙ ap (λ z. int_value c.args.least z c.args.text.now) (to_z-of_z w64 c.args.most to)

pub returns-clause-low : goal.returns-clause-low
returns-clause-low c = rw (returns-clause-value c) (int_low c.args.least c.args.most c.args.text.now)

pub returns-clause-high : goal.returns-clause-high
returns-clause-high c = rw (returns-clause-value c) (int_high c.args.least c.args.most c.args.text.now)

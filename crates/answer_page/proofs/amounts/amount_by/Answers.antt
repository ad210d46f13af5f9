use Rattle.std.proofs.Common.{◌∙◌, ap, arith, w64, to_z, of_z}
use Rattle.std.specs.Prelude.{FitsSigned}
use Rattle.std.proofs.lemmas.Int.{ints, to_z-of_z}
use Rattle.answer_page.specs.Amounts.{with_sign}
use Rattle.answer_page.proofs.AmountLaws.{amount_is}
use Rattle.answer_page.proofs.amounts.amount_by.Goals as goal

pub returns : goal.returns
returns c =
    let bound = c.ranges.part.sfits in
    let fits : FitsSigned w64 c.args.part = grind (arith, ints, bound) in
    let low = c.in_ok-units.ensures.low in
    let high = c.in_ok-units.ensures.high in
    let part_low = c.signed.ensures.low in
    let part_high = c.signed.ensures.high in
    amount_is c.args.text.now c.args.whole.now c.of.result c.args.part c.in_ok-units.units c.signed.result _ c.of.ensures
    c.in_ok-units.ensures.value
    (c.signed.ensures.value ∙ ap (λ negative. with_sign negative (to_z w64 (of_z w64 c.args.part))) c.is_negative.ensures
    ∙ ap (with_sign _) (to_z-of_z w64 c.args.part fits))
    (grind (arith, ints))

use Rattle.std.proofs.Common.{◌∙◌, refl, sym, ap, Some}
use Rattle.std.specs.Prelude.{slice_get}
use Rattle.std.proofs.lemmas.Option.{slice_get_past, slice_get-get_or}
use Rattle.fare_leg_rules.proofs.LegRules.weight_of.Goals as goal

pub returns-in-Some : goal.returns-in-Some
returns-in-Some c =
    let got = ap (λ rows. slice_get rows c.args.rule.0) (sym c.deref.ensures.value) ∙ slice_get-get_or c.deref.result.now c.args.rule.0 c.in-Some.row.now c.in-Some.ensures.lookup.3.0 ∙ ap Some (sym c.in-Some.ensures.lookup.1) in
    rw got c.weight.ensures

pub returns-in-None : goal.returns-in-None
returns-in-None c =
    let none = ap (λ rows. slice_get rows c.args.rule.0) (sym c.deref.ensures.value) ∙ slice_get_past c.deref.result.now c.args.rule.0 c.in-None.ensures.lookup.3 in
    rw none refl

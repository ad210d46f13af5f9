use Rattle.std.proofs.Common.{◌∙◌, is_lt, sym, ap}
use Rattle.std.specs.Prelude.{slice_get, Some}
use Rattle.std.proofs.lemmas.Option.{slice_get_past, slice_get-get_or}
use Rattle.leg_kinds.proofs.KindLaws.{before_of, before_none}
use Rattle.leg_kinds.proofs.table.KeptTable.is_before.Goals as goal

pub returns-in-Some : goal.returns-in-Some
returns-in-Some g c =
    c.is_lt.ensures ∙ ap is_lt c.order.ensures
    ∙ before_of c.args.self.now.kept.items c.args.number c.in-Some.kept.now c.args.leg.now
    (ap (λ kept. slice_get kept c.args.number) (sym c.deref.ensures.value)
    ∙ slice_get-get_or c.deref.result.now c.args.number c.in-Some.kept.now c.in-Some.ensures.lookup.3.0 ∙ ap Some (sym c.in-Some.ensures.lookup.1))

pub returns-in-None : goal.returns-in-None
returns-in-None g c =
    before_none c.args.self.now.kept.items c.args.number c.args.leg.now
    (ap (λ kept. slice_get kept c.args.number) (sym c.deref.ensures.value) ∙ slice_get_past c.deref.result.now c.args.number c.in-None.ensures.lookup.3)

use Rattle.std.proofs.Common.{◌∙◌, sym, ap}
use Rattle.std.specs.Prelude.{slice_get, Some}
use Rattle.std.proofs.lemmas.Option.{slice_get_past, slice_get-get_or}
use Rattle.leg_kinds.specs.Kinds.{items_at}
use Rattle.leg_kinds.proofs.KindLaws.{list_some, list_none}
use Rattle.leg_kinds.proofs.table.KindTable.list.Goals as goal

pub returns-in-Some : goal.returns-in-Some
returns-in-Some g c =
    c.deref-in-Some.ensures.value
    ∙ list_some c.self.inside.table.kept.items c.args.number c.in-Some.kept.now
    (ap (λ kept. slice_get kept c.args.number) (sym c.deref.ensures.value)
    ∙ slice_get-get_or c.deref.result.now c.args.number c.in-Some.kept.now c.in-Some.ensures.lookup.3.0 ∙ ap Some (sym c.in-Some.ensures.lookup.1))
    ∙ ap (λ lists. items_at lists c.args.number) c.self.view_is

pub returns-in-None : goal.returns-in-None
returns-in-None g c =
    list_none c.self.inside.table.kept.items c.args.number
    (ap (λ kept. slice_get kept c.args.number) (sym c.deref.ensures.value) ∙ slice_get_past c.deref.result.now c.args.number c.in-None.ensures.lookup.3)
    ∙ ap (λ lists. items_at lists c.args.number) c.self.view_is

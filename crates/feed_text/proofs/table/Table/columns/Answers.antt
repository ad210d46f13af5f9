use Rattle.std.proofs.Common.{◌∙◌, ap}
use Rattle.std.specs.Prelude.{slice_get, unwrap_or}
use Rattle.std.proofs.lemmas.Option.{unwrap_or-slice_get}
use Rattle.feed_text.proofs.AccessLaws.{header_width}
use Rattle.feed_text.proofs.table.Table.columns.Goals as goal

pub returns : goal.returns
returns c =
    let v = c.self.inside in
    let first = c.first.ensures.value ∙ ap (λ l. slice_get l 0) c.deref.ensures.value in
    rw (← c.self.view_is)
    (c.unwrap_or.ensures ∙ ap (λ o. unwrap_or o 0) (c.copied.ensures ∙ first) ∙ unwrap_or-slice_get v.ends.items 0 0 ∙ header_width v.ends.items v.fields c.self.invariant.0)

use Rattle.std.proofs.Common.{◌≡◌, ◌∙◌, get_or, ap}
use Rattle.std.specs.Prelude.{slice_get, unwrap_or}
use Rattle.std.proofs.lemmas.Option.{unwrap_or-slice_get}
use Rattle.feed_text.proofs.AccessLaws.{places_at}
use Rattle.feed_text.proofs.table.Table.of.Goals as goal

pub invariant_of-result : goal.invariant_of-result
invariant_of-result c =
    let first = c.first.ensures.value ∙ ap (λ l. slice_get l 0) c.deref.ensures.value in
    let columns : c.unwrap_or.result ≡ get_or c.args.ends.items 0 0 = c.unwrap_or.ensures ∙ ap (λ o. unwrap_or o 0) (c.copied.ensures ∙ first) ∙ unwrap_or-slice_get c.args.ends.items 0 0 in
    (c.requires.rise, c.requires.few, c.in-Some.ensures.cases.same ∙ c.deref-2.ensures.value ∙ c.in_ok-places.ensures ∙ places_at c.args.ends.items c.args.fields c.requires.rise _ columns)

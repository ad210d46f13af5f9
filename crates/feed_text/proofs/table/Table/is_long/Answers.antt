use Rattle.std.proofs.Common.{◌≡◌, ◌∙◌, ℕ, List, ◌+◌, ◌<◌, [], length, refl, ap, get_or, arith, rules, tests}
use Rattle.std.proofs.lemmas.Iterator.{YieldsList-from_range}
use Rattle.std.proofs.lemmas.Iterator.Search.{any_from_yields_List}
use Rattle.std.proofs.lemmas.Option.{unwrap_or-slice_get}
use Rattle.item_groups.specs.Parts.{parts, start_of}
use Rattle.item_groups.proofs.PartLaws.{length_parts}
use Rattle.feed_faults.specs.Records.{header, is_filled, is_long}
use Rattle.feed_text.proofs.AccessLaws.{long_at}
use Rattle.feed_text.proofs.table.Table.is_long.Goals as goal

pub part_of-start-requires-clause-within : goal.part_of-start-requires-clause-within
part_of-start-requires-clause-within c =
    let v = c.self.inside in
    let asked = rw (← c.self.view_is) at c.requires in
    rw c.deref.ensures.value (omega (arith, asked, length_parts 0 v.ends.items v.fields))

pub returns : goal.returns
unfolding is_long
returns c =
    let v = c.self.inside in
    let row = c.args.row + 1 in
    let asked = rw (← c.self.view_is) at c.requires in
    let within : row < length v.ends.items = omega (arith, asked, length_parts 0 v.ends.items v.fields) in
    let start : c.part_of-start.result.0 ≡ start_of 0 v.ends.items row = c.part_of-start.ensures.start ∙ ap (λ (l : List ℕ). start_of 0 l row) c.deref.ensures.value in
    let end : c.part_of-start.result.1 ≡ get_or v.ends.items row 0 = c.part_of-start.ensures.end ∙ ap (λ (l : List ℕ). get_or l row 0) c.deref.ensures.value in
    let wide : c.columns.result ≡ length (header (parts 0 v.ends.items v.fields)) = rw (← c.self.view_is) at c.columns.ensures in
    any_from_yields_List (λ k. is_filled (get_or v.fields k [])) _ _ c.any.result c.any.ensures.ran (YieldsList-from_range _ _ _ refl refl) (λ x b q k. search (rules, tests, unwrap_or-slice_get))
    ∙ rw (← c.self.view_is) (long_at v.ends.items v.fields c.self.invariant.0 row (length (header (parts 0 v.ends.items v.fields))) (c.part_of-start.result.0 + c.columns.result) c.part_of-start.result.1 within (omega (arith, start, wide)) end)

use Rattle.std.proofs.Common.{◌≡◌, ◌∙◌, ℕ, List, Some, None, ◌+◌, ◌<◌, [], length, refl, sym, ap, get_or, arith}
use Rattle.std.proofs.lemmas.Option.{get_or_from_slice_get}
use Rattle.item_groups.specs.Parts.{start_of}
use Rattle.item_groups.proofs.PartLaws.{length_parts}
use Rattle.feed_faults.specs.Records.{field, column_of}
use Rattle.feed_text.proofs.AccessLaws.{field_there, field_short}
use Rattle.feed_text.proofs.table.Table.field.Goals as goal

pub part_of-start-requires-clause-within : goal.part_of-start-requires-clause-within
part_of-start-requires-clause-within c =
    let v = c.self.inside in
    let asked = rw (← c.self.view_is) at c.requires in
    rw c.deref.ensures.value (omega (arith, asked, length_parts 0 v.ends.items v.fields))

pub returns : goal.returns
unfolding field
returns c =
    let v = c.self.inside in
    let row = c.args.row + 1 in
    let asked = rw (← c.self.view_is) at c.requires in
    let within : row < length v.ends.items = omega (arith, asked, length_parts 0 v.ends.items v.fields) in
    let start : c.part_of-start.result.0 ≡ start_of 0 v.ends.items row = c.part_of-start.ensures.start ∙ ap (λ (l : List ℕ). start_of 0 l row) c.deref.ensures.value in
    let end : c.part_of-start.result.1 ≡ get_or v.ends.items row 0 = c.part_of-start.ensures.end ∙ ap (λ (l : List ℕ). get_or l row 0) c.deref.ensures.value in
    let got : get_or v.fields (c.part_of-start.result.0 + c.in-Some.column) [] ≡ c.group.result.now = get_or_from_slice_get v.fields (c.part_of-start.result.0 + c.in-Some.column) c.group.result.now [] c.group.ensures in
    let found : column_of c.args.self.now c.args.name ≡ Some c.in-Some.column = sym c.column.ensures ∙ c.in-Some.is in
    rw found (rw (← c.self.view_is) (sym (field_there v.ends.items v.fields row within c.in-Some.column (rw (← start, ← end) c.if-column-end.false) ∙ rw (← start) got)))

pub returns-then-column-end : goal.returns-then-column-end
unfolding field
returns-then-column-end c =
    let v = c.self.inside in
    let row = c.args.row + 1 in
    let asked = rw (← c.self.view_is) at c.requires in
    let within : row < length v.ends.items = omega (arith, asked, length_parts 0 v.ends.items v.fields) in
    let start : c.part_of-start.result.0 ≡ start_of 0 v.ends.items row = c.part_of-start.ensures.start ∙ ap (λ (l : List ℕ). start_of 0 l row) c.deref.ensures.value in
    let end : c.part_of-start.result.1 ≡ get_or v.ends.items row 0 = c.part_of-start.ensures.end ∙ ap (λ (l : List ℕ). get_or l row 0) c.deref.ensures.value in
    let found : column_of c.args.self.now c.args.name ≡ Some c.in-Some.column = sym c.column.ensures ∙ c.in-Some.is in
    rw found (rw (← c.self.view_is) (sym (field_short v.ends.items v.fields row within c.in-Some.column (rw (← start, ← end) c.if-column-end.true))))

pub returns-in_default : goal.returns-in_default
unfolding field
returns-in_default c =
    let found : column_of c.args.self.now c.args.name ≡ None = sym c.column.ensures ∙ c.in_default.is in
    rw found refl

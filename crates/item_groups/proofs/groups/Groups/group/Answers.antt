use Rattle.std.proofs.Common.{◌≡◌, ◌<◌, ◌∙◌, ap, length, get_or, arith}
use Rattle.item_groups.specs.Parts.{start_of}
use Rattle.item_groups.proofs.PartLaws.{length_parts, slice_get-parts}
use Rattle.item_groups.proofs.groups.Groups.group.Goals as goal

pub part_of-start-requires-clause-within : goal.part_of-start-requires-clause-within
part_of-start-requires-clause-within g c =
    let v = c.self.inside in
    let asked = rw (← c.self.view_is) at c.requires in
    rw c.deref.ensures.value (omega (arith, asked, length_parts 0 v.ends.items v.items.items))

pub returns : goal.returns
returns g c =
    let v = c.self.inside in
    let asked = rw (← c.self.view_is) at c.requires in
    let within : c.args.number < length v.ends.items = omega (arith, asked, length_parts 0 v.ends.items v.items.items) in
    let start : c.part_of-start.result.0 ≡ start_of 0 v.ends.items c.args.number = c.part_of-start.ensures.start ∙ ap (λ l. start_of 0 l c.args.number) c.deref.ensures.value in
    let end : c.part_of-start.result.1 ≡ get_or v.ends.items c.args.number 0 = c.part_of-start.ensures.end ∙ ap (λ l. get_or l c.args.number 0) c.deref.ensures.value in
    rw (← c.self.view_is, c.deref-2.ensures.value, start, end) (slice_get-parts v.ends.items v.items.items c.args.number within)

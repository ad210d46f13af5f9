use Rattle.std.proofs.Common.{◌≡◌, length}
use Rattle.item_groups.specs.Parts.{parts, Rise}
use Rattle.plain_laws.specs.Plain.{list_below}
use Rattle.item_groups.specs.Groups.{group_of}
use Rattle.item_groups.proofs.groups.Groups.of.Given as goal

abbrev pub invariant-loop-group : goal.invariant-loop-group
invariant-loop-group g l = record {
  rise : Rise 0 l.ends.items (length l.items.items);
  groups : parts 0 l.ends.items l.items.items ≡ list_below l.group (group_of l.members.items);
}

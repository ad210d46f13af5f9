use Rattle.std.proofs.Common.{◌≡◌, ◌-◌, ◌++◌, ◌<◌, length, take, get_or}
use Rattle.item_groups.specs.declared.groups.Grouped.{Grouped}
use Rattle.item_groups.specs.Groups.{group_of}
use Rattle.item_groups.proofs.groups.push_group.Given as goal

abbrev pub invariant-loop-place : goal.invariant-loop-place
invariant-loop-place g l = record {
  items : l.items.items ≡ l.fn.items.items ++ group_of (take l.place l.members) l.group;
  own : (d : Grouped _) → l.place < length l.members → (get_or l.members l.place d).group ≡ l.group;
}

abbrev pub decreases-loop-place : goal.decreases-loop-place
decreases-loop-place g l = length l.members - l.place

use Rattle.std.proofs.Common.{◌≡◌, ℕ}
use Rattle.plain_laws.specs.Plain.{joined_below}
use Rattle.item_groups.specs.Groups.{group_of}
use Rattle.feed_rows.specs.StopSets.{row_sets_at}
use Rattle.feed_stops.proofs.sets.memberships.Given as goal

abbrev pub invariant-loop-row : goal.invariant-loop-row
invariant-loop-row l = (i : ℕ) → group_of l.members.items i ≡ joined_below l.row (λ r. row_sets_at l.stops r i)

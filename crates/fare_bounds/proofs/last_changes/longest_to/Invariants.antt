-- None of the rows so far lasts longer than what stands for its groups.
use Rattle.std.proofs.Common.{◌≡◌, ◌+◌, length, vec_len}
use Rattle.fare_bounds.specs.LastChanges.{IsLongestTo}
use Rattle.fare_bounds.proofs.FirstLaws.{AreFirst}
use Rattle.fare_bounds.proofs.last_changes.longest_to.Given as goal

abbrev pub invariant-loop-row : goal.invariant-loop-row
invariant-loop-row l =
    (vec_len l.limits ≡ length l.feed.group_names + 2)
    × AreFirst (IsLongestTo l.groups l.limits.items) l.row-items l.row-index

-- No limit of the rows so far is greater than what stands for its groups.
use Rattle.std.proofs.Common.{◌≡◌, ◌+◌, length, vec_len}
use Rattle.fare_bounds.specs.Limits.{IsWithinLimits}
use Rattle.fare_bounds.proofs.FirstLaws.{AreFirst}
use Rattle.fare_bounds.proofs.limits.greatest_limits.Given as goal

abbrev pub invariant-loop-row : goal.invariant-loop-row
invariant-loop-row l =
    (vec_len l.limits ≡ length l.feed.group_names + 2)
    × AreFirst (IsWithinLimits l.limits.items) l.row-items l.row-index

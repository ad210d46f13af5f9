use Rattle.std.proofs.Common.{ℕ, ◌≤◌, ◌<◌, ◌≤ℤ◌, get_or}
use Rattle.label_bag.proofs.search.count_lower.Given as goal

abbrev pub invariant-loop-place : goal.invariant-loop-place
invariant-loop-place g l = (k : ℕ) (d : _) → l.place ≤ k → k < l.up_to → g.L.Stair.height_of l.label ≤ℤ g.L.Stair.height_of (get_or l.flight k d)

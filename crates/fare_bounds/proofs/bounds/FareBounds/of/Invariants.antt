-- Each level so far is for one ride more than the one before it.
use Rattle.fare_bounds.proofs.BoundLaws.{AreLevels}
use Rattle.fare_bounds.proofs.bounds.FareBounds.of.Given as goal

abbrev pub invariant-loop-more : goal.invariant-loop-more
invariant-loop-more l = AreLevels l.feed l.amounts l.levels.items l.lates.items l.more

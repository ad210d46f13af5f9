use Rattle.std.proofs.Common.{◌≡◌, length}
use Rattle.fare_areas.specs.LikeStops.{AreFirsts, AreLikeStops}
use Rattle.fare_areas.proofs.likes.like_stops.Given as goal

abbrev pub invariant-loop-number : goal.invariant-loop-number
invariant-loop-number l = record { many : length l.likes.items ≡ l.number; firsts : AreFirsts l.feed l.firsts.items; likes : AreLikeStops l.feed l.likes.items }

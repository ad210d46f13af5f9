use Rattle.std.proofs.Common.{◌≡◌, ℕ, ◌<◌, false}
use Rattle.feed_rows.specs.TimedTrips.{is_timed_at}
use Rattle.feed_trips.proofs.scan.next_position.Given as goal

abbrev pub invariant-loop-next : goal.invariant-loop-next
invariant-loop-next l = (k : ℕ) → l.position < k → k < l.next → is_timed_at l.rows k ≡ false

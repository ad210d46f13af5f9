use Rattle.std.proofs.Common.{◌≡◌, length}
use Rattle.feed_tables.specs.IdRows.{AreSlots}
use Rattle.feed_tables.proofs.slots.slots_of.Given as goal

abbrev pub invariant-loop-step : goal.invariant-loop-step
invariant-loop-step l = AreSlots l.rows l.slots × (length l.slots.pilots.items ≡ l.buckets)

abbrev pub invariant-loop-bucket : goal.invariant-loop-bucket
invariant-loop-bucket l = AreSlots l.rows l.slots × (length l.slots.pilots.items ≡ l.buckets)

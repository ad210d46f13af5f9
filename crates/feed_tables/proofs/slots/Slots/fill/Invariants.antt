use Rattle.std.proofs.Common.{◌≡◌, length}
use Rattle.feed_tables.specs.IdRows.{AreSlots}
use Rattle.feed_tables.proofs.slots.Slots.fill.Given as goal

abbrev pub invariant-loop-member : goal.invariant-loop-member
invariant-loop-member l = AreSlots l.rows l.self × (length l.self.pilots.items ≡ length l.fn.self.pilots.items)

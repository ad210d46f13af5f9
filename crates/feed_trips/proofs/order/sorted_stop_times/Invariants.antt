use Rattle.std.proofs.Common.{◌≡◌, map, take}
use Rattle.feed_trips.proofs.OrderLaws.{row_of}
use Rattle.feed_trips.proofs.order.sorted_stop_times.Given as goal

abbrev pub invariant-loop-key : goal.invariant-loop-key
invariant-loop-key l = l.sorted.items ≡ map (row_of l.rows) (take l.key-index l.key-items)

use Rattle.std.proofs.Common.{◌≡◌, ◌++◌}
use Rattle.stop_order.specs.Order.{stretch_from}
use Rattle.stop_order.proofs.StretchLaws.{rest}
use Rattle.stop_order.proofs.keys.push_stretch.Given as goal

abbrev pub invariant-loop-row : goal.invariant-loop-row
invariant-loop-row g l = l.keys.items ++ rest (g.T.StopTimes.times l.times) l.row ≡ l.fn.keys.items ++ stretch_from (g.T.StopTimes.times l.times) l.fn.from

use Rattle.stop_order.specs.Order.{row_at, AreTold}
use Rattle.stop_order.proofs.pass.order_faults.Given as goal

abbrev pub invariant-loop-place : goal.invariant-loop-place
invariant-loop-place g l = AreTold (g.T.StopTimes.times l.times) (row_at l.order.1.0.now) l.place l.latest l.faults.items

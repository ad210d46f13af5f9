use Rattle.stop_order.specs.Order.{AreTold, AreMarked}
use Rattle.stop_order.proofs.TogetherLaws.{in_file}
use Rattle.stop_order.proofs.pass.faults_together.Given as goal

abbrev pub invariant-loop-row : goal.invariant-loop-row
invariant-loop-row g l = AreMarked (g.T.StopTimes.times l.times) l.row l.begun.items × AreTold (g.T.StopTimes.times l.times) in_file l.row l.latest l.faults.items

use Rattle.plan_rides.specs.Boarding.{AddsMarks, IsNear}
use Rattle.plan_rides.proofs.sought.mark_from.Given as goal

abbrev pub invariant-loop-k : goal.invariant-loop-k
invariant-loop-k l = AddsMarks (IsNear l.fn.first l.walks l.k) l.fn.marks l.marks

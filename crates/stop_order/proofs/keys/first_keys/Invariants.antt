use Rattle.stop_order.proofs.StretchLaws.{AreFirstTo}
use Rattle.stop_order.proofs.keys.first_keys.Given as goal

abbrev pub invariant-loop-row : goal.invariant-loop-row
invariant-loop-row g l = AreFirstTo (g.T.StopTimes.times l.times) l.row l.firsts.items

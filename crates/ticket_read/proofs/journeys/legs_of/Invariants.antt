use Rattle.ticket_read.proofs.LoopLaws.{AreLegsBelow}
use Rattle.ticket_read.proofs.journeys.legs_of.Given as goal

abbrev pub invariant-loop-k : goal.invariant-loop-k
invariant-loop-k l = AreLegsBelow l.timetable l.rides l.k l.legs.items

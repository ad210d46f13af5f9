use Rattle.feed_timetable.specs.Standings.{stand_of}
use Rattle.plan_rides.proofs.FoundLaws.{HasFoundBelow}
use Rattle.plan_rides.proofs.positions.Positions.next.Given as goal

abbrev pub invariant-loop-k : goal.invariant-loop-k
invariant-loop-k l = HasFoundBelow l.self (stand_of l.fn.standing) l.reached.items l.k l.rides.items

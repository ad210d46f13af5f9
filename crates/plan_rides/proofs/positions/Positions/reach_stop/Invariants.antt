use Rattle.feed_timetable.specs.Standings.{stand_of}
use Rattle.plan_rides.specs.Cutoffs.{cutoff_of}
use Rattle.plan_rides.specs.Reached.{AddsReached}
use Rattle.plan_rides.specs.Served.{TakesTimed}
use Rattle.plan_rides.proofs.positions.Positions.reach_stop.Given as goal

abbrev pub invariant-loop-k : goal.invariant-loop-k
invariant-loop-k l =
    AddsReached l.self (cutoff_of l.lasts) (stand_of l.who.standing) l.who.number (TakesTimed l.self.patterns l.served l.k) l.fn.reached.items l.reached.items

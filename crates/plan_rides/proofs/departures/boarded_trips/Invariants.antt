use Rattle.plan_rides.proofs.DepartureLaws.{ListsBoarded}
use Rattle.plan_rides.proofs.departures.boarded_trips.Given as goal

abbrev pub invariant-loop-row : goal.invariant-loop-row
invariant-loop-row l = ListsBoarded l.timetable l.sought l.row-index l.marks.items l.trips.items

use Rattle.std.proofs.Common.{map}
use Rattle.plan_rides.specs.Cutoffs.{cutoff_of}
use Rattle.plan_rides.specs.Departures.{IsByAmong, departure_at}
use Rattle.plan_rides.specs.Reached.{AddsFound}
use Rattle.plan_rides.proofs.positions.Positions.add_rides.Given as goal

abbrev pub invariant-loop-k : goal.invariant-loop-k
invariant-loop-k l =
    AddsFound l.self.feed l.self.query (cutoff_of l.latest) l.reached.stop.0 l.reached.earliest.0
    (IsByAmong l.self.feed (map (departure_at l.timetable l.reached.stop l.reached.serving.position l.runs) l.boardings) l.k) l.fn.rides.items l.rides.items

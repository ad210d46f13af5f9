use Rattle.std.proofs.Common.{◌+◌, ◌≤◌}
use Rattle.plan_rides.specs.Cutoffs.{cutoff_of}
use Rattle.plan_rides.specs.Departures.{IsByBefore}
use Rattle.plan_rides.specs.Reached.{AddsFound}
use Rattle.plan_rides.proofs.positions.add_departure.Given as goal

abbrev pub invariant-loop-to : goal.invariant-loop-to
invariant-loop-to l = record {
  later : l.departure.from + 1 ≤ l.to;
  adds : AddsFound l.timetable l.query (cutoff_of l.latest) l.departure.stop.0 l.departure.at.0 (IsByBefore l.timetable l.departure l.to) l.fn.rides.items l.rides.items;
}

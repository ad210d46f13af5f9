use Rattle.plan_rides.specs.Spans.{AddsBoards, IsEndFrom, IsOfTripFrom}
use Rattle.plan_rides.proofs.boards.add_trip.Given as goal

abbrev pub invariant-loop-k : goal.invariant-loop-k
invariant-loop-k l = record {
  ends : IsEndFrom l.spans l.calls l.k l.end;
  adds : AddsBoards l.timetable l.window l.spans (IsOfTripFrom l.fn.trip l.k) l.fn.boards l.boards;
}

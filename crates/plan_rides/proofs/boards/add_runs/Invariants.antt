use Rattle.plan_rides.specs.Spans.{AddsBoards, IsOfRuns}
use Rattle.plan_rides.proofs.boards.add_runs.Given as goal

abbrev pub invariant-loop-k : goal.invariant-loop-k
invariant-loop-k l = AddsBoards l.timetable l.window l.spans (IsOfRuns l.runs l.k) l.fn.boards l.boards

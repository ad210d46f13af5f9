use Rattle.plan_rides.specs.Spans.{AddsBoards, IsOfPatterns}
use Rattle.plan_rides.proofs.boards.add_patterns.Given as goal

abbrev pub invariant-loop-pattern : goal.invariant-loop-pattern
invariant-loop-pattern l =
    AddsBoards l.timetable l.window l.spans (IsOfPatterns l.patterns.patterns l.pattern) l.fn.boards l.boards

use Rattle.std.specs.Prelude.{◌≡◌}
use Rattle.plan_patterns.specs.HeldRuns.{held_of_trips}
use Rattle.plan_patterns.proofs.held.held_runs.Given as goal

abbrev pub invariant-loop-place : goal.invariant-loop-place
invariant-loop-place l = l.runs.items ≡ held_of_trips l.timetable l.span l.trips l.place

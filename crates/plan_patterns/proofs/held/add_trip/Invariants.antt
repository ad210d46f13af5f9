use Rattle.std.specs.Prelude.{◌≡◌, ◌++◌}
use Rattle.plan_patterns.specs.HeldRuns.{held_on_days}
use Rattle.plan_patterns.proofs.held.add_trip.Given as goal

abbrev pub invariant-loop-days : goal.invariant-loop-days
invariant-loop-days l = l.runs.items ≡ l.fn.runs.items ++ held_on_days l.timetable l.span l.trip l.days

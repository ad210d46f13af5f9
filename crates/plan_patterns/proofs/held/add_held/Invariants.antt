use Rattle.std.specs.Prelude.{◌≡◌, ◌++◌}
use Rattle.plan_patterns.specs.HeldRuns.{held_among}
use Rattle.plan_patterns.proofs.held.add_held.Given as goal

abbrev pub invariant-loop-place : goal.invariant-loop-place
invariant-loop-place l = l.runs.items ≡ l.fn.runs.items ++ held_among l.span l.trip l.day l.shifts l.calls l.place

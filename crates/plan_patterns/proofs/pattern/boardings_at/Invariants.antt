use Rattle.plan_patterns.specs.Columns.{AreFirst}
use Rattle.plan_patterns.proofs.pattern.boardings_at.Given as goal

abbrev pub invariant-loop-number : goal.invariant-loop-number
invariant-loop-number l = AreFirst l.timetable l.runs l.position l.number l.boardings.items

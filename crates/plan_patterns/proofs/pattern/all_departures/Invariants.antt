use Rattle.plan_patterns.specs.Columns.{AreColumns}
use Rattle.plan_patterns.proofs.pattern.all_departures.Given as goal

abbrev pub invariant-loop-position : goal.invariant-loop-position
invariant-loop-position l = AreColumns l.timetable l.runs l.position l.departures

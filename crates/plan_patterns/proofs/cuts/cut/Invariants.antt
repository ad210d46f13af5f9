use Rattle.plan_patterns.specs.Cuts.{IsCutTo}
use Rattle.plan_patterns.proofs.cuts.cut.Given as goal

abbrev pub invariant-loop-at : goal.invariant-loop-at
invariant-loop-at l = IsCutTo l.timetable l.together l.start l.at l.patterns.items

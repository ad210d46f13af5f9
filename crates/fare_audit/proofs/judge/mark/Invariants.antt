use Rattle.std.proofs.Common.{take}
use Rattle.fare_audit.specs.Found.{MarksAll}
use Rattle.fare_audit.proofs.judge.mark.Given as goal

abbrev pub invariant-loop-rule : goal.invariant-loop-rule
invariant-loop-rule l = MarksAll (take l.rule-index l.rules) l.initial.used l.used

use Rattle.std.proofs.Common.{◌≡◌, take}
use Rattle.fare_leg_rules.proofs.rule_list.Given as goal

abbrev pub invariant-loop-rule : goal.invariant-loop-rule
invariant-loop-rule l = l.list ≡ take l.rule-index l.rules

use Rattle.std.proofs.Common.{◌∙◌, take_all}
use Rattle.fare_leg_rules.proofs.rule_list.Goals as goal

pub returns : goal.returns
returns c = c.loop-rule.invariant ∙ take_all c.loop-rule.rule-index c.args.rules.now c.loop-rule-test.false

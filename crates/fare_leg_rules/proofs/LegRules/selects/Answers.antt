use Rattle.std.proofs.Common.{◌∙◌}
use Rattle.fare_leg_rules.proofs.RuleLaws.{chosen_is}
use Rattle.fare_leg_rules.proofs.LegRules.selects.Goals as goal

pub returns : goal.returns
returns c = λ feed are.
    c.is_chosen.ensures ∙ chosen_is feed c.args.self.now are c.args.leg.now c.top_priority.result (c.top_priority.ensures feed are) c.args.rule.0

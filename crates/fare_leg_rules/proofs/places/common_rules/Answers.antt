use Rattle.std.proofs.Common.{◌∙◌, ap, filter, take_all}
use Rattle.fare_leg_rules.specs.Places.{is_common, passes_at}
use Rattle.fare_leg_rules.proofs.places.common_rules.Goals as goal

pub returns : goal.returns
returns c =
    c.loop-rule.invariant ∙ ap (filter (passes_at c.args.rows.now is_common)) (take_all c.loop-rule.rule-index c.args.placed.now c.loop-rule-test.false)

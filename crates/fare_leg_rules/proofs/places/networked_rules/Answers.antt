use Rattle.std.proofs.Common.{◌∙◌, ap, filter, take_all}
use Rattle.fare_leg_rules.specs.Places.{is_of, passes_at}
use Rattle.fare_leg_rules.proofs.PlaceLaws.{rules_more}
use Rattle.fare_leg_rules.proofs.places.networked_rules.Goals as goal

pub loop-rule-preserved : goal.loop-rule-preserved
loop-rule-preserved c = λ network.
    rules_more (passes_at c.args.rows.now (is_of network)) c.args.placed.now c.loop-rule.rule-index _ _ _ c.loop-rule-test.true (c.loop-rule.invariant network) (c.in_ok-push_networked.ensures network)

pub returns : goal.returns
returns c = λ network.
    c.loop-rule.invariant network ∙ ap (filter (passes_at c.args.rows.now (is_of network))) (take_all c.loop-rule.rule-index c.args.placed.now c.loop-rule-test.false)

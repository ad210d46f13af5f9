-- One rule more.
use Rattle.std.proofs.Common.{[]}
use Rattle.transit_base.specs.declared.numbers.RuleId.{RuleId}
use Rattle.fare_automaton.specs.Options.{rule_picks}
use Rattle.fare_automaton.proofs.AddedLaws.{flat_added, flat_whole}
use Rattle.fare_automaton.proofs.automaton.Automaton.picks_of.Goals as goal

pub loop-rule-init : goal.loop-rule-init
loop-rule-init c = c.new-picks.ensures.items

pub loop-rule-preserved : goal.loop-rule-preserved
loop-rule-preserved c =
    flat_added (λ (rule : RuleId). rule_picks c.args.self.now.feed c.args.self.now.buyer rule.0) c.args.rules.now
    c.loop-rule.rule-index _ [] _ _ c.loop-rule-test.true c.loop-rule.invariant c.in_ok-push_rule.ensures

pub returns : goal.returns
returns c =
    flat_whole (λ (rule : RuleId). rule_picks c.args.self.now.feed c.args.self.now.buyer rule.0)
    c.args.rules.now c.loop-rule.rule-index [] _ c.loop-rule-test.false c.loop-rule.invariant

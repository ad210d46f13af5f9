-- The choices of the rules so far.
use Rattle.std.proofs.Common.{◌≡◌, take}
use Rattle.std.specs.Prelude.{flat_map}
use Rattle.transit_base.specs.declared.numbers.RuleId.{RuleId}
use Rattle.fare_automaton.specs.Options.{rule_picks}
use Rattle.fare_automaton.proofs.automaton.Automaton.picks_of.Given as goal

abbrev pub invariant-loop-rule : goal.invariant-loop-rule
invariant-loop-rule l =
    l.picks.items ≡ flat_map (λ (rule : RuleId). rule_picks l.self.feed l.self.buyer rule.0) (take l.rule-index l.rules)

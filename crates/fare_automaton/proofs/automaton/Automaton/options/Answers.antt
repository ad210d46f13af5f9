-- The rules and rows, one after another, are exactly what can be paid.
use Rattle.std.proofs.Common.{◌∙◌, ap}
use Rattle.std.specs.Prelude.{flat_map}
use Rattle.std.proofs.lemmas.Result.{IfOk-weaker}
use Rattle.transit_base.specs.declared.numbers.RuleId.{RuleId}
use Rattle.feed_rows.specs.LegRules.{selected_rules}
use Rattle.fare_automaton.specs.Terms.{FareTerms}
use Rattle.fare_automaton.specs.Options.{ArePicks, rule_picks}
use Rattle.fare_automaton.proofs.OptionLaws.{are_picks, picks_are}
use Rattle.fare_automaton.proofs.automaton.Automaton.options.Goals as goal

pub returns-in-Ok : goal.returns-in-Ok
returns-in-Ok c =
    let feed = c.args.self.now.feed in
    let buyer = c.args.self.now.buyer in
    let leg = c.args.leg.now in
    IfOk-weaker c.picks_of.result _ (λ picks. ArePicks feed buyer leg picks.items)
    (λ picks is. are_picks feed buyer leg picks.items
    (is ∙ ap (flat_map (λ (rule : RuleId). rule_picks feed buyer rule.0))
    (c.items.ensures.value ∙ c.in-Ok.ensures _ c.self.invariant.0 ∙ ap (λ (t : FareTerms). selected_rules t.feed leg) c.self.view_is)
    ∙ picks_are feed buyer leg))
    c.picks_of.ensures

-- The choice for a leg, by its two parts.
use Rattle.std.proofs.Common.{◌∙◌, ap, refl, true, false}
use Rattle.feed_rows.specs.FareSteps.{leg_taken}
use Rattle.feed_rows.specs.LegRules.{is_selected_rule}
use Rattle.plain_laws.specs.Plain.{at_and}
use Rattle.fare_automaton.specs.Terms.{FareTerms}
use Rattle.fare_automaton.proofs.JudgeLaws.{leg_choice_by, leg_choice_past}
use Rattle.fare_automaton.proofs.automaton.Automaton.is_leg_choice.Goals as goal

pub returns-then-selects : goal.returns-then-selects
returns-then-selects c =
    let leg = c.args.leg.now in
    let taken = c.args.taken.now in
    leg_choice_by c.args.self.now.feed c.args.buyer leg (leg_taken taken) c.in-Some.own.now true _ c.in-Some.ensures
    (c.if-selects.ensures _ c.self.invariant.0 ∙ ap (λ (t : FareTerms). at_and t.feed.leg_rules taken.rule.0 (is_selected_rule t.feed leg)) c.self.view_is)
    c.is_open_row.ensures

pub returns-else-selects : goal.returns-else-selects
returns-else-selects c =
    let leg = c.args.leg.now in
    let taken = c.args.taken.now in
    c.if-selects.false
    ∙ leg_choice_by c.args.self.now.feed c.args.buyer leg (leg_taken taken) c.in-Some.own.now false _ c.in-Some.ensures
    (c.if-selects.ensures _ c.self.invariant.0 ∙ ap (λ (t : FareTerms). at_and t.feed.leg_rules taken.rule.0 (is_selected_rule t.feed leg)) c.self.view_is)
    refl

pub returns-in-None : goal.returns-in-None
returns-in-None c =
    leg_choice_past c.args.self.now.feed c.args.buyer c.args.leg.now (leg_taken c.args.taken.now) c.in-None.ensures

-- What is judged of a leg part by part.
use Rattle.std.proofs.Common.{◌≡◌, refl, ◌∙◌, ap, Bool, false, ◌&&◌}
use Rattle.std.specs.Prelude.{Option, Some, None, slice_get}
use Rattle.feed_rows.specs.declared.journeys.Buyer.{Buyer}
use Rattle.feed_rows.specs.declared.fares.LegChoice.{LegChoice}
use Rattle.feed_rows.specs.declared.journeys.LegFacts.{LegFacts}
use Rattle.feed_rows.specs.declared.rows.LegRuleRow.{LegRuleRow}
use Rattle.feed_rows.specs.FeedRows.{FeedRows}
use Rattle.feed_rows.specs.LegRules.{is_selected_rule}
use Rattle.feed_rows.specs.FareChoices.{is_open, is_leg_choice}
use Rattle.plain_laws.specs.Plain.{at_and, filled_and}

-- the rule is selected, and the row is one of its product
pub leg_choice_parts : (feed : FeedRows) (buyer : Buyer) (leg : LegFacts) (pick : LegChoice) (a b : Bool) →
    a ≡ at_and feed.leg_rules pick.rule.0 (is_selected_rule feed leg) →
    b ≡ at_and feed.leg_rules pick.rule.0 (λ rule. at_and feed.products pick.product.0 (is_open rule.product buyer)) →
    (a && b) ≡ is_leg_choice feed buyer leg pick
unfolding is_leg_choice
leg_choice_parts feed buyer leg pick a b is_a is_b = rw (is_a, is_b) (by (slice_get feed.leg_rules pick.rule.0))
  where
    by : (o : Option LegRuleRow) →
        (filled_and o (is_selected_rule feed leg) && filled_and o (λ rule. at_and feed.products pick.product.0 (is_open rule.product buyer)))
        ≡ filled_and o (λ rule. is_selected_rule feed leg rule && at_and feed.products pick.product.0 (is_open rule.product buyer))
    by None = refl
    by (Some rule) = refl

-- a leg is paid by a rule that there is
pub leg_choice_by : (feed : FeedRows) (buyer : Buyer) (leg : LegFacts) (pick : LegChoice) (row : LegRuleRow) (a b : Bool) →
    Some row ≡ slice_get feed.leg_rules pick.rule.0 →
    a ≡ at_and feed.leg_rules pick.rule.0 (is_selected_rule feed leg) →
    b ≡ at_and feed.products pick.product.0 (is_open row.product buyer) →
    (a && b) ≡ is_leg_choice feed buyer leg pick
leg_choice_by feed buyer leg pick row a b found is_a is_b =
    leg_choice_parts feed buyer leg pick a b is_a
    (is_b ∙ ap (λ o. filled_and o (λ (rule : LegRuleRow). at_and feed.products pick.product.0 (is_open rule.product buyer))) found)

pub leg_choice_past : (feed : FeedRows) (buyer : Buyer) (leg : LegFacts) (pick : LegChoice) → None ≡ slice_get feed.leg_rules pick.rule.0 →
    false ≡ is_leg_choice feed buyer leg pick
unfolding is_leg_choice
leg_choice_past feed buyer leg pick none =
    ap (λ o. filled_and o (λ (rule : LegRuleRow). is_selected_rule feed leg rule && at_and feed.products pick.product.0 (is_open rule.product buyer))) none

-- Stops, times and rides that fare rules see alike.
use Rattle.std.proofs.Common.{◌≡◌, refl, sym, ◌∙◌, ap, ℕ, Bool, ◌&&◌, List, pos}
use Rattle.std.specs.Prelude.{Option, Some, None, slice_get}
use Rattle.std.specs.List.{list_any}
use Rattle.transit_base.specs.declared.numbers.AreaId.{AreaId}
use Rattle.transit_base.specs.declared.numbers.FrameId.{FrameId}
use Rattle.transit_base.specs.declared.numbers.NetworkId.{NetworkId}
use Rattle.feed_rows.specs.declared.journeys.Buyer.{Buyer}
use Rattle.feed_rows.specs.declared.journeys.LegFacts.{LegFacts}
use Rattle.feed_rows.specs.declared.journeys.RideFacts.{RideFacts}
use Rattle.feed_rows.specs.declared.rows.LegRuleRow.{LegRuleRow}
use Rattle.feed_rows.specs.FareChoices.{is_open}
use Rattle.feed_rows.specs.FareGaps.{has_option}
use Rattle.feed_rows.specs.FeedRows.{FeedRows}
use Rattle.feed_rows.specs.LegRules.{is_selected_rule, is_top_priority, rule_matches}
use Rattle.feed_rows.specs.Legs.{leg_facts}
use Rattle.plain_laws.proofs.Laws.{list_any_same}
use Rattle.fare_timeframes.specs.Cuts.{AreLike}
use Rattle.fare_audit.specs.Found.{selects}

-- a leg as rules see it
bare : Option NetworkId → List AreaId → List AreaId → List FrameId → List FrameId → LegFacts
bare network from_areas to_areas from_frames to_frames =
    record {
      network = network;
      from_areas = from_areas;
      to_areas = to_areas;
      from_frames = from_frames;
      to_frames = to_frames;
      departure = record { 0 = pos 0 };
      arrival = record { 0 = pos 0 };
    }

-- rules don't look at its moments
by_parts : (feed : FeedRows) (leg : LegFacts) (rule : LegRuleRow) →
    is_selected_rule feed leg rule ≡ is_selected_rule feed (bare leg.network leg.from_areas leg.to_areas leg.from_frames leg.to_frames) rule
unfolding is_selected_rule is_top_priority rule_matches bare
by_parts feed leg rule = refl

module _ (feed : FeedRows) (a b : RideFacts) (like : AreLike feed a b) where
  pub selected_like : (rule : LegRuleRow) → is_selected_rule feed (leg_facts feed a) rule ≡ is_selected_rule feed (leg_facts feed b) rule
  unfolding leg_facts
  selected_like rule =
      by_parts feed (leg_facts feed a) rule
      ∙ rw (like.network, like.from_areas, like.to_areas, like.from_frames, like.to_frames) refl
      ∙ sym (by_parts feed (leg_facts feed b) rule)

  pub selects_like : (i : ℕ) → selects feed a i ≡ selects feed b i
  selects_like i = step (slice_get feed.leg_rules i)
    where
      step : (o : Option LegRuleRow) → Rattle.plain_laws.specs.Plain.filled_and o (is_selected_rule feed (leg_facts feed a)) ≡ Rattle.plain_laws.specs.Plain.filled_and o (is_selected_rule feed (leg_facts feed b))
      step None = refl
      step (Some rule) = selected_like rule

  pub option_like : (buyer : Buyer) → has_option feed buyer (leg_facts feed a) ≡ has_option feed buyer (leg_facts feed b)
  unfolding has_option
  option_like buyer =
      list_any_same _ _ feed.leg_rules (λ rule. ap (λ (s : Bool). s && list_any (is_open rule.product buyer) feed.products) (selected_like rule))

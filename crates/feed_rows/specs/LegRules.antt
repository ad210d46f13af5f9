-- Which leg rules a leg selects. (GTFS Schedule Reference: fare_leg_rules.txt.)
use Rattle.std.specs.Prelude.{ℕ, Bool, not, ◌&&◌, ◌||◌, ◌==◌, nat_le, List, Option, Some, None}
use Rattle.std.specs.List.{list_any, list_all}
use Rattle.transit_base.specs.declared.numbers.AreaId.{AreaId}
use Rattle.transit_base.specs.declared.numbers.FrameId.{FrameId}
use Rattle.transit_base.specs.declared.numbers.NetworkId.{NetworkId}
use Rattle.transit_base.specs.declared.numbers.RuleId.{RuleId}
use Rattle.feed_rows.specs.declared.journeys.LegFacts.{LegFacts}
use Rattle.feed_rows.specs.declared.rows.LegRuleRow.{LegRuleRow}
use Rattle.feed_rows.specs.FeedRows.{FeedRows}
use Rattle.plain_laws.specs.Plain.{empty_or, filled_and, ids_where}

-- some rule names the network
abbrev pub is_listed_network : FeedRows → NetworkId → Bool
is_listed_network feed network = list_any (λ rule. filled_and rule.network (λ n. n.0 == network.0)) feed.leg_rules

-- some rule names the area in this column
abbrev pub is_listed_area : FeedRows → (LegRuleRow → Option AreaId) → AreaId → Bool
is_listed_area feed column area = list_any (λ rule. filled_and (column rule) (λ a. a.0 == area.0)) feed.leg_rules

-- a filled network is the leg's; an empty one matches each leg where there are priorities, and else a leg without a
-- network or with one that no rule names
unfoldable pub network_matches : FeedRows → Option NetworkId → Option NetworkId → Bool
network_matches feed (Some network) leg = filled_and leg (λ n. n.0 == network.0)
network_matches feed None leg = feed.has_priority || empty_or leg (λ n. not (is_listed_network feed n))

-- a filled area is among those of the stop; an empty one matches each stop where there are priorities, and else a stop
-- none of whose areas a rule names in this column
unfoldable pub area_matches : FeedRows → (LegRuleRow → Option AreaId) → Option AreaId → List AreaId → Bool
area_matches feed column (Some area) areas = list_any (λ a. a.0 == area.0) areas
area_matches feed column None areas = feed.has_priority || list_all (λ a. not (is_listed_area feed column a)) areas

-- a filled timeframe group is among those that hold; an empty one always matches
unfoldable pub frame_matches : Option FrameId → List FrameId → Bool
frame_matches frame frames = empty_or frame (λ f. list_any (λ g. g.0 == f.0) frames)

-- the rule matches the leg, field by field
unfoldable pub rule_matches : FeedRows → LegFacts → LegRuleRow → Bool
rule_matches feed leg rule =
    network_matches feed rule.network leg.network
    && area_matches feed (λ r. r.from_area) rule.from_area leg.from_areas
    && area_matches feed (λ r. r.to_area) rule.to_area leg.to_areas
    && frame_matches rule.from_frame leg.from_frames
    && frame_matches rule.to_frame leg.to_frames

-- no rule that matches the leg has a higher priority
unfoldable pub is_top_priority : FeedRows → LegFacts → ℕ → Bool
is_top_priority feed leg priority =
    list_all (λ rule. not (rule_matches feed leg rule) || nat_le rule.priority priority) feed.leg_rules

-- the leg selects the rule: it matches, with the highest priority among all that match
unfoldable pub is_selected_rule : FeedRows → LegFacts → LegRuleRow → Bool
is_selected_rule feed leg rule = rule_matches feed leg rule && is_top_priority feed leg rule.priority

-- the rules that the leg selects, in file order
abbrev pub selected_rules : FeedRows → LegFacts → List RuleId
selected_rules feed leg = ids_where (λ i. record { 0 = i }) (is_selected_rule feed leg) feed.leg_rules

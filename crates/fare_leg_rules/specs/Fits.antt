-- Whether a rule matches a leg, where what rules name is marked.
use Rattle.std.specs.Prelude.{◌≡◌, ℕ, Bool, not, ◌&&◌, ◌||◌, ◌==◌, nat_le, if◌then◌else◌, List, [], map, filter, Option, Some, None, slice_get}
use Rattle.std.specs.List.{list_any, list_all}
use Rattle.std.specs.Option.{option_map_or}
use Rattle.transit_base.specs.declared.numbers.AreaId.{AreaId}
use Rattle.transit_base.specs.declared.numbers.NetworkId.{NetworkId}
use Rattle.transit_base.specs.declared.numbers.RuleId.{RuleId}
use Rattle.feed_rows.specs.declared.journeys.LegFacts.{LegFacts}
use Rattle.feed_rows.specs.declared.rows.LegRuleRow.{LegRuleRow}
use Rattle.feed_rows.specs.LegRules.{frame_matches}
use Rattle.plain_laws.specs.Plain.{at_and, empty_or, filled_and}
use Rattle.fare_leg_rules.specs.declared.LegRules.{LegRules}
use Rattle.number_marks.specs.Marks.{is_marked}
use Rattle.fare_leg_rules.specs.Places.{rules_at}
use Rattle.fare_leg_rules.specs.declared.places.PlacedRule.{PlacedRule}

-- the network of a rule is that of a leg
abbrev pub network_fits : Bool → List Bool → Option NetworkId → Option NetworkId → Bool
network_fits ranked named (Some network) leg = filled_and leg (λ n. n.0 == network.0)
network_fits ranked named None leg = ranked || empty_or leg (λ n. not (is_marked named n.0))

-- the area of a rule is that of a stop with these areas
abbrev pub area_fits : Bool → List Bool → Option AreaId → List AreaId → Bool
area_fits ranked named (Some area) areas = list_any (λ a. a.0 == area.0) areas
area_fits ranked named None areas = ranked || list_all (λ a. not (is_marked named a.0)) areas

-- the rule matches the leg
unfoldable pub fits : LegRules → LegFacts → LegRuleRow → Bool
fits rules leg row =
    network_fits rules.has_priority rules.networks.items row.network leg.network
    && area_fits rules.has_priority rules.from_areas.items row.from_area leg.from_areas
    && area_fits rules.has_priority rules.to_areas.items row.to_area leg.to_areas
    && frame_matches row.from_frame leg.from_frames
    && frame_matches row.to_frame leg.to_frames

-- the priority of a rule that matches, and 0 of one that doesn't
abbrev pub weight : LegRules → LegFacts → LegRuleRow → ℕ
weight rules leg row = if fits rules leg row then row.priority else 0

-- the rule matches, with at least this priority
abbrev pub is_chosen : LegRules → LegFacts → ℕ → LegRuleRow → Bool
is_chosen rules leg least row = fits rules leg row && nat_le least row.priority

-- the same of the rule with this number
abbrev pub weight_of : LegRules → LegFacts → RuleId → ℕ
weight_of rules leg rule = option_map_or (weight rules leg) (slice_get rules.rules.items rule.0) 0

-- the rule weighs no more than so much
abbrev pub is_within : LegRules → LegFacts → ℕ → PlacedRule → Bool
is_within rules leg priority placed = nat_le (weight_of rules leg placed.rule) priority

abbrev pub is_chosen_at : LegRules → LegFacts → ℕ → PlacedRule → Bool
is_chosen_at rules leg least placed = at_and rules.rules.items placed.rule.0 (is_chosen rules leg least)

-- those that are chosen among these
abbrev pub chosen_among : LegRules → LegFacts → ℕ → List PlacedRule → List RuleId
chosen_among rules leg least placed = map (λ (p : PlacedRule). p.rule) (filter (is_chosen_at rules leg least) placed)

-- the rules of the leg's network
abbrev pub own_rules : LegRules → LegFacts → List PlacedRule
own_rules rules leg = option_map_or (λ n. rules_at rules.by_network n.0) leg.network []

-- no rule weighs more, and no less is enough for that
abbrev pub IsTop : LegRules → LegFacts → ℕ → Type 0
IsTop rules leg top = (priority : ℕ) → nat_le top priority ≡ list_all (λ row. nat_le (weight rules leg row) priority) rules.rules.items

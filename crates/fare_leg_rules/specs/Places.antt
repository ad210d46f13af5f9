-- The rules without a network, and those of each network, by the area that they name in the column `from_area_id`.
use Rattle.std.specs.Prelude.{◌≡◌, ℕ, ◌+◌, ◌<◌, ◌≤◌, Bool, true, ◌==◌, is_none, List, [], ◌++◌, Option, Some, None, Contains, filter, slice_get, unwrap_or}
use Rattle.std.specs.List.{flat_map}
use Rattle.std.specs.List.Sorted.{IsNonDecreasingBy}
use Rattle.std.specs.Option.{option_map_or}
use Rattle.transit_base.specs.declared.numbers.AreaId.{AreaId}
use Rattle.transit_base.specs.declared.numbers.RuleId.{RuleId}
use Rattle.feed_rows.specs.declared.rows.LegRuleRow.{LegRuleRow}
use Rattle.plain_laws.specs.Plain.{at_and, filled_and}
use Rattle.fare_leg_rules.specs.declared.places.PlacedRule.{PlacedRule}

abbrev pub rule_of : ℕ → RuleId
rule_of i = record { 0 = i }

-- where rules stand that name this area: those that name none first
abbrev pub place_of : Option AreaId → ℕ
place_of None = 0
place_of (Some area) = area.0 + 1

-- the rule with this number and its place
abbrev pub placed_at : List LegRuleRow → ℕ → PlacedRule
placed_at rows i = record { place = option_map_or (λ (row : LegRuleRow). place_of row.from_area) (slice_get rows i) 0; rule = rule_of i }

-- the rule has no network
abbrev pub is_common : LegRuleRow → Bool
is_common row = is_none row.network

-- the rule is of the network
abbrev pub is_of : ℕ → LegRuleRow → Bool
is_of network row = filled_and row.network (λ n. n.0 == network)

-- the row of the rule passes the test
abbrev pub passes_at : List LegRuleRow → (LegRuleRow → Bool) → PlacedRule → Bool
passes_at rows test placed = at_and rows placed.rule.0 test

abbrev pub stands_at : ℕ → PlacedRule → Bool
stands_at place placed = placed.place == place

-- the rules of a network
abbrev pub rules_at : List (List PlacedRule) → ℕ → List PlacedRule
rules_at groups network = unwrap_or (slice_get groups network) []

-- those of the rules that name no area or one of these
abbrev pub candidates : List PlacedRule → List AreaId → List PlacedRule
candidates placed areas = filter (stands_at 0) placed ++ flat_map (λ area. filter (stands_at (area.0 + 1)) placed) areas

-- a rule whose row passes the test
pub record IsRow (rows : List LegRuleRow) (test : LegRuleRow → Bool) (rule : RuleId) : Type 0 where
  pub row : LegRuleRow
  pub got : slice_get rows rule.0 ≡ Some row
  pub passes : test row ≡ true

-- those of the rules whose rows pass the test, by place
pub record HasRules (rows : List LegRuleRow) (test : LegRuleRow → Bool) (placed : List PlacedRule) : Type 0 where
  pub rises : IsNonDecreasingBy (λ (rule : PlacedRule). rule.place) placed
  pub tells : (rule : PlacedRule) → Contains placed rule → IsRow rows test rule.rule
  pub has : (i : ℕ) (row : LegRuleRow) → slice_get rows i ≡ Some row → test row ≡ true → Contains placed (record { place = place_of row.from_area; rule = rule_of i })

-- all rules, by place
abbrev pub ArePlaced : List LegRuleRow → List PlacedRule → Type 0
ArePlaced rows placed = HasRules rows (λ row. true) placed

-- the rules stand by network, those of each as they stood
pub record AreByNetwork (rows : List LegRuleRow) (placed : List PlacedRule) (n : ℕ) (groups : List (List PlacedRule)) : Type 0 where
  pub has : (network : ℕ) → network < n → rules_at groups network ≡ filter (passes_at rows (is_of network)) placed
  pub none : (network : ℕ) → n ≤ network → rules_at groups network ≡ []

-- Which rules a leg selects, where what rules name is marked.
use Rattle.std.proofs.Common.{◌≡◌, refl, ◌∙◌, ap, ℕ, ◌+◌, ◌<◌, max, take, get_or, Bool, true, false, not, ◌&&◌, ◌||◌, if◌then◌else◌, subst, List, [], ◌∷◌, length, filter, Option, Some, None, arith}
use Rattle.std.specs.Prelude.{nat_le, nat_lt, slice_get}
use Rattle.std.specs.List.{list_any, list_all}
use Rattle.std.proofs.lemmas.Bool.Decides.{nat_tests}
use Rattle.std.proofs.lemmas.List.Folds.{list_all_more}
use Rattle.transit_base.specs.declared.numbers.AreaId.{AreaId}
use Rattle.transit_base.specs.declared.numbers.NetworkId.{NetworkId}
use Rattle.feed_rows.specs.declared.journeys.LegFacts.{LegFacts}
use Rattle.feed_rows.specs.declared.rows.LegRuleRow.{LegRuleRow}
use Rattle.feed_rows.specs.FeedRows.{FeedRows}
use Rattle.feed_rows.specs.LegRules.{is_listed_area, network_matches, area_matches, rule_matches, is_top_priority, is_selected_rule}
use Rattle.feed_rows.specs.SoundFeed.{IsSoundFeed}
use Rattle.plain_laws.specs.Plain.{at_and, filled_and}
use Rattle.fare_leg_rules.specs.declared.LegRules.{LegRules}
use Rattle.fare_leg_rules.specs.Columns.{names as column_names}
use Rattle.number_marks.specs.Marks.{is_marked}
use Rattle.fare_leg_rules.specs.declared.columns.Column.TheVariants.{Network, FromArea, ToArea}
use Rattle.number_marks.proofs.MarkLaws.{marked_names}
use Rattle.fare_leg_rules.specs.Fits.{network_fits, area_fits, fits, weight, is_chosen}
use Rattle.fare_leg_rules.specs.declared.places.PlacedRule.{PlacedRule}
use Rattle.fare_leg_rules.specs.Places.{is_common, passes_at, ArePlaced, AreByNetwork}
use Rattle.fare_leg_rules.proofs.PlaceLaws.{passing, rules_of}
use Rattle.fare_leg_rules.specs.BuiltLegRules.{AreLegRulesOf}

module _ {X : Type 0} where
  list_all_same : (p q : X → Bool) (xs : List X) → ((x : X) → p x ≡ q x) → list_all p xs ≡ list_all q xs
  list_all_same p q [] same = refl
  list_all_same p q (x ∷ xs) same = rw (same x, list_all_same p q xs same) refl

  at_and_same : (p q : X → Bool) (xs : List X) (i : ℕ) → ((x : X) → p x ≡ q x) → at_and xs i p ≡ at_and xs i q
  at_and_same p q xs i same = step (slice_get xs i)
    where
      step : (o : Option X) → filled_and o p ≡ filled_and o q
      step None = refl
      step (Some x) = same x

-- the highest of what rules weigh, with one rule more
pub top_more : {R : Type 0} (weigh : R → ℕ) (ids : List R) (i : ℕ) (d : R) (least top here new priority : ℕ) → i < length ids
    → nat_le top priority ≡ (nat_le least priority && list_all (λ rule. nat_le (weigh rule) priority) (take i ids)) → here ≡ weigh (get_or ids i d) → new ≡ max here top
    → nat_le new priority ≡ (nat_le least priority && list_all (λ rule. nat_le (weigh rule) priority) (take (i + 1) ids))
top_more weigh ids i d least top here new priority lt before is made =
    rw (made, list_all_more (λ rule. nat_le (weigh rule) priority) ids i d lt) (both ∙ rw (before, is) (turned (nat_le least priority) _ _))
  where
    both : nat_le (max here top) priority ≡ (nat_le top priority && nat_le here priority)
    both = grind (arith, nat_tests)

    turned : (a b c : Bool) → ((a && b) && c) ≡ (a && (b && c))
    turned true b c = refl
    turned false b c = refl

module _ (feed : FeedRows) (rules : LegRules) (are : AreLegRulesOf feed rules) (leg : LegFacts) where
  network_is : (rule own : Option NetworkId) → network_fits rules.has_priority rules.networks.items rule own ≡ network_matches feed rule own
  unfolding network_matches
  network_is (Some network) own = refl
  network_is None None = rw are.has_priority refl
  network_is None (Some own) = rw (are.has_priority, are.networks own) refl

  area_is : (column : LegRuleRow → Option AreaId) (named : List Bool) → ((area : AreaId) → is_marked named area.0 ≡ is_listed_area feed column area)
      → (rule : Option AreaId) (areas : List AreaId) → area_fits rules.has_priority named rule areas ≡ area_matches feed column rule areas
  unfolding area_matches
  area_is column named marks (Some area) areas = refl
  area_is column named marks None areas = rw (are.has_priority, list_all_same (λ a. not (is_marked named a.0)) (λ a. not (is_listed_area feed column a)) areas (λ a. ap not (marks a))) refl

  fits_is : (row : LegRuleRow) → fits rules leg row ≡ rule_matches feed leg row
  unfolding fits rule_matches
  fits_is row = rw (network_is row.network leg.network, area_is (λ r. r.from_area) rules.from_areas.items are.from_areas row.from_area leg.from_areas, area_is (λ r. r.to_area) rules.to_areas.items are.to_areas row.to_area leg.to_areas) refl

  -- the highest priority tells which are not exceeded
  top_is : (top priority : ℕ) → ((p : ℕ) → nat_le top p ≡ list_all (λ row. nat_le (weight rules leg row) p) rules.rules.items) → nat_le top priority ≡ is_top_priority feed leg priority
  unfolding is_top_priority
  top_is top priority tops =
      tops priority ∙ ap (list_all (λ row. nat_le (weight rules leg row) priority)) are.rows
      ∙ list_all_same (λ row. nat_le (weight rules leg row) priority) (λ row. not (rule_matches feed leg row) || nat_le row.priority priority) feed.leg_rules each
    where
      either : (b : Bool) (p : ℕ) → nat_le (if b then p else 0) priority ≡ (not b || nat_le p priority)
      either true p = refl
      either false p = grind (arith, nat_tests)

      each : (row : LegRuleRow) → nat_le (weight rules leg row) priority ≡ (not (rule_matches feed leg row) || nat_le row.priority priority)
      each row = either (fits rules leg row) row.priority ∙ ap (λ b. not b || nat_le row.priority priority) (fits_is row)

  -- a rule that matches with at least the highest priority is selected
  pub chosen_is : (top : ℕ) → ((p : ℕ) → nat_le top p ≡ list_all (λ row. nat_le (weight rules leg row) p) rules.rules.items)
      → (i : ℕ) → at_and rules.rules.items i (is_chosen rules leg top) ≡ at_and feed.leg_rules i (is_selected_rule feed leg)
  unfolding is_selected_rule
  chosen_is top tops i =
      ap (λ rows. at_and rows i (is_chosen rules leg top)) are.rows
      ∙ at_and_same (is_chosen rules leg top) (λ row. rule_matches feed leg row && is_top_priority feed leg row.priority) feed.leg_rules i (λ row. rw (fits_is row, top_is top row.priority tops) refl)

-- the leg rules of a feed, from what each step of the building made
pub built : (feed inside : FeedRows) (rows : List LegRuleRow) (placed : List PlacedRule) (names areas : ℕ) (rules : LegRules) → inside ≡ feed → IsSoundFeed inside → rows ≡ inside.leg_rules → names ≡ length inside.network_names → areas ≡ length inside.areas
    → rules.rules.items ≡ rows → ArePlaced rows placed → rules.common.items ≡ filter (passes_at rows is_common) placed → AreByNetwork rows placed names rules.by_network → rules.has_priority ≡ inside.has_priority
    → ((i : ℕ) → is_marked rules.networks.items i ≡ (nat_lt i names && list_any (column_names Network i) rows))
    → ((i : ℕ) → is_marked rules.from_areas.items i ≡ (nat_lt i areas && list_any (column_names FromArea i) rows))
    → ((i : ℕ) → is_marked rules.to_areas.items i ≡ (nat_lt i areas && list_any (column_names ToArea i) rows)) → AreLegRulesOf feed rules
built feed inside rows placed names areas rules view sound same many_names many_areas kept all common grouped priority networks froms tos =
    let sound_rules = sound.leg_rules in
    subst (λ f. AreLegRulesOf f rules) view
    (record {
      rows = kept ∙ same;
      common = rw (common, same) (passing inside.leg_rules placed is_common (rw same at all));
      of_network = rules_of inside placed rules.by_network names sound_rules many_names (rw same at all) (rw same at grouped);
      has_priority = priority;
      networks = λ n. marked_names (λ (x : NetworkId). x.0) (λ r. r.network) rows inside.leg_rules rules.networks.items names same (rw many_names sound_rules.networks) networks n.0;
      from_areas = λ a. marked_names (λ (x : AreaId). x.0) (λ r. r.from_area) rows inside.leg_rules rules.from_areas.items areas same (rw many_areas sound_rules.from_areas) froms a.0;
      to_areas = λ a. marked_names (λ (x : AreaId). x.0) (λ r. r.to_area) rows inside.leg_rules rules.to_areas.items areas same (rw many_areas sound_rules.to_areas) tos a.0;
    })

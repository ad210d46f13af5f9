-- The candidates of a leg's network and those without one are all that may match it, and in file order they are those it
-- selects.
use Rattle.std.proofs.Common.{◌≡◌, refl, sym, ◌∙◌, ap, subst, ℕ, ◌+◌, ◌<◌, ◌⊎◌, inl, inr, ⊎_elim, Bool, true, false, ◌&&◌, ◌==◌, List, [], ◌++◌, length, get_or, take, map, filter, Contains, IsPermutation, Option, Some, None, arith}
use Rattle.std.specs.Prelude.{nat_le, slice_get, unwrap_or, is_none}
use Rattle.std.specs.List.{list_all, dedup}
use Rattle.std.specs.List.Sorted.{IsSorted}
use Rattle.std.specs.Option.{option_map_or}
use Rattle.std.specs.Ordering.{nat_cmp, eq_by_cmp}
use Rattle.std.specs.declared.cmp.Ordering.{Ordering}
use Rattle.std.specs.declared.cmp.Ordering.TheVariants.{Less}
use Rattle.std.proofs.lemmas.Bool.{and_parts, and_from}
use Rattle.std.proofs.lemmas.Bool.Decides.{nat_tests}
use Rattle.std.proofs.lemmas.Cmp.{nat_cmp_total, nat_eq_equiv, on_total, on_equiv}
use Rattle.std.proofs.lemmas.List.{append_assoc, map-append, flat_map_more, take_more}
use Rattle.std.proofs.lemmas.List.Elements.{filter-append, Contains-append_left, Contains-append_right, Contains-append_cases}
use Rattle.std.proofs.lemmas.List.Kept.{IsStrictlySortedBy-dedup, Contains-dedup, Contains-from_dedup}
use Rattle.std.proofs.lemmas.List.Sorted.{Contains-permutation, IsPermutation-sym}
use Rattle.std.proofs.lemmas.Map.Keys.{Less-from_sorted}
use Rattle.std.proofs.lemmas.Option.{slice_get_within}
use Rattle.transit_base.specs.declared.numbers.AreaId.{AreaId}
use Rattle.transit_base.specs.declared.numbers.NetworkId.{NetworkId}
use Rattle.transit_base.specs.declared.numbers.RuleId.{RuleId}
use Rattle.feed_rows.specs.declared.journeys.LegFacts.{LegFacts}
use Rattle.feed_rows.specs.declared.rows.LegRuleRow.{LegRuleRow}
use Rattle.feed_rows.specs.FeedRows.{FeedRows}
use Rattle.feed_rows.specs.LegRules.{is_selected_rule, selected_rules}
use Rattle.plain_laws.specs.Plain.{at_and, filled_and}
use Rattle.plain_laws.proofs.Laws.{same_test, eqb_turn, number_equal, list_all-at, list_all-from, list_any_tells, slice_get-Contains, Contains-slice_get, Contains-map, map-tells, Contains-filter, Contains-filter_passes, filter-tells, Contains-flat_map, IsPicked, picks_from_ascending}
use Rattle.fare_leg_rules.specs.declared.LegRules.{LegRules}
use Rattle.fare_leg_rules.specs.declared.places.PlacedRule.{PlacedRule}
use Rattle.fare_leg_rules.specs.Places.{rule_of, place_of, is_common, is_of, stands_at, candidates, IsRow, HasRules}
use Rattle.fare_leg_rules.specs.Fits.{network_fits, area_fits, fits, weight, weight_of, is_within, is_chosen, is_chosen_at, chosen_among, own_rules, IsTop}
use Rattle.fare_leg_rules.specs.Orders.{IsPutInOrder}
use Rattle.fare_leg_rules.specs.BuiltLegRules.{AreLegRulesOf}
use Rattle.fare_leg_rules.proofs.PlaceLaws.{row_at, none_passing, candidates-tells}
use Rattle.fare_leg_rules.proofs.RuleLaws.{chosen_is}

-- the rules that are chosen among the candidates, with those of one area more
pub chosen_more : (rules : LegRules) (leg : LegFacts) (least : ℕ) (first old new : List RuleId) (placed more : List PlacedRule) (areas : List AreaId) (i : ℕ) (d : AreaId) → i < length areas
    → old ≡ first ++ chosen_among rules leg least (candidates placed (take i areas)) → more ≡ filter (stands_at ((get_or areas i d).0 + 1)) placed → new ≡ old ++ chosen_among rules leg least more
    → new ≡ first ++ chosen_among rules leg least (candidates placed (take (i + 1) areas))
chosen_more rules leg least first old new placed more areas i d lt was are made =
    made ∙ ap (λ xs. xs ++ chosen more) was ∙ append_assoc first (chosen before) (chosen more) ∙ ap (λ xs. first ++ xs) (joined ∙ ap chosen next)
  where
    chosen : List PlacedRule → List RuleId
    chosen = chosen_among rules leg least

    named : AreaId → List PlacedRule
    named area = filter (stands_at (area.0 + 1)) placed

    before : List PlacedRule
    before = candidates placed (take i areas)

    joined : chosen before ++ chosen more ≡ chosen (before ++ more)
    joined = sym (ap (map (λ (p : PlacedRule). p.rule)) (filter-append (is_chosen_at rules leg least) before more) ∙ map-append (λ (p : PlacedRule). p.rule) _ _)

    next : before ++ more ≡ candidates placed (take (i + 1) areas)
    next = ap (λ xs. before ++ xs) are ∙ flat_map_more named (filter (stands_at 0) placed) (take i areas) (get_or areas i d) ∙ sym (ap (candidates placed) (take_more areas i d lt))

-- rules by their numbers
abbrev pub rule_cmp : RuleId → RuleId → Ordering
rule_cmp a b = nat_cmp a.0 b.0

abbrev pub rule_eq : RuleId → RuleId → Bool
rule_eq a b = a.0 == b.0

ties : (a b : RuleId) → rule_eq a b ≡ eq_by_cmp rule_cmp a b
ties a b = sym (number_equal a.0 b.0)

same_rule : (a b : RuleId) → rule_eq a b ≡ true → a ≡ b
same_rule a b e = let n : a.0 ≡ b.0 = grind (arith, nat_tests, e) in ap rule_of n

less : (a b : RuleId) → rule_cmp a b ≡ Less → a.0 < b.0
less a b e = grind (arith, nat_tests, e)

-- rules that are sorted and from which doubles are taken
pub put_in_order : (rules sorted : List RuleId) → IsPermutation rules sorted → IsSorted rule_cmp sorted → IsPutInOrder rules (dedup rule_eq sorted)
put_in_order rules sorted moved up =
    record {
      rises = λ i j d lt to.
          let strict = IsStrictlySortedBy-dedup (on_total (λ (r : RuleId). r.0) nat_cmp_total) {E = rule_eq} ties sorted up in
          less _ _ (Less-from_sorted rule_cmp (dedup rule_eq sorted) i j d strict lt to);
      has = λ rule at. Contains-dedup (on_equiv (λ r. r.0) nat_eq_equiv) same_rule sorted rule (Contains-permutation rules sorted rule moved at);
      tells = λ rule at. Contains-permutation sorted rules rule (IsPermutation-sym rules sorted moved) (Contains-from_dedup rule_eq sorted rule at);
    }

-- a rule matches where its network does, and its area of the boarding stop
fits_parts : (rules : LegRules) (leg : LegFacts) (row : LegRuleRow) → fits rules leg row ≡ true
    → (network_fits rules.has_priority rules.networks.items row.network leg.network ≡ true) × (area_fits rules.has_priority rules.from_areas.items row.from_area leg.from_areas ≡ true)
unfolding fits
fits_parts rules leg row e = parts (network_fits rules.has_priority rules.networks.items row.network leg.network) (area_fits rules.has_priority rules.from_areas.items row.from_area leg.from_areas) _ _ _ e
  where
    parts : (a b c d f : Bool) → (a && b && c && d && f) ≡ true → (a ≡ true) × (b ≡ true)
    parts true true c d f h = (refl, refl)
    parts true false c d f h = absurd (cc)
    parts false b c d f h = absurd (cc)

-- a rule is a candidate where its area is one of these, or none
candidates-has : (placed : List PlacedRule) (areas : List AreaId) (ranked : Bool) (named : List Bool) (area : Option AreaId) (rule : RuleId)
    → Contains placed (record { place = place_of area; rule = rule }) → area_fits ranked named area areas ≡ true → Contains (candidates placed areas) (record { place = place_of area; rule = rule })
candidates-has placed areas ranked named None rule at fit = Contains-append_left (filter (stands_at 0) placed) _ _ (Contains-filter (stands_at 0) placed _ at refl)
candidates-has placed areas ranked named (Some area) rule at fit =
    let found = list_any_tells (λ a. a.0 == area.0) areas fit in
    let same = found.2 in
    let here : ((area.0 + 1) == (found.0.0 + 1)) ≡ true = grind (arith, nat_tests, same) in
    Contains-append_right (filter (stands_at 0) placed) _ _
    (Contains-flat_map (λ (a : AreaId). filter (stands_at (a.0 + 1)) placed) areas found.0 _ found.1 (Contains-filter (stands_at (found.0.0 + 1)) placed _ at here))

module _ (feed : FeedRows) (rules : LegRules) (are : AreLegRulesOf feed rules) (leg : LegFacts) where
  -- the rule is of the leg's network
  abbrev is_own : LegRuleRow → Bool
  is_own row = filled_and leg.network (λ n. is_of n.0 row)

  -- a rule that matches is of the leg's network or of none
  own_or_common : (row : LegRuleRow) → fits rules leg row ≡ true → (is_own row ≡ true) ⊎ (is_common row ≡ true)
  own_or_common row matches = step row.network leg.network (fits_parts rules leg row matches).0
    where
      step : (o own : Option NetworkId) → network_fits rules.has_priority rules.networks.items o own ≡ true → (filled_and own (λ n. filled_and o (λ m. m.0 == n.0)) ≡ true) ⊎ (is_none o ≡ true)
      step None own e = inr refl
      step (Some network) None e = absurd (cc)
      step (Some network) (Some own) e = inl (eqb_turn network.0 own.0 ∙ e)

  pub own_has : HasRules feed.leg_rules is_own (own_rules rules leg)
  own_has = step leg.network
    where
      step : (o : Option NetworkId) → HasRules feed.leg_rules (λ row. filled_and o (λ n. is_of n.0 row)) (option_map_or (λ n. unwrap_or (slice_get rules.by_network n.0) []) o [])
      step None = none_passing feed.leg_rules (λ row. false) (λ i row got e. cc)
      step (Some n) = are.of_network n.0

  weight_at : (placed : PlacedRule) (row : LegRuleRow) → slice_get feed.leg_rules placed.rule.0 ≡ Some row → weight_of rules leg placed.rule ≡ weight rules leg row
  weight_at placed row got = ap (λ rows. option_map_or (weight rules leg) (slice_get rows placed.rule.0) 0) are.rows ∙ ap (λ o. option_map_or (weight rules leg) o 0) got

  -- those of the rules that may match the leg
  abbrev some_of : List PlacedRule → List PlacedRule
  some_of placed = candidates placed leg.from_areas

  row_of : (test : LegRuleRow → Bool) (placed : List PlacedRule) → HasRules feed.leg_rules test placed → (rule : PlacedRule) → Contains (some_of placed) rule → IsRow feed.leg_rules test rule.rule
  row_of test placed has rule at = has.tells rule (candidates-tells placed leg.from_areas rule at)

  has_rule : (test : LegRuleRow → Bool) (placed : List PlacedRule) → HasRules feed.leg_rules test placed → (i : ℕ) (row : LegRuleRow) → slice_get feed.leg_rules i ≡ Some row → test row ≡ true → fits rules leg row ≡ true
      → Contains (some_of placed) (record { place = place_of row.from_area; rule = rule_of i })
  has_rule test placed has i row got e fit = candidates-has placed leg.from_areas rules.has_priority rules.from_areas.items row.from_area (rule_of i) (has.has i row got e) (fits_parts rules leg row fit).1

  module _ (priority : ℕ) where
    -- the candidates are within the priority where all rows are
    all_within : (test : LegRuleRow → Bool) (placed : List PlacedRule) → HasRules feed.leg_rules test placed → list_all (λ row. nat_le (weight rules leg row) priority) feed.leg_rules ≡ true
        → list_all (is_within rules leg priority) (some_of placed) ≡ true
    all_within test placed has all = list_all-from (is_within rules leg priority) (some_of placed) (λ k rule at.
        let r = row_of test placed has rule (Contains-slice_get _ k rule at) in
        let here = list_all-at (λ row. nat_le (weight rules leg row) priority) feed.leg_rules rule.rule.0 r.row all r.got in
        rw (weight_at rule r.row r.got) here)

    within_at : (test : LegRuleRow → Bool) (placed : List PlacedRule) → HasRules feed.leg_rules test placed → list_all (is_within rules leg priority) (some_of placed) ≡ true
        → (i : ℕ) (row : LegRuleRow) → slice_get feed.leg_rules i ≡ Some row → test row ≡ true → fits rules leg row ≡ true → nat_le (weight rules leg row) priority ≡ true
    within_at test placed has all i row got e fit =
        let place = slice_get-Contains _ _ (has_rule test placed has i row got e fit) in
        let here = list_all-at (is_within rules leg priority) (some_of placed) place.0 _ all place.1 in
        rw (weight_at (record { place = place_of row.from_area; rule = rule_of i }) row got) at here

    -- and all rows are, where those without a network and those of the leg's are
    rows_within : (list_all (is_within rules leg priority) (some_of rules.common.items) && list_all (is_within rules leg priority) (some_of (own_rules rules leg))) ≡ true
        → list_all (λ row. nat_le (weight rules leg row) priority) feed.leg_rules ≡ true
    rows_within both = list_all-from (λ row. nat_le (weight rules leg row) priority) feed.leg_rules (λ i row got. step i row got (fits rules leg row) refl)
      where
        parts : (list_all (is_within rules leg priority) (some_of rules.common.items) ≡ true) × (list_all (is_within rules leg priority) (some_of (own_rules rules leg)) ≡ true)
        parts = and_parts _ _ both

        step : (i : ℕ) (row : LegRuleRow) → slice_get feed.leg_rules i ≡ Some row → (b : Bool) → fits rules leg row ≡ b → nat_le (weight rules leg row) priority ≡ true
        step i row got false e = rw e (grind (arith, nat_tests))
        step i row got true e = ⊎_elim
            (λ (own : is_own row ≡ true). within_at is_own (own_rules rules leg) own_has parts.1 i row got own e)
            (λ (common : is_common row ≡ true). within_at is_common rules.common.items are.common parts.0 i row got common e)
            (own_or_common row e)

  -- the highest priority among the candidates is that among all
  pub top_among : (first top : ℕ) → ((p : ℕ) → nat_le first p ≡ (nat_le 0 p && list_all (is_within rules leg p) (some_of rules.common.items)))
      → ((p : ℕ) → nat_le top p ≡ (nat_le first p && list_all (is_within rules leg p) (some_of (own_rules rules leg)))) → IsTop rules leg top
  top_among first top firsts tops = λ priority.
      let within = is_within rules leg priority in
      let zero : nat_le 0 priority ≡ true = grind (arith, nat_tests) in
      let common = firsts priority ∙ ap (λ b. b && list_all within (some_of rules.common.items)) zero in
      tops priority ∙ ap (λ b. b && list_all within (some_of (own_rules rules leg))) common
      ∙ same_test _ _ (rows_within priority) (λ all. and_from _ _ (all_within priority is_common rules.common.items are.common all) (all_within priority is_own (own_rules rules leg) own_has all))
      ∙ sym (ap (list_all (λ row. nat_le (weight rules leg row) priority)) are.rows)

  -- the rules that are chosen among the candidates, in file order, are those that the leg selects
  pub selected_in_order : (top : ℕ) (chosen sorted : List RuleId) → IsTop rules leg top
      → chosen ≡ chosen_among rules leg top (some_of (own_rules rules leg)) ++ chosen_among rules leg top (some_of rules.common.items) → IsPutInOrder chosen sorted → sorted ≡ selected_rules feed leg
  selected_in_order top chosen sorted tops made ordered =
      picks_from_ascending (λ r. r.0) (length feed.leg_rules) (λ i. at_and feed.leg_rules i (is_selected_rule feed leg)) rule_of sorted (λ i. refl) ordered.rises
      (λ rule at. ⊎_elim
      (λ (mine : Contains owns rule). tells is_own (own_rules rules leg) own_has rule mine)
      (λ (none : Contains commons rule). tells is_common rules.common.items are.common rule none)
      (Contains-append_cases owns commons rule (rw made at (ordered.tells rule at))))
      (λ i lt e. ordered.has (rule_of i) (rw made (has i e)))
    where
      p : PlacedRule → Bool
      p = is_chosen_at rules leg top

      owns : List RuleId
      owns = chosen_among rules leg top (some_of (own_rules rules leg))

      commons : List RuleId
      commons = chosen_among rules leg top (some_of rules.common.items)

      chosen_at : (i : ℕ) → at_and rules.rules.items i (is_chosen rules leg top) ≡ at_and feed.leg_rules i (is_selected_rule feed leg)
      chosen_at = chosen_is feed rules are leg top tops

      tells : (test : LegRuleRow → Bool) (placed : List PlacedRule) → HasRules feed.leg_rules test placed → (rule : RuleId) → Contains (chosen_among rules leg top (some_of placed)) rule
          → IsPicked (length feed.leg_rules) (λ i. at_and feed.leg_rules i (is_selected_rule feed leg)) rule_of rule
      tells test placed given rule at =
          let found = map-tells (λ (q : PlacedRule). q.rule) (filter p (some_of placed)) rule at in
          let r = row_of test placed given found.0 (filter-tells p (some_of placed) found.0 found.1) in
          let here = Contains-filter_passes p (some_of placed) found.0 found.1 in
          subst (IsPicked (length feed.leg_rules) (λ i. at_and feed.leg_rules i (is_selected_rule feed leg)) rule_of) found.2
          (record { number = found.0.rule.0; within = slice_get_within feed.leg_rules found.0.rule.0 r.row r.got; passes = sym (chosen_at found.0.rule.0) ∙ here; is = refl })

      contains : (test : LegRuleRow → Bool) (placed : List PlacedRule) → HasRules feed.leg_rules test placed → (i : ℕ) (row : LegRuleRow) → slice_get feed.leg_rules i ≡ Some row → test row ≡ true → fits rules leg row ≡ true
          → at_and rules.rules.items i (is_chosen rules leg top) ≡ true → Contains (chosen_among rules leg top (some_of placed)) (rule_of i)
      contains test placed given i row got e fit here =
          Contains-map (λ (q : PlacedRule). q.rule) (filter p (some_of placed)) (record { place = place_of row.from_area; rule = rule_of i })
          (Contains-filter p (some_of placed) _ (has_rule test placed given i row got e fit) here)

      has : (i : ℕ) → at_and feed.leg_rules i (is_selected_rule feed leg) ≡ true → Contains (owns ++ commons) (rule_of i)
      has i e =
          let here : at_and rules.rules.items i (is_chosen rules leg top) ≡ true = chosen_at i ∙ e in
          let r = row_at feed.leg_rules (is_chosen rules leg top) (rule_of i) (sym (ap (λ rows. at_and rows i (is_chosen rules leg top)) are.rows) ∙ here) in
          let fit = (and_parts (fits rules leg r.row) (nat_le top r.row.priority) r.passes).0 in
          ⊎_elim
          (λ (mine : is_own r.row ≡ true). Contains-append_left owns commons (rule_of i) (contains is_own (own_rules rules leg) own_has i r.row r.got mine fit here))
          (λ (none : is_common r.row ≡ true). Contains-append_right owns commons (rule_of i) (contains is_common rules.common.items are.common i r.row r.got none fit here))
          (own_or_common r.row fit)

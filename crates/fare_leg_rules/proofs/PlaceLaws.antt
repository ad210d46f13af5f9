-- The rules without a network, and those of each network, by the area that they name.
use Rattle.std.proofs.Common.{◌≡◌, refl, sym, ◌∙◌, ap, subst, ℕ, ◌+◌, ◌<◌, ◌≤◌, ◌⊎◌, inl, inr, max, Bool, true, false, ◌==◌, List, [], ◌∷◌, ◌++◌, length, get_or, take, filter, Contains, Some, None, IsPermutation, arith}
use Rattle.std.specs.Prelude.{if◌then◌else◌, slice_get, slice_range, nat_lt, nat_le}
use Rattle.std.specs.List.{AllWithin, flat_map}
use Rattle.std.specs.List.Sorted.{IsNonDecreasingBy}
use Rattle.std.specs.Option.{ForSome}
use Rattle.std.proofs.lemmas.Bool.{cases_lt}
use Rattle.std.proofs.lemmas.Bool.Decides.{nat_tests}
use Rattle.std.proofs.lemmas.List.Elements.{filter_more, Contains-append_cases}
use Rattle.std.proofs.lemmas.List.Kept.{IsNonDecreasingBy-filter}
use Rattle.std.proofs.lemmas.List.Sorted.{Contains-permutation, IsPermutation-sym}
use Rattle.std.proofs.lemmas.Option.{slice_get_within, slice_get_cases}
use Rattle.transit_base.specs.declared.numbers.AreaId.{AreaId}
use Rattle.transit_base.specs.declared.numbers.RuleId.{RuleId}
use Rattle.feed_rows.specs.declared.rows.LegRuleRow.{LegRuleRow}
use Rattle.feed_rows.specs.FeedRows.{FeedRows}
use Rattle.feed_rows.specs.SoundFares.{AreSoundLegRules}
use Rattle.item_groups.specs.declared.groups.Grouped.{Grouped}
use Rattle.plain_laws.specs.Plain.{filled_and, list_below}
use Rattle.item_groups.specs.Groups.{group_of, groups_below}
use Rattle.plain_laws.proofs.Laws.{All-slice_get, filled_and-true, filter_part, filter-tells, Contains-filter, Contains-filter_passes, flat_map-tells, Contains-list_below, list_below_tells}
use Rattle.item_groups.proofs.GroupLaws.{groups_below-at, groups_below-past}
use Rattle.fare_leg_rules.specs.declared.places.PlacedRule.{PlacedRule}
use Rattle.fare_leg_rules.specs.Places.{rule_of, placed_at, is_of, passes_at, stands_at, rules_at, candidates, IsRow, HasRules, ArePlaced, AreByNetwork}

-- a rule whose row passes the test
pub row_at : (rows : List LegRuleRow) (test : LegRuleRow → Bool) (rule : RuleId) → filled_and (slice_get rows rule.0) test ≡ true → IsRow rows test rule
row_at rows test rule e = let filled = filled_and-true (slice_get rows rule.0) test e in record { row = filled.value; got = filled.is; passes = filled.passes }

-- all rules, from the list of them in file order that was sorted
pub placed_from_sorted : (rows : List LegRuleRow) (made sorted : List PlacedRule) → made ≡ list_below (length rows) (placed_at rows) → IsPermutation made sorted
    → IsNonDecreasingBy (λ (rule : PlacedRule). rule.place) sorted → ArePlaced rows sorted
placed_from_sorted rows made sorted is moved rises =
    record {
      rises = rises;
      tells = λ rule at.
          let was = list_below_tells (length rows) (placed_at rows) rule (rw is at (Contains-permutation sorted made rule (IsPermutation-sym made sorted moved) at)) in
          subst (λ (p : PlacedRule). IsRow rows (λ row. true) p.rule) was.2 (here was.0 was.1);
      has = λ i row got e.
          let at = Contains-permutation made sorted (placed_at rows i) moved (rw is (Contains-list_below (length rows) (placed_at rows) i (slice_get_within rows i row got))) in
          rw got at at;
    }
  where
    here : (i : ℕ) → i < length rows → IsRow rows (λ row. true) (rule_of i)
    here i lt = step (slice_get_cases rows i).1
      where
        step : ((x : LegRuleRow) × (i < length rows) × (slice_get rows i ≡ Some x) × (get_or rows i x ≡ x)) ⊎ ((length rows ≤ i) × (slice_get rows i ≡ None)) → IsRow rows (λ row. true) (rule_of i)
        step (inl found) = record { row = found.0; got = found.2; passes = refl }
        step (inr past) = absurd (let le = past.0 in omega arith)

-- those of the rules whose rows pass a test
pub passing : (rows : List LegRuleRow) (placed : List PlacedRule) (test : LegRuleRow → Bool) → ArePlaced rows placed → HasRules rows test (filter (passes_at rows test) placed)
passing rows placed test are =
    record {
      rises = IsNonDecreasingBy-filter (λ (rule : PlacedRule). rule.place) (passes_at rows test) placed are.rises;
      tells = λ rule at. row_at rows test rule.rule (Contains-filter_passes (passes_at rows test) placed rule at);
      has = λ i row got e. Contains-filter (passes_at rows test) placed _ (are.has i row got refl) (rw got e);
    }

-- no rules, where no row passes the test
pub none_passing : (rows : List LegRuleRow) (test : LegRuleRow → Bool) → ((i : ℕ) (row : LegRuleRow) → slice_get rows i ≡ Some row → test row ≡ true → ⊥) → HasRules rows test []
none_passing rows test fails =
    record {
      rises = λ i j d le lt. absurd (omega arith);
      tells = λ rule at. absurd (let no = at.1 in omega arith);
      has = λ i row got e. absurd (fails i row got e);
    }

-- the rules in groups, from members of which each group is known
pub grouped_by_network : (rows : List LegRuleRow) (placed : List PlacedRule) (members : List (Grouped PlacedRule)) (groups : List (List PlacedRule)) (n : ℕ)
    → ((network : ℕ) → group_of members network ≡ filter (passes_at rows (is_of network)) placed) → groups ≡ groups_below n members → AreByNetwork rows placed n groups
grouped_by_network rows placed members groups n each are =
    record {
      has = λ network lt. rw are (groups_below-at n members network lt) ∙ each network;
      none = λ network past. rw are (groups_below-past n members network past);
    }

-- each network has its rules, and no rule is of a network that isn't there
pub rules_of : (feed : FeedRows) (placed : List PlacedRule) (groups : List (List PlacedRule)) (n : ℕ) → AreSoundLegRules feed → n ≡ length feed.network_names → ArePlaced feed.leg_rules placed
    → AreByNetwork feed.leg_rules placed n groups → (network : ℕ) → HasRules feed.leg_rules (is_of network) (rules_at groups network)
rules_of feed placed groups n sound count all are network = step (cases_lt network n)
  where
    fails : n ≤ network → (i : ℕ) (row : LegRuleRow) → slice_get feed.leg_rules i ≡ Some row → is_of network row ≡ true → ⊥
    fails past i row got e =
        let filled = filled_and-true row.network (λ m. m.0 == network) e in
        let lt = All-slice_get (λ r. ForSome r.network (λ m. m.0 < length feed.network_names)) feed.leg_rules i row got sound.networks filled.value filled.is in
        let hit = filled.passes in
        let is : filled.value.0 ≡ network = grind (arith, nat_tests, hit) in
        omega arith

    step : (network < n) ⊎ (n ≤ network) → HasRules feed.leg_rules (is_of network) (rules_at groups network)
    step (inl lt) = rw (are.has network lt) (passing feed.leg_rules placed (is_of network) all)
    step (inr past) = rw (are.none network past) (none_passing feed.leg_rules (is_of network) (fails past))

-- the rules of a group, with one rule more
pub rules_more : (test : PlacedRule → Bool) (placed : List PlacedRule) (i : ℕ) (d : PlacedRule) (before now : List PlacedRule) → i < length placed → before ≡ filter test (take i placed)
    → now ≡ before ++ (if test (get_or placed i d) then get_or placed i d ∷ [] else []) → now ≡ filter test (take (i + 1) placed)
rules_more test placed i d before now lt was made = made ∙ ap (λ xs. xs ++ (if test (get_or placed i d) then get_or placed i d ∷ [] else [])) was ∙ sym (filter_more test placed i d lt)

-- the rules that stand at a place are a part of those that stand by place
pub part_at_place : (placed : List PlacedRule) (place first end : ℕ) → first ≤ length placed → end ≤ length placed
    → AllWithin (λ p. nat_lt p.place place ≡ true) placed 0 first → AllWithin (λ p. nat_lt p.place place ≡ false) placed first (length placed)
    → AllWithin (λ p. nat_le p.place place ≡ true) placed 0 end → AllWithin (λ p. nat_le p.place place ≡ false) placed end (length placed)
    → slice_range placed first (max end first) ≡ filter (stands_at place) placed
part_at_place placed place first end within inside below from upto past =
    sym (filter_part (stands_at place) placed first (max end first) (omega arith) (omega arith)
    (λ k d low high. let h = below k d low high in grind (arith, nat_tests, h))
    (λ k d low high. let h = from k d low (omega arith) in let u = upto k d (omega arith) (omega arith) in grind (arith, nat_tests, h, u))
    (λ k d low high. let h = past k d (omega arith) high in grind (arith, nat_tests, h)))

-- a candidate is one of the rules
pub candidates-tells : (placed : List PlacedRule) (areas : List AreaId) (rule : PlacedRule) → Contains (candidates placed areas) rule → Contains placed rule
candidates-tells placed areas rule at = step (Contains-append_cases (filter (stands_at 0) placed) (flat_map named areas) rule at)
  where
    named : AreaId → List PlacedRule
    named area = filter (stands_at (area.0 + 1)) placed

    step : Contains (filter (stands_at 0) placed) rule ⊎ Contains (flat_map named areas) rule → Contains placed rule
    step (inl none) = filter-tells (stands_at 0) placed rule none
    step (inr some) = let found = flat_map-tells named areas rule some in filter-tells (stands_at (found.0.0 + 1)) placed rule found.2

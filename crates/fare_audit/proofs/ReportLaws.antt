-- What is found is what the definitions list.
use Rattle.std.proofs.Common.{◌++◌, ◌∷◌, [], add-one, append-nil, ◌≡◌, refl, sym, ◌∙◌, ap, subst, ℕ, ◌+◌, ◌<◌, ◌≤◌, ◌⊎◌, inl, inr, ⊎_elim, Bool, true, false, ◌&&◌, ◌==◌, List, length, Contains, AllPairs, IsPermutation, ℤ, arith}
use Rattle.std.specs.Prelude.{Option, Some, None, slice_get, not}
use Rattle.std.specs.List.{dedup}
use Rattle.std.specs.List.Sorted.{IsSorted}
use Rattle.std.specs.Ordering.{nat_cmp, eq_by_cmp, is_eq, ordering_then}
use Rattle.std.specs.Cmp.{IsEquivalence, IsTotalOrder}
use Rattle.std.proofs.lemmas.Cmp.{nat_cmp_total, on_total, then_total}
use Rattle.std.proofs.lemmas.List.Kept.{IsStrictlySortedBy-dedup, Contains-dedup, Contains-from_dedup}
use Rattle.std.proofs.lemmas.List.Sorted.{Contains-permutation, IsPermutation-sym}
use Rattle.std.proofs.lemmas.Map.Keys.{Less-from_sorted}
use Rattle.std.specs.declared.cmp.Ordering.{Ordering}
use Rattle.std.specs.declared.cmp.Ordering.TheVariants.{Less}
use Rattle.std.proofs.lemmas.Bool.{and_from, and_parts, cases_Bool, cases_lt, eq-eqb, eqb-true}
use Rattle.std.proofs.lemmas.Bool.Decides.{nat_tests}
use Rattle.std.proofs.lemmas.Option.{none-some}
use Rattle.transit_base.specs.declared.numbers.RuleId.{RuleId}
use Rattle.transit_base.specs.declared.numbers.StopId.{StopId}
use Rattle.feed_rows.specs.declared.journeys.Pair.{Pair}
use Rattle.feed_rows.specs.declared.journeys.RideFacts.{RideFacts}
use Rattle.feed_rows.specs.declared.rows.LegRuleRow.{LegRuleRow}
use Rattle.feed_rows.specs.FareGaps.{days_from, has_option, idle_rules, is_unpaid_between, is_used_rule, some_ride, uncovered_pairs}
use Rattle.feed_rows.specs.LegRules.{is_selected_rule}
use Rattle.feed_rows.specs.Legs.{leg_facts}
use Rattle.plain_laws.specs.Plain.{filled_and, joined_below, picks_below}
use Rattle.plain_laws.proofs.Laws.{AllPairs-joined_below, AllPairs-picks_below, Contains-joined_below, Contains-picks_below, IsStrictOrder, joined_below-tells, picks_below-same, picks_below-tells, same_from_members, same_test, number_equal, then_equal}
use Rattle.fare_audit.specs.declared.found.Found.{Found}
use Rattle.fare_audit.specs.Found.{AuditOf, IsAudited, IsCovered, IsFound, IsGap, is_marked}
use Rattle.fare_audit.specs.Reports.{ArePairsInOrder, ComesBefore, are_unused}
use Rattle.fare_audit.proofs.FoundLaws.{item_at, pair_equal}
use Rattle.fare_audit.proofs.GapLaws.{some_from, some_tells}

before_order : IsStrictOrder ComesBefore
before_order =
    record {
      irreflexive = λ x h. ⊎_elim (λ (lt : x.from.0 < x.from.0). absurd (omega (arith, lt))) (λ (same : (x.from.0 ≡ x.from.0) × (x.to.0 < x.to.0)). let lt = same.1 in absurd (omega (arith, lt))) h;
      transitive = λ x y z h g. both x y z h g;
    }
  where
    both : (x y z : Pair) → ComesBefore x y → ComesBefore y z → ComesBefore x z
    both x y z (inl a) (inl b) = inl (omega (arith, a, b))
    both x y z (inl a) (inr b) = let e = b.0 in inl (omega (arith, a, e))
    both x y z (inr a) (inl b) = let e = a.0 in inl (omega (arith, b, e))
    both x y z (inr a) (inr b) = let l = a.1 in let m = b.1 in inr (a.0 ∙ b.0, omega (arith, l, m))

abbrev two_stops : RideFacts → Pair
two_stops facts = record { from = facts.from; to = facts.to }

pair : ℕ → ℕ → Pair
pair from to = record { from = record { 0 = from }; to = record { 0 = to } }

module _ (audit : AuditOf) (last : ℤ) (many : days_from audit.first last ≡ audit.count) (found : Found) (is : IsFound audit found)
    (covers : (facts : RideFacts) → IsAudited audit facts → IsCovered audit found facts)
    (stops : (facts : RideFacts) → IsAudited audit facts → (facts.from.0 < length audit.feed.stops) × (facts.to.0 < length audit.feed.stops)) where
  unpaid : ℕ → ℕ → RideFacts → Bool
  unpaid from to = is_unpaid_between audit.feed audit.buyer (record { 0 = from }) (record { 0 = to })

  row_of : ℕ → List Pair
  unfolding unpaid pair
  row_of from = picks_below (length audit.feed.stops) (λ to. some_ride audit.feed audit.first last (unpaid from to)) (pair from)

  -- a gap is a pair that the definitions list
  listed : (p : Pair) → IsGap audit p → Contains (joined_below (length audit.feed.stops) row_of) p
  unfolding row_of unpaid pair
  listed p gap =
      let within = stops gap.facts gap.audited in
      let from : gap.facts.from.0 ≡ p.from.0 = ap (λ (s : StopId). s.0) gap.from in
      let to : gap.facts.to.0 ≡ p.to.0 = ap (λ (s : StopId). s.0) gap.to in
      let low = within.0 in
      let high = within.1 in
      let fails : not (has_option audit.feed audit.buyer (leg_facts audit.feed gap.facts)) ≡ true = ap not gap.unpaid in
      let passes = and_from ((gap.facts.from.0 == p.from.0) && (gap.facts.to.0 == p.to.0)) (not (has_option audit.feed audit.buyer (leg_facts audit.feed gap.facts))) (and_from (gap.facts.from.0 == p.from.0) (gap.facts.to.0 == p.to.0) (same_number gap.facts.from.0 p.from.0 from) (same_number gap.facts.to.0 p.to.0 to)) fails in
      let some = some_from audit last many (unpaid p.from.0 p.to.0) gap.facts gap.audited passes in
      Contains-joined_below (length audit.feed.stops) row_of p.from.0 p (omega (arith, low, from))
      (Contains-picks_below (length audit.feed.stops) (λ to. some_ride audit.feed audit.first last (unpaid p.from.0 to)) (pair p.from.0) p.to.0 (omega (arith, high, to)) some)
    where
      same_number : (a b : ℕ) → a ≡ b → (a == b) ≡ true
      same_number a b e = grind (arith, nat_tests, e)

  -- and the other way
  is_gap : (p : Pair) → Contains (joined_below (length audit.feed.stops) row_of) p → Contains found.gaps.items p
  unfolding row_of unpaid pair
  is_gap p at =
      let row = joined_below-tells (length audit.feed.stops) row_of p at in
      let one = picks_below-tells (length audit.feed.stops) (λ to. some_ride audit.feed audit.first last (unpaid row.0 to)) (pair row.0) p row.2 in
      let some = some_tells audit last many (unpaid row.0 one.number) one.passes in
      let parts = and_parts ((some.0.from.0 == row.0) && (some.0.to.0 == one.number)) (not (has_option audit.feed audit.buyer (leg_facts audit.feed some.0))) some.2 in
      let both = and_parts (some.0.from.0 == row.0) (some.0.to.0 == one.number) parts.0 in
      let covered = covers some.0 some.1 in
      let here = covered.unpaid (off (has_option audit.feed audit.buyer (leg_facts audit.feed some.0)) parts.1) in
      let from : some.0.from.0 ≡ row.0 = number some.0.from.0 row.0 both.0 in
      let to : some.0.to.0 ≡ one.number = number some.0.to.0 one.number both.1 in
      let P : Pair → Type 0 = Contains found.gaps.items in
      subst P (pair_equal (two_stops some.0) p (from ∙ ap (λ (q : Pair). q.from.0) one.is) (to ∙ ap (λ (q : Pair). q.to.0) one.is)) here
    where
      off : (b : Bool) → not b ≡ true → b ≡ false
      off false e = refl
      off true e = absurd (cc)

      number : (a b : ℕ) → (a == b) ≡ true → a ≡ b
      number a b e = grind (arith, nat_tests, e)

  pub gaps_are : (sorted : List Pair) → ArePairsInOrder found.gaps.items sorted → sorted ≡ uncovered_pairs audit.feed audit.buyer audit.first last
  unfolding uncovered_pairs row_of unpaid pair
  gaps_are sorted ordered =
      same_from_members ComesBefore before_order sorted (joined_below (length audit.feed.stops) row_of) ordered.rises
      (AllPairs-joined_below ComesBefore (length audit.feed.stops) row_of
      (λ i lt. AllPairs-picks_below ComesBefore (length audit.feed.stops) (λ to. some_ride audit.feed audit.first last (unpaid i to)) (pair i) (λ j k lt within. inr (refl, lt)))
      (λ i j x y lt within at also.
      let a = picks_below-tells (length audit.feed.stops) (λ to. some_ride audit.feed audit.first last (unpaid i to)) (pair i) x at in
      let b = picks_below-tells (length audit.feed.stops) (λ to. some_ride audit.feed audit.first last (unpaid j to)) (pair j) y also in
      inl (rw (← a.is, ← b.is) lt)))
      (record {
        there = λ p at. listed p (is.gaps p (ordered.tells p at));
        back = λ p at. ordered.has p (is_gap p at);
      })

  used_at : (i : ℕ) (o : Option LegRuleRow) → slice_get audit.feed.leg_rules i ≡ o → i < length audit.feed.leg_rules →
      not (is_marked found.used.items i) ≡ filled_and o (λ rule. not (is_used_rule audit.feed audit.first last rule))
  used_at i (Some rule) got lt = ap not (same_test _ _ there back)
    where
      there : is_marked found.used.items i ≡ true → is_used_rule audit.feed audit.first last rule ≡ true
      there e =
          let used = is.used i e in
          some_from audit last many _ used.facts used.audited (ap (λ o. filled_and o (is_selected_rule audit.feed (leg_facts audit.feed used.facts))) (sym got) ∙ used.selected)

      back : is_used_rule audit.feed audit.first last rule ≡ true → is_marked found.used.items i ≡ true
      back e =
          let some = some_tells audit last many _ e in
          (covers some.0 some.1).rules i (ap (λ o. filled_and o (is_selected_rule audit.feed (leg_facts audit.feed some.0))) got ∙ some.2)
  used_at i None got lt = let at = item_at audit.feed.leg_rules i lt in absurd (none-some at.0 (sym got ∙ at.1))

  pub idle_are : (idle : List RuleId) → idle ≡ are_unused found.used.items → idle ≡ idle_rules audit.feed audit.first last
  unfolding idle_rules
  idle_are idle e =
      let long = is.many in
      e ∙ ap (λ n. picks_below n (λ i. not (is_marked found.used.items i)) (λ i. let r : RuleId = record { 0 = i } in r)) is.many
      ∙ picks_below-same (length audit.feed.leg_rules) _ _ _ (λ i lt. used_at i (slice_get audit.feed.leg_rules i) refl lt)

-- pairs that are sorted and from which doubles are taken
abbrev pub pair_key : Pair → ℕ × ℕ
pair_key p = (p.from.0, p.to.0)

abbrev pub pair_cmp : Pair → Pair → Ordering
pair_cmp a b = ordering_then (nat_cmp a.from.0 b.from.0) (nat_cmp a.to.0 b.to.0)

abbrev pub pair_eq : Pair → Pair → Bool
pair_eq a b = (a.from.0 == b.from.0) && (a.to.0 == b.to.0)

pair_order : IsTotalOrder (λ (x : ℕ × ℕ) y. ordering_then (nat_cmp x.0 y.0) (nat_cmp x.1 y.1))
pair_order = then_total (on_total (λ (x : ℕ × ℕ). x.0) nat_cmp_total) (on_total (λ (x : ℕ × ℕ). x.1) nat_cmp_total)

pair_total : IsTotalOrder pair_cmp
pair_total = on_total pair_key pair_order

pair_ties : (a b : Pair) → pair_eq a b ≡ eq_by_cmp pair_cmp a b
pair_ties a b = sym (then_equal (nat_cmp a.from.0 b.from.0) (nat_cmp a.to.0 b.to.0) ∙ both (is_eq (nat_cmp a.from.0 b.from.0)) (a.from.0 == b.from.0) (is_eq (nat_cmp a.to.0 b.to.0)) (a.to.0 == b.to.0) (number_equal a.from.0 b.from.0) (number_equal a.to.0 b.to.0))
  where
    both : (p q r s : Bool) → p ≡ q → r ≡ s → (p && r) ≡ (q && s)
    both p q r s e f = rw (e, f) refl

same_pair : (a b : Pair) → pair_eq a b ≡ true → a ≡ b
same_pair a b e = let parts = and_parts (a.from.0 == b.from.0) (a.to.0 == b.to.0) e in pair_equal a b (eqb-true a.from.0 b.from.0 parts.0) (eqb-true a.to.0 b.to.0 parts.1)

comes_before : (a b : Pair) → pair_cmp a b ≡ Less → ComesBefore a b
comes_before a b e = by (cases_lt a.from.0 b.from.0)
  where
    by : (a.from.0 < b.from.0) ⊎ (b.from.0 ≤ a.from.0) → ComesBefore a b
    by (inl lt) = inl lt
    by (inr le) =
        let same : a.from.0 ≡ b.from.0 = grind (arith, nat_tests, e, le) in
        let later : a.to.0 < b.to.0 = grind (arith, nat_tests, e, le) in
        inr (same, later)

pub pairs_in_order : (pairs sorted : List Pair) → IsPermutation pairs sorted → IsSorted pair_cmp sorted → ArePairsInOrder pairs (dedup pair_eq sorted)
pairs_in_order pairs sorted moved up =
    record {
      rises = λ i j d lt to.
          let strict = IsStrictlySortedBy-dedup pair_total {E = pair_eq} pair_ties sorted up in
          comes_before _ _ (Less-from_sorted pair_cmp (dedup pair_eq sorted) i j d strict lt to);
      has = λ pair at. Contains-dedup pair_equiv same_pair sorted pair (Contains-permutation pairs sorted pair moved at);
      tells = λ pair at. Contains-permutation sorted pairs pair (IsPermutation-sym pairs sorted moved) (Contains-from_dedup pair_eq sorted pair at);
    }
  where
    itself : (a : Pair) → pair_eq a a ≡ true
    itself a = and_from (a.from.0 == a.from.0) (a.to.0 == a.to.0) (eq-eqb a.from.0 a.from.0 refl) (eq-eqb a.to.0 a.to.0 refl)

    turned : (x y : Pair) → (pair_eq x y ≡ true) ⊎ (pair_eq x y ≡ false) → (pair_eq y x ≡ true) ⊎ (pair_eq y x ≡ false) → pair_eq x y ≡ pair_eq y x
    turned x y (inl h) other = rw (same_pair x y h) refl
    turned x y (inr h) (inl g) = rw (same_pair y x g) refl
    turned x y (inr h) (inr g) = h ∙ sym g

    pair_equiv : IsEquivalence pair_eq
    pair_equiv = record { refl = itself; symm = λ x y. turned x y (cases_Bool (pair_eq x y)) (cases_Bool (pair_eq y x)); congr = λ x y z h. ap (λ w. pair_eq w z) (same_pair x y h) }

-- one rule more that isn't marked, or is
pub unused_more : (used : List Bool) (rules : List RuleId) (n : ℕ) → is_marked used n ≡ false →
    rules ≡ picks_below n (λ i. not (is_marked used i)) (λ i. record { 0 = i }) → rules ++ record { 0 = n } ∷ [] ≡ picks_below (n + 1) (λ i. not (is_marked used i)) (λ i. record { 0 = i })
unused_more used rules n off were = rw (add-one, off, were) refl

pub unused_less : (used : List Bool) (rules : List RuleId) (n : ℕ) → is_marked used n ≡ true →
    rules ≡ picks_below n (λ i. not (is_marked used i)) (λ i. record { 0 = i }) → rules ≡ picks_below (n + 1) (λ i. not (is_marked used i)) (λ i. record { 0 = i })
unused_less used rules n on were = rw (add-one, on) (were ∙ sym (append-nil _))

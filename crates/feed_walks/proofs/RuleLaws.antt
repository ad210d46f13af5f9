-- Laws of the rows of transfers.txt, in groups by their two stops.
use Rattle.std.proofs.Common.{◌≡◌, refl, sym, ◌∙◌, ap, subst, ℕ, zero, suc, ◌<◌, ◌≤◌, ⊎_elim, Bool, false, List, [], ◌++◌, length, get_or, map, Contains, AllPairs, arith}
use Rattle.std.specs.Prelude.{◌==◌, ◌&&◌, slice_get, filter, All}
use Rattle.std.specs.List.Sorted.{IsNonDecreasingBy}
use Rattle.std.proofs.Math.Bool.{and_comm}
use Rattle.std.proofs.lemmas.Bool.{cases_lt}
use Rattle.std.proofs.lemmas.Bool.Decides.{nat_tests}
use Rattle.std.proofs.lemmas.List.Elements.{filter-append, filter_agree, filter_passes}
use Rattle.std.proofs.lemmas.List.Kept.{IsNonDecreasingBy-filter}
use Rattle.feed_rows.specs.declared.rows.LinkRow.{LinkRow}
use Rattle.plain_laws.specs.Plain.{joined_below}
use Rattle.item_groups.specs.Groups.{group_of, groups_below}
use Rattle.plain_laws.proofs.Laws.{joined_below-same, joined_below-one, joined_below-none, AllPairs-joined_below, Contains-filter_passes, filter_none, find_none, find-filter, filter-filter}
use Rattle.item_groups.proofs.GroupLaws.{groups_below-at, groups_below-past, group_of-map, joined-groups_below}
use Rattle.feed_walks.specs.Rules.{group_at, by_start, by_end, AreRules}

-- the row leads from the one stop to the other
abbrev between : ℕ → ℕ → LinkRow → Bool
between i j row = (row.from.0 == i) && (row.to.0 == j)

-- a filter of what is joined
filter-joined_below : {X : Type 0} (p : X → Bool) (n : ℕ) (f : ℕ → List X) → filter p (joined_below n f) ≡ joined_below n (λ k. filter p (f k))
filter-joined_below p zero f = refl
filter-joined_below p (suc n) f = filter-append p (joined_below n f) (f n) ∙ ap (λ xs. xs ++ filter p (f n)) (filter-joined_below p n f)

-- the rows by the stops that they lead to
module _ (links : List LinkRow) (n : ℕ) (within : All (λ row. row.to.0 < n) links) where
  abbrev rows_to : ℕ → List LinkRow
  rows_to j = filter (λ row. row.to.0 == j) links

  abbrev by_ends : List LinkRow
  by_ends = joined_below n rows_to

  leads_there : (j : ℕ) (row : LinkRow) → Contains (rows_to j) row → row.to.0 ≡ j
  leads_there j row at = let passes = Contains-filter_passes (λ (r : LinkRow). r.to.0 == j) links row at in grind (arith, nat_tests, passes)

  ends_ascend : AllPairs (λ a b. a.to.0 ≤ b.to.0) by_ends
  ends_ascend = AllPairs-joined_below (λ a b. a.to.0 ≤ b.to.0) n rows_to
      (λ j lt a b d less inside.
      let one = filter_passes (λ (r : LinkRow). r.to.0 == j) links a d (omega arith) in
      let other = filter_passes (λ (r : LinkRow). r.to.0 == j) links b d inside in
      grind (arith, nat_tests, one, other))
      (λ i j a b lt below here there. let one = leads_there i a here in let other = leads_there j b there in omega (arith, one, other, lt))

  ends_rise : IsNonDecreasingBy (λ (row : LinkRow). row.to.0) by_ends
  ends_rise a b d le lt = ⊎_elim
      (λ (less : a < b). ends_ascend a b d less lt)
      (λ (not_less : b ≤ a). let same : a ≡ b = omega arith in subst (λ k. (get_or by_ends a d).to.0 ≤ (get_or by_ends k d).to.0) same (omega arith))
      (cases_lt a b)

  -- those between two stops are as before
  between_same : (i j : ℕ) → filter (between i j) by_ends ≡ filter (between i j) links
  between_same i j = filter-joined_below (between i j) n rows_to ∙ ⊎_elim
      (λ (lt : j < n).
      joined_below-one n j (λ k. filter (between i j) (rows_to k)) lt
      (λ k kn apart. filter-filter (between i j) (λ row. row.to.0 == k) links
      ∙ filter_none (λ row. between i j row && (row.to.0 == k)) links (λ m d inside. grind (arith, nat_tests, apart)))
      ∙ filter-filter (between i j) (λ row. row.to.0 == j) links
      ∙ filter_agree (λ row. between i j row && (row.to.0 == j)) (between i j) (λ row. grind (arith, nat_tests)) links)
      (λ (past : n ≤ j).
      let none : filter (between i j) links ≡ [] = filter_none (between i j) links (λ m d inside. let less = within m d inside in grind (arith, nat_tests, less, past)) in
      joined_below-none n (λ k. filter (between i j) (rows_to k))
      (λ k kn. filter-filter (between i j) (λ row. row.to.0 == k) links
      ∙ filter_none (λ row. between i j row && (row.to.0 == k)) links (λ m d inside. grind (arith, nat_tests, kn, past)))
      ∙ sym none)
      (cases_lt j n)

-- the rows in groups, each by the stops that they lead to
pub rules_from_groups : (links rows : List LinkRow) (ends rules : List (List LinkRow)) (n : ℕ) →
    All (λ row. row.from.0 < n) links → All (λ row. row.to.0 < n) links → ends ≡ groups_below n (map by_end links) →
    rows ≡ joined_below (length ends) (λ i. get_or ends i []) → rules ≡ groups_below n (map by_start rows) → AreRules links rules
rules_from_groups links rows ends rules n within fits ends_are rows_are are =
    record {
      rises = λ i. ⊎_elim
          (λ (lt : i < n). rw (group i lt) (IsNonDecreasingBy-filter (λ (row : LinkRow). row.to.0) (λ row. row.from.0 == i) rows (subst (IsNonDecreasingBy (λ (row : LinkRow). row.to.0)) (sym same) (ends_rise links n fits))))
          (λ (past : n ≤ i). rw (none i past) (λ a b d le lt. absurd (omega arith)))
          (cases_lt i n);
      first = λ i j. ⊎_elim
          (λ (lt : i < n). rw (group i lt) (find-filter (λ row. row.to.0 == j) (filter (λ row. row.from.0 == i) rows) ∙ ap (λ found. slice_get found 0) (group_to i j) ∙ sym (find-filter (between i j) links)))
          (λ (past : n ≤ i). rw (none i past) (sym (find_none (between i j) links (λ k d lt. let less = within k d lt in let other : ((get_or links k d).from.0 == i) ≡ false = grind (arith, nat_tests, less, past) in rw other refl))))
          (cases_lt i n);
    }
  where
    same : rows ≡ by_ends links n fits
    same = rows_are ∙ ap (λ groups. joined_below (length groups) (λ i. get_or groups i [])) ends_are ∙ joined-groups_below n (map by_end links)
        ∙ joined_below-same n (group_of (map by_end links)) (rows_to links n fits) (λ j lt. group_of-map (λ (row : LinkRow). row.to.0) links j)

    group : (i : ℕ) → i < n → group_at rules i ≡ filter (λ row. row.from.0 == i) rows
    group i lt = rw are (groups_below-at n (map by_start rows) i lt ∙ group_of-map (λ (row : LinkRow). row.from.0) rows i)

    none : (i : ℕ) → n ≤ i → group_at rules i ≡ []
    none i past = rw are (groups_below-past n (map by_start rows) i past)

    group_to : (i j : ℕ) → filter (λ row. row.to.0 == j) (filter (λ row. row.from.0 == i) rows) ≡ filter (between i j) links
    group_to i j =
        filter-filter (λ (row : LinkRow). row.to.0 == j) (λ row. row.from.0 == i) rows
        ∙ filter_agree (λ (row : LinkRow). (row.to.0 == j) && (row.from.0 == i)) (between i j) (λ row. and_comm (row.to.0 == j) (row.from.0 == i)) rows
        ∙ ap (filter (between i j)) same ∙ between_same links n fits i j

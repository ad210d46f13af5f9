-- Numbers of lists in the order of their legs: where a new one stands, and that none is overlooked.
use Rattle.std.proofs.Common.{◌≡◌, refl, ◌∙◌, ap, ℕ, zero, suc, ◌+◌, ◌<◌, ◌≤◌, Bool, true, false, List, [], ◌∷◌, ◌++◌}
use Rattle.std.proofs.Common.{length, get_or, Contains, Option, Some, None, arith, length-append}
use Rattle.std.specs.Prelude.{◌==◌, nat_lt, IfNone, IsSome}
use Rattle.std.specs.Cmp.{IsTotalOrder}
use Rattle.std.specs.List.{insert}
use Rattle.std.specs.List.Sorted.{IsNonDecreasingBy, IsPartitionedBy, IsSortedBy}
use Rattle.std.specs.Option.{option_map_or}
use Rattle.std.specs.Ordering.{nat_cmp, is_lt, ordering_index, ordering_reverse}
use Rattle.std.specs.declared.cmp.Ordering.{Ordering}
use Rattle.std.specs.declared.cmp.Ordering.TheVariants.{Less, Equal, Greater}
use Rattle.std.proofs.lemmas.Bool.Decides.{nat_tests}
use Rattle.std.proofs.lemmas.Cmp.{nat_cmp_total, on_total, then_total, lists_total, tied_itself}
use Rattle.std.proofs.lemmas.List.Elements.{All-cons}
use Rattle.std.proofs.lemmas.List.Sorted.{All-permutation, Contains-permutation, IsPermutation-insert}
use Rattle.std.proofs.lemmas.List.Sorted.{IsNonDecreasingBy-insert, searchable_from_sorted}
use Rattle.std.proofs.lemmas.Option.{slice_get-get_or}
use Rattle.transit_base.specs.declared.numbers.AreaId.{AreaId}
use Rattle.transit_base.specs.declared.numbers.FrameId.{FrameId}
use Rattle.feed_rows.specs.declared.journeys.LegFacts.{LegFacts}
use Rattle.leg_kinds.specs.declared.kept.KeptList.{KeptList}
use Rattle.leg_kinds.specs.Kinds.{timeless, kept_leg, kind_lists, IsOfKind, network_place, facts_cmp}
use Rattle.leg_kinds.specs.Kinds.{rank, IsInOrder, IsPlaceFor, IsForOther}

-- the order of legs is total
areas_total : IsTotalOrder (λ (a b : AreaId). nat_cmp a.0 b.0)
areas_total = on_total (λ (a : AreaId). a.0) nat_cmp_total

frames_total : IsTotalOrder (λ (a b : FrameId). nat_cmp a.0 b.0)
frames_total = on_total (λ (f : FrameId). f.0) nat_cmp_total

facts_total : IsTotalOrder facts_cmp
facts_total =
    then_total (on_total (λ (l : LegFacts). network_place l.network) nat_cmp_total)
    (then_total (on_total (λ (l : LegFacts). l.from_areas) (lists_total areas_total))
    (then_total (on_total (λ (l : LegFacts). l.to_areas) (lists_total areas_total))
    (then_total (on_total (λ (l : LegFacts). l.from_frames) (lists_total frames_total))
    (on_total (λ (l : LegFacts). l.to_frames) (lists_total frames_total)))))

-- of two legs that don't fall, the second stands no lower to any third
rises : (a b leg : LegFacts) → is_lt (facts_cmp b a) ≡ false
    → ordering_index (facts_cmp a leg) ≤ ordering_index (facts_cmp b leg)
rises a b leg up =
    searchable_from_sorted facts_total (λ (l : LegFacts). l) (a ∷ b ∷ []) leg pair 0 1 a (omega arith) (omega arith)
  where
    pair : IsSortedBy (λ (x y : LegFacts). is_lt (facts_cmp x y)) (a ∷ b ∷ [])
    pair zero d low high = up
    pair (suc k) d low high = absurd (omega (arith, high))

-- what tests of a rank tell
first_is : (o : Ordering) → (ordering_index o == 0) ≡ true → o ≡ Less
first_is Less e = refl
first_is Equal e = absurd (cc)
first_is Greater e = absurd (cc)

later_is : (o : Ordering) → (ordering_index o == 0) ≡ false → is_lt o ≡ false
later_is Less e = absurd (cc)
later_is Equal e = refl
later_is Greater e = refl

not_both : (n : ℕ) → n ≡ 1 → (n == 0) ≡ true → ⊥
not_both n one e = grind (arith, nat_tests)

no_other : (n : ℕ) → (n == 0) ≡ false → (n == 1) ≡ false → n ≤ 1 → ⊥
no_other n e f le = grind (arith, nat_tests)

module _ {T : Type 0} where
  -- the ranks of the lists that were kept before one more, and of that one
  old_rank : (kept : List (KeptList T)) (own : KeptList T) (leg : LegFacts) (n : ℕ) → n < length kept
      → rank (kept ++ own ∷ []) leg n ≡ rank kept leg n
  old_rank [] own leg n lt = absurd (omega (arith, lt))
  old_rank (k ∷ ks) own leg zero lt = refl
  old_rank (k ∷ ks) own leg (suc n) lt = old_rank ks own leg n (omega (arith, lt))

  new_rank : (kept : List (KeptList T)) (own : KeptList T) (leg : LegFacts)
      → rank (kept ++ own ∷ []) leg (length kept) ≡ ordering_index (facts_cmp (kept_leg own) leg)
  new_rank [] own leg = refl
  new_rank (k ∷ ks) own leg = new_rank ks own leg

  rank_is : (kept : List (KeptList T)) (d : KeptList T) (leg : LegFacts) (n : ℕ) → n < length kept
      → rank kept leg n ≡ ordering_index (facts_cmp (kept_leg (get_or kept n d)) leg)
  rank_is kept d leg n lt =
      let of = λ (k : KeptList T). ordering_index (facts_cmp (kept_leg k) leg) in
      ap (λ (o : Option (KeptList T)). option_map_or of o 2) (slice_get-get_or kept n d lt)

  -- a list that is kept for the leg stands like it
  same_rank : (kept : List (KeptList T)) (leg : LegFacts) (n : ℕ) → IsOfKind (kind_lists kept) leg n
      → (n < length kept) × (rank kept leg n ≡ 1)
  same_rank [] leg n kind = absurd (cc)
  same_rank (k ∷ ks) leg zero kind =
      let same : kept_leg k ≡ timeless leg = cc in (
        omega arith,
        ap (λ (l : LegFacts). ordering_index (facts_cmp l leg)) same
            ∙ ap ordering_index (tied_itself facts_total leg),
      )
  same_rank (k ∷ ks) leg (suc n) kind = let rest = same_rank ks leg n kind in (omega (arith, rest.0), rest.1)

  -- what comes before the leg stands before what doesn't
  pub parted : (kept : List (KeptList T)) (order : List ℕ) (leg : LegFacts) → IsInOrder kept order
      → IsPartitionedBy (λ n. rank kept leg n == 0) order
  parted kept order leg is i j d le lt first =
      let rise = is.sorted leg i j d le lt in
      grind (arith, nat_tests)

  -- a leg for which a list is kept is found at its place
  pub known : (kept : List (KeptList T)) (order : List ℕ) (leg : LegFacts) (place : ℕ) (result : Option ℕ)
      → IsInOrder kept order → IsPlaceFor kept order leg place → IfNone result (IsForOther kept order leg place)
      → (number : ℕ) → IsOfKind (kind_lists kept) leg number → IsSome result
  known kept order leg place (Some found) is parts none number kind = refl
  known kept order leg place None is parts none number kind =
      let there = same_rank kept leg number kind in
      let at = is.every number there.0 in
      let here : rank kept leg (get_or order at.0 number) ≡ 1 = ap (rank kept leg) at.2 ∙ there.1 in
      let not_first : at.0 < place → ⊥ = λ lt. not_both _ here (parts.0 at.0 number (omega arith) lt) in
      let le : place ≤ at.0 = omega arith in
      absurd (no_other _ (parts.1 place number (omega arith) (omega (arith, le, at.1)))
      (none number (omega (arith, le, at.1))) (omega (arith, is.sorted leg place at.0 number le at.1, here)))

  -- one list more, at its place
  pub order_more : (kept : List (KeptList T)) (own : KeptList T) (leg : LegFacts) (order : List ℕ) (place : ℕ)
      → IsInOrder kept order → kept_leg own ≡ timeless leg → place ≤ length order
      → IsPlaceFor kept order leg place → IsInOrder (kept ++ own ∷ []) (insert order place (length kept))
  order_more kept own leg order place is kind le parts = record {
    within =
        All-permutation (λ n. n < length more) (length kept ∷ order) _ (IsPermutation-insert order place (length kept))
        (All-cons (λ n. n < length more) (length kept) order (omega (arith, longer))
        (λ k d lt. omega (arith, longer, is.within k d lt)));
    every = λ n lt.
        Contains-permutation (length kept ∷ order) _ n (IsPermutation-insert order place (length kept))
        (among n (nat_lt n (length kept)) refl lt);
    sorted = λ q.
        IsNonDecreasingBy-insert (rank more q) order place (length kept) (old q) le
        (λ k d lt. lower q (get_or order k d) (is.within k d (omega (arith, lt, le))) (parts.0 k d (omega arith) lt))
        (λ k d ge lt. higher q (get_or order k d) (is.within k d lt) (parts.1 k d ge lt));
  }
    where
      more : List (KeptList T)
      more = kept ++ own ∷ []

      longer : length more ≡ length kept + 1
      longer = length-append kept (own ∷ [])

      among : (n : ℕ) (t : Bool) → nat_lt n (length kept) ≡ t → n < length more → Contains (length kept ∷ order) n
      among n true e lt = let at = is.every n (grind (arith, nat_tests)) in (suc at.0, omega (arith, at.1), at.2)
      among n false e lt =
          let le : length kept ≤ n = grind (arith, nat_tests) in
          (0, omega arith, omega (arith, longer))

      old : (q : LegFacts) → IsNonDecreasingBy (rank more q) order
      old q i j d ij jl =
          let at_i = old_rank kept own q (get_or order i d) (is.within i d (omega (arith, ij, jl))) in
          let at_j = old_rank kept own q (get_or order j d) (is.within j d jl) in
          rw (at_i, at_j) (is.sorted q i j d ij jl)

      like : (l : LegFacts) → facts_cmp (kept_leg own) l ≡ facts_cmp leg l
      like l = ap (λ (k : LegFacts). facts_cmp k l) kind

      lower : (q : LegFacts) (n : ℕ) → n < length kept → (rank kept leg n == 0) ≡ true
          → rank more q n ≤ rank more q (length kept)
      lower q n lt first =
          let a = kept_leg (get_or kept n own) in
          let less : facts_cmp a leg ≡ Less = first_is (facts_cmp a leg) (rw (← rank_is kept own leg n lt) first) in
          let up : is_lt (facts_cmp (kept_leg own) a) ≡ false =
          ap is_lt (like a ∙ facts_total.antisymm leg a ∙ ap ordering_reverse less) in
          rw (old_rank kept own q n lt, rank_is kept own q n lt, new_rank kept own q) (rises a (kept_leg own) q up)

      higher : (q : LegFacts) (n : ℕ) → n < length kept → (rank kept leg n == 0) ≡ false
          → rank more q (length kept) ≤ rank more q n
      higher q n lt later =
          let a = kept_leg (get_or kept n own) in
          let up = later_is (facts_cmp a leg) (rw (← rank_is kept own leg n lt) later) in
          rw (old_rank kept own q n lt, rank_is kept own q n lt, new_rank kept own q)
          (rises (kept_leg own) a q (ap is_lt (ap (facts_cmp a) kind) ∙ up))

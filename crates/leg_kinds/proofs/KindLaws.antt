-- Legs that stand alike in the order differ in their moments at most, and lists are kept by that.
use Rattle.std.proofs.Common.{◌≡◌, refl, sym, ◌∙◌, ap, ℕ, ◌+◌, true, List, [], ◌∷◌, ◌++◌, length, Option, Some, None, false, arith}
use Rattle.std.specs.Prelude.{◌==◌, slice_get, option_map}
use Rattle.std.specs.Cmp.Lexicographic.{slice_cmp}
use Rattle.std.specs.FinMap.{IsAntisymmetric, nat_cmp-IsAntisymmetric, slice_cmp-IsAntisymmetric}
use Rattle.std.specs.Option.{option_map_or}
use Rattle.std.specs.Ordering.{nat_cmp, is_eq, is_lt, ordering_then, ordering_index}
use Rattle.std.specs.declared.cmp.Ordering.{Ordering}
use Rattle.std.specs.declared.cmp.Ordering.TheVariants.{Less, Equal, Greater}
use Rattle.std.proofs.lemmas.List.{length-map, map-append}
use Rattle.std.proofs.lemmas.Option.{slice_get-map}
use Rattle.transit_base.specs.declared.numbers.AreaId.{AreaId}
use Rattle.transit_base.specs.declared.numbers.FrameId.{FrameId}
use Rattle.transit_base.specs.declared.numbers.NetworkId.{NetworkId}
use Rattle.feed_rows.specs.declared.journeys.LegFacts.{LegFacts}
use Rattle.leg_kinds.specs.declared.kept.KeptList.{KeptList}
use Rattle.leg_kinds.specs.Kinds.{timeless, kept_leg, network_place, frames_cmp, areas_cmp, facts_cmp, KindList, kept_for, kind_lists, items_at, IsOfKind, rank}

both_equal : (a b : Ordering) → ordering_then a b ≡ Equal → (a ≡ Equal) × (b ≡ Equal)
both_equal Less b e = absurd (let no : Less ≡ Equal = e in cc)
both_equal Equal b e = (refl, e)
both_equal Greater b e = absurd (let no : Greater ≡ Equal = e in cc)

one_network : (a b : Option NetworkId) → network_place a ≡ network_place b → a ≡ b
one_network None None e = refl
one_network None (Some n) e = absurd (omega (arith, e))
one_network (Some m) None e = absurd (omega (arith, e))
one_network (Some m) (Some n) e = let same : m.0 ≡ n.0 = omega (arith, e) in ap (λ k. Some (record { 0 = k })) same

one_area : IsAntisymmetric (λ (a b : AreaId). nat_cmp a.0 b.0)
one_area a b e = ap (λ k. record { 0 = k }) (nat_cmp-IsAntisymmetric a.0 b.0 e)

one_frame : IsAntisymmetric (λ (a b : FrameId). nat_cmp a.0 b.0)
one_frame a b e = ap (λ k. record { 0 = k }) (nat_cmp-IsAntisymmetric a.0 b.0 e)

-- legs that are ordered alike differ in their moments at most
same_facts : (a b : LegFacts) → facts_cmp a b ≡ Equal → timeless a ≡ timeless b
same_facts a b e =
    let network = both_equal (nat_cmp (network_place a.network) (network_place b.network)) (areas_cmp a b) e in
    let from = both_equal (slice_cmp (λ (x y : AreaId). nat_cmp x.0 y.0) a.from_areas b.from_areas) _ network.1 in
    let to = both_equal (slice_cmp (λ (x y : AreaId). nat_cmp x.0 y.0) a.to_areas b.to_areas) (frames_cmp a b) from.1 in
    let frames = both_equal (slice_cmp (λ (f g : FrameId). nat_cmp f.0 g.0) a.from_frames b.from_frames) _ to.1 in
    let n = one_network a.network b.network (nat_cmp-IsAntisymmetric _ _ network.0) in
    let fa = slice_cmp-IsAntisymmetric one_area a.from_areas b.from_areas from.0 in
    let ta = slice_cmp-IsAntisymmetric one_area a.to_areas b.to_areas to.0 in
    let ff = slice_cmp-IsAntisymmetric one_frame a.from_frames b.from_frames frames.0 in
    let tf = slice_cmp-IsAntisymmetric one_frame a.to_frames b.to_frames frames.1 in
    rw (n, fa, ta, ff, tf) refl

module _ {T : Type 0} where
  abbrev as_list : KeptList T → KindList T
  as_list kept = record { kind = kept_leg kept; items = kept.items.items }

  -- what is found for a leg is kept for one that differs in its moments at most
  pub found : (kept : List (KeptList T)) (leg : LegFacts) (number : ℕ) → (rank kept leg number == 1) ≡ true
      → IsOfKind (kind_lists kept) leg number
  found kept leg number e =
      at (slice_get kept number) (slice_get-map as_list kept number) e
    where
      same : (o : Ordering) → (ordering_index o == 1) ≡ true → o ≡ Equal
      same Less e = absurd (cc)
      same Equal e = refl
      same Greater e = absurd (cc)

      at : (o : Option (KeptList T)) → slice_get (kind_lists kept) number ≡ option_map as_list o
          → (option_map_or (λ (k : KeptList T). ordering_index (facts_cmp (kept_leg k) leg)) o 2 == 1) ≡ true
          → IsOfKind (kind_lists kept) leg number
      at None is e = absurd (cc)
      at (Some own) is e =
          ap (option_map (λ (l : KindList T). l.kind)) is
          ∙ ap Some (same_facts (kept_leg own) leg (same (facts_cmp (kept_leg own) leg) e))

  -- one list more
  pub kept_more : (kept more : List (KeptList T)) (own : KeptList T) (leg : LegFacts) (items : List T) → more ≡ kept ++ own ∷ []
      → kept_leg own ≡ timeless leg → own.items.items ≡ items → kind_lists more ≡ kind_lists kept ++ kept_for leg items ∷ []
  kept_more kept more own leg items is kind same =
      ap kind_lists is ∙ map-append as_list kept (own ∷ [])
      ∙ ap (λ (k : LegFacts). kind_lists kept ++ record { kind = k; items = own.items.items } ∷ []) kind
      ∙ ap (λ xs. kind_lists kept ++ kept_for leg xs ∷ []) same

  pub many_kept : (kept : List (KeptList T)) → length kept ≡ length (kind_lists kept)
  many_kept kept = sym (length-map kept as_list)

  -- the list of a number
  pub list_some : (kept : List (KeptList T)) (number : ℕ) (own : KeptList T) → slice_get kept number ≡ Some own →
      own.items.items ≡ items_at (kind_lists kept) number
  list_some kept number own at =
      sym (ap (λ (o : Option (KindList T)). option_map_or (λ (l : KindList T). l.items) o []) (slice_get-map as_list kept number ∙ ap (option_map as_list) at))

  pub list_none : (kept : List (KeptList T)) (number : ℕ) → slice_get kept number ≡ None → [] ≡ items_at (kind_lists kept) number
  list_none kept number at =
      sym (ap (λ (o : Option (KindList T)). option_map_or (λ (l : KindList T). l.items) o []) (slice_get-map as_list kept number ∙ ap (option_map as_list) at))

  -- how the leg of a list stands to another, by the number of the list
  pub before_of : (kept : List (KeptList T)) (number : ℕ) (own : KeptList T) (leg : LegFacts) → slice_get kept number ≡ Some own
      → is_lt (facts_cmp (kept_leg own) leg) ≡ (rank kept leg number == 0)
  before_of kept number own leg at = rw at (first (facts_cmp (kept_leg own) leg))
    where
      first : (o : Ordering) → is_lt o ≡ (ordering_index o == 0)
      first Less = refl
      first Equal = refl
      first Greater = refl

  pub before_none : (kept : List (KeptList T)) (number : ℕ) (leg : LegFacts) → slice_get kept number ≡ None
      → false ≡ (rank kept leg number == 0)
  before_none kept number leg at = rw at refl

  pub same_of : (kept : List (KeptList T)) (number : ℕ) (own : KeptList T) (leg : LegFacts) → slice_get kept number ≡ Some own
      → is_eq (facts_cmp (kept_leg own) leg) ≡ (rank kept leg number == 1)
  same_of kept number own leg at = rw at (alike (facts_cmp (kept_leg own) leg))
    where
      alike : (o : Ordering) → is_eq o ≡ (ordering_index o == 1)
      alike Less = refl
      alike Equal = refl
      alike Greater = refl

  pub same_none : (kept : List (KeptList T)) (number : ℕ) (leg : LegFacts) → slice_get kept number ≡ None
      → false ≡ (rank kept leg number == 1)
  same_none kept number leg at = rw at refl

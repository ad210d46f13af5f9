-- Lists that are kept by the kind of a leg: all that fare rules look at in it, which is all but its moments.
use Rattle.std.specs.Prelude.{◌≡◌, ◌==◌, ℕ, ◌+◌, ◌<◌, true, false, List, [], length, All, Contains, Option, Some}
use Rattle.std.specs.Prelude.{map, pos, slice_get, option_map}
use Rattle.std.specs.Cmp.Lexicographic.{slice_cmp}
use Rattle.std.specs.Option.{option_map_or}
use Rattle.std.specs.List.{slice_index_or}
use Rattle.std.specs.List.Sorted.{IsNonDecreasingBy, IsPartitionPoint}
use Rattle.std.specs.Ordering.{nat_cmp, ordering_then, ordering_index}
use Rattle.std.specs.declared.cmp.Ordering.{Ordering}
use Rattle.transit_base.specs.declared.numbers.AreaId.{AreaId}
use Rattle.transit_base.specs.declared.numbers.FrameId.{FrameId}
use Rattle.transit_base.specs.declared.numbers.NetworkId.{NetworkId}
use Rattle.feed_rows.specs.declared.journeys.LegFacts.{LegFacts}
use Rattle.leg_kinds.specs.declared.kept.KeptList.{KeptList}

-- the leg without its moments
abbrev pub timeless : LegFacts → LegFacts
timeless leg = record leg { departure = record { 0 = pos 0 }; arrival = record { 0 = pos 0 } }

-- a leg without its moments, and the list that is kept for it
pub record KindList (T : Type 0) : Type 0 where
  pub kind : LegFacts
  pub items : List T

-- the list, as it is kept for the leg
abbrev pub kept_for : {T : Type 0} → LegFacts → List T → KindList T
kept_for leg items = record { kind = timeless leg; items = items }

-- the list with this number is kept for a leg that differs from this one in its moments at most
abbrev pub IsOfKind : {T : Type 0} → List (KindList T) → LegFacts → ℕ → Type 0
IsOfKind {T} lists leg number = option_map (λ (l : KindList T). l.kind) (slice_get lists number) ≡ Some (timeless leg)

-- the list with this number; none where there is no such list
abbrev pub items_at : {T : Type 0} → List (KindList T) → ℕ → List T
items_at {T} lists number = option_map_or (λ (l : KindList T). l.items) (slice_get lists number) []

-- ---- as it is kept

-- the leg for which the list is kept, without its moments
abbrev pub kept_leg : {T : Type 0} → KeptList T → LegFacts
kept_leg kept =
    record {
      network = kept.network;
      from_areas = kept.from_areas.items;
      to_areas = kept.to_areas.items;
      from_frames = kept.from_frames.items;
      to_frames = kept.to_frames.items;
      departure = record { 0 = pos 0 };
      arrival = record { 0 = pos 0 };
    }

abbrev pub kind_lists : {T : Type 0} → List (KeptList T) → List (KindList T)
kind_lists {T} kept = map (λ (k : KeptList T). record { kind = kept_leg k; items = k.items.items }) kept

-- where a network stands in an order of networks, in which none is first
abbrev pub network_place : Option NetworkId → ℕ
network_place network = option_map_or (λ (n : NetworkId). n.0 + 1) network 0

-- an order of legs by all but their moments: by network, by areas, by timeframe groups
abbrev pub frames_cmp : LegFacts → LegFacts → Ordering
frames_cmp a b =
    ordering_then (slice_cmp (λ (f g : FrameId). nat_cmp f.0 g.0) a.from_frames b.from_frames)
    (slice_cmp (λ (f g : FrameId). nat_cmp f.0 g.0) a.to_frames b.to_frames)

abbrev pub areas_cmp : LegFacts → LegFacts → Ordering
areas_cmp a b =
    ordering_then (slice_cmp (λ (x y : AreaId). nat_cmp x.0 y.0) a.from_areas b.from_areas)
    (ordering_then (slice_cmp (λ (x y : AreaId). nat_cmp x.0 y.0) a.to_areas b.to_areas) (frames_cmp a b))

abbrev pub facts_cmp : LegFacts → LegFacts → Ordering
facts_cmp a b = ordering_then (nat_cmp (network_place a.network) (network_place b.network)) (areas_cmp a b)

-- how the leg for which the list with a number is kept stands to another: 0 before it, 1 where they are ordered alike,
-- 2 behind it, and where there is no such list
abbrev pub rank : {T : Type 0} → List (KeptList T) → LegFacts → ℕ → ℕ
rank {T} kept leg number =
    option_map_or (λ (k : KeptList T). ordering_index (facts_cmp (kept_leg k) leg)) (slice_get kept number) 2

-- the numbers of all lists, by the order of their legs
pub record IsInOrder {T : Type 0} (kept : List (KeptList T)) (order : List ℕ) : Type 0 where
  pub within : All (λ n. n < length kept) order
  pub every : (n : ℕ) → n < length kept → Contains order n
  pub sorted : (leg : LegFacts) → IsNonDecreasingBy (rank kept leg) order

-- the place parts the numbers of the lists that come before the leg from the others
abbrev pub IsPlaceFor : {T : Type 0} → List (KeptList T) → List ℕ → LegFacts → ℕ → Type 0
IsPlaceFor kept order leg place =
    IsPartitionPoint (λ n. (rank kept leg n == 0) ≡ true) (λ n. (rank kept leg n == 0) ≡ false) order place

-- the list whose number stands at the place, if one does, is kept for no leg that is ordered like this one
abbrev pub IsForOther : {T : Type 0} → List (KeptList T) → List ℕ → LegFacts → ℕ → Type 0
IsForOther kept order leg place =
    (d : ℕ) → place < length order → (rank kept leg (slice_index_or order place d) == 1) ≡ false

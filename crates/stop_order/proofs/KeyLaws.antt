-- What a sort of the keys of all rows gives: an order in which trips stand together.
use Rattle.std.proofs.Common.{◌≡◌, refl, ◌∙◌, ap, subst, ℕ, zero, suc, ◌+◌, ◌<◌, ◌≤◌, ◌⊎◌, ⊎_elim, Bool, false, List, length, get_or, All, Contains, arith}
use Rattle.std.specs.Prelude.{◌==◌, Option, None, Some, option_map}
use Rattle.std.specs.Option.{option_cmp}
use Rattle.std.specs.Ordering.{nat_cmp, ordering_then, is_lt}
use Rattle.std.specs.declared.cmp.Ordering.{Ordering}
use Rattle.std.specs.List.{IsDistinct}
use Rattle.std.specs.List.Sorted.{IsPermutation, IsSorted}
use Rattle.std.proofs.lemmas.Bool.{cases_eq}
use Rattle.std.proofs.lemmas.Bool.Decides.{nat_tests}
use Rattle.std.proofs.lemmas.List.{get_or_default}
use Rattle.std.proofs.lemmas.List.Sorted.{length_permutation, All-permutation, Contains-permutation}
use Rattle.std.proofs.lemmas.Map.Keys.{IsDistinct-from_apart, IsDistinct-IsPermutation, apart_from_distinct}
use Rattle.transit_base.specs.declared.numbers.TripId.{TripId}
use Rattle.plain_laws.specs.Plain.{list_below}
use Rattle.plain_laws.proofs.Laws.{length-list_below, get_or-list_below, eqb_turn}
use Rattle.stop_order.specs.declared.keys.PlaceKey.{PlaceKey}
use Rattle.stop_order.specs.declared.times.TripTime.{TripTime}
use Rattle.stop_order.specs.Order.{key_of, row_at, trip_at, Before, ArePlaced, AreOrdered}
use Rattle.stop_order.proofs.OrderLaws.{not_itself}

-- trips in their order: none, and then each by its number
abbrev rank : Option ℕ → ℕ
rank None = 0
rank (Some trip) = suc trip

rank_apart : (a b : Option TripId) → rank (option_map (λ t. t.0) a) ≡ rank (option_map (λ t. t.0) b) → a ≡ b
rank_apart None None e = refl
rank_apart None (Some y) e = absurd (omega (arith, e))
rank_apart (Some x) None e = absurd (omega (arith, e))
rank_apart (Some x) (Some y) e = let e' : x.0 ≡ y.0 = omega (arith, e) in ap (λ n. Some (trip_of n)) e'
  where
    trip_of : ℕ → TripId
    trip_of n = record { 0 = n }

rank_cmp : (x y : Option ℕ) → option_cmp nat_cmp x y ≡ nat_cmp (rank x) (rank y)
rank_cmp None None = refl
rank_cmp None (Some y) = grind (arith, nat_tests)
rank_cmp (Some x) None = grind (arith, nat_tests)
rank_cmp (Some x) (Some y) = grind (arith, nat_tests)

abbrev key_cmp : PlaceKey → PlaceKey → Ordering
key_cmp a b = ordering_then (option_cmp nat_cmp a.trip b.trip) (ordering_then (nat_cmp a.sequence b.sequence) (nat_cmp a.row b.row))

-- key b doesn't come before key a
abbrev Follows : PlaceKey → PlaceKey → Type 0
Follows a b = (rank a.trip < rank b.trip) ⊎ ((rank a.trip ≡ rank b.trip) × ((a.sequence < b.sequence) ⊎ ((a.sequence ≡ b.sequence) × (a.row ≤ b.row))))

-- key a comes before key b
abbrev Precedes : PlaceKey → PlaceKey → Type 0
Precedes a b = (rank a.trip < rank b.trip) ⊎ ((rank a.trip ≡ rank b.trip) × Before a.sequence b.sequence a.row b.row)

follows_by : (r s t u a b : ℕ) → is_lt (ordering_then (nat_cmp s r) (ordering_then (nat_cmp u t) (nat_cmp b a))) ≡ false → (r < s) ⊎ ((r ≡ s) × ((t < u) ⊎ ((t ≡ u) × (a ≤ b))))
follows_by r s t u a b e = grind (arith, nat_tests, e)

follows : (a b : PlaceKey) → is_lt (key_cmp b a) ≡ false → Follows a b
follows a b e = follows_by (rank a.trip) (rank b.trip) a.sequence b.sequence a.row b.row (rw rank_cmp at e)

follows_on : (a b c : PlaceKey) → Follows a b → Follows b c → Follows a c
follows_on a b c x y = grind (arith, x, y)

strictly : (a b : PlaceKey) → Follows a b → (a.row == b.row) ≡ false → Precedes a b
strictly a b h ne = grind (arith, nat_tests, h, ne)

-- trips don't fall
rises : (a b : PlaceKey) → Precedes a b → rank a.trip ≤ rank b.trip
rises a b is = grind (arith, is)

before_from : (a b : PlaceKey) → Precedes a b → rank a.trip ≡ rank b.trip → Before a.sequence b.sequence a.row b.row
before_from a b is same = grind (arith, is, same)

abbrev same_row : PlaceKey → PlaceKey → Bool
same_row a b = a.row == b.row

differ : (a b : ℕ) → a < b → (a == b) ≡ false
differ a b lt = grind (arith, nat_tests)

-- the key is that of a row of the file
abbrev IsKey : List TripTime → PlaceKey → Type 0
IsKey times key = (key ≡ key_of times key.row) × (key.row < length times)

module _ (times : List TripTime) (keys : List PlaceKey) (moved : IsPermutation (list_below (length times) (key_of times)) keys) (sorted : IsSorted key_cmp keys) where
  abbrev all : List PlaceKey
  all = list_below (length times) (key_of times)

  abbrev row : ℕ → ℕ
  row = row_at keys

  -- the key at a place
  abbrev in_file : ℕ → PlaceKey
  in_file place = record { trip = None; sequence = 0; row = place }

  abbrev key_at : ℕ → PlaceKey
  key_at place = get_or keys place (in_file place)

  -- there are as many places as rows
  many : length keys ≡ length times
  many = length_permutation all keys moved ∙ length-list_below (length times) (key_of times)

  next : (k : ℕ) → k + 1 < length keys → Follows (key_at k) (key_at (k + 1))
  next k lt =
      follows (key_at k) (key_at (k + 1))
      (rw (get_or_default keys (k + 1) (in_file k) (in_file (k + 1)) lt) at (sorted k (in_file k) (omega arith) lt))

  far : (i j : ℕ) → i < j → j < length keys → Follows (key_at i) (key_at j)
  far i zero lt below = absurd (omega arith)
  far i (suc j) lt below =
      let e : j + 1 ≡ suc j = omega arith in
      let last : Follows (key_at j) (key_at (suc j)) = rw e at (next j (omega arith)) in
      ⊎_elim (λ (same : i ≡ j). rw same last)
      (λ (other : i ≡ j → ⊥). follows_on (key_at i) (key_at j) (key_at (suc j)) (far i j (omega arith) (omega arith)) last)
      (cases_eq i j)

  -- no two keys of the rows are of one row
  distinct : IsDistinct same_row all
  distinct = IsDistinct-from_apart same_row all (λ i j d lt below.
      let small : j < length times = rw (length-list_below (length times) (key_of times)) at below in
      rw (get_or-list_below (length times) (key_of times) i d (omega arith), get_or-list_below (length times) (key_of times) j d small) (differ i j lt))

  all_keys : All (IsKey times) all
  all_keys k d lt =
      let small : k < length times = rw (length-list_below (length times) (key_of times)) at lt in
      rw (get_or-list_below (length times) (key_of times) k d small) (refl, small)

  -- each place has the key of its row
  key_is : (place : ℕ) → place < length times → IsKey times (key_at place)
  key_is place lt = All-permutation (IsKey times) all keys moved all_keys place (in_file place) (rw many lt)

  -- each row has a place
  place_of : (r : ℕ) → r < length times → (place : ℕ) × (place < length times) × (row place ≡ r)
  place_of r lt =
      let there : Contains all (key_of times r) = (r, rw (length-list_below (length times) (key_of times)) lt, get_or-list_below (length times) (key_of times) r (key_of times r) lt) in
      let at = Contains-permutation all keys (key_of times r) moved there in
      let inside = at.1 in
      (at.0, omega (arith, inside, many), ap (λ (key : PlaceKey). key.row) (get_or_default keys at.0 (in_file at.0) (key_of times r) at.1 ∙ at.2))

  -- places ascend strictly
  precedes : (i j : ℕ) → i < j → j < length times → Precedes (key_of times (row i)) (key_of times (row j))
  precedes i j lt below =
      let inside : j < length keys = rw many below in
      let apart = IsDistinct-IsPermutation same_row (λ x y. eqb_turn x.row y.row) all keys moved distinct in
      let ne = apart_from_distinct same_row keys i j (in_file i) apart lt inside in
      let ne' : same_row (key_at i) (key_at j) ≡ false = rw (get_or_default keys j (in_file i) (in_file j) inside) at ne in
      subst (λ (a : PlaceKey). Precedes a (key_of times (row j))) (key_is i (omega arith)).0
      (subst (λ (b : PlaceKey). Precedes (key_at i) b) (key_is j below).0 (strictly (key_at i) (key_at j) (far i j lt inside) ne'))

  abbrev trip_rank : ℕ → ℕ
  trip_rank place = rank (option_map (λ t. t.0) (trip_at times (row place)))

  not_after : (i j : ℕ) → i ≤ j → j < length times → trip_rank i ≤ trip_rank j
  not_after i j le lj = ⊎_elim
      (λ (same : i ≡ j). rw same (omega arith))
      (λ (other : i ≡ j → ⊥). rises (key_of times (row i)) (key_of times (row j)) (precedes i j (omega arith) lj))
      (cases_eq i j)

  pub sorted_order : AreOrdered times row
  sorted_order =
      record {
        own = λ place lt. (key_is place lt).1;
        placed = place_of;
        together = λ i k j low high lt same.
            let low' = not_after i k low (omega arith) in
            let high' = not_after k j high lt in
            let same' = ap (λ (trip : Option TripId). rank (option_map (λ t. t.0) trip)) same in
            rank_apart (trip_at times (row k)) (trip_at times (row j)) (omega (arith, low', high', same'));
        in_order = λ i j less lt same.
            before_from (key_of times (row i)) (key_of times (row j)) (precedes i j less lt)
            (ap (λ (trip : Option TripId). rank (option_map (λ t. t.0) trip)) same);
      }

-- no two places of an order have one row
pub placed_by : (times : List TripTime) (row : ℕ → ℕ) → AreOrdered times row → ArePlaced (length times) row
placed_by times row are =
    record {
      own = are.own;
      apart = λ i j less lt same.
          not_itself _ (row j) (rw same at (are.in_order i j less lt (ap (trip_at times) same)));
    }

-- What a sort of the keys of all rows gives: each row has one place, and places ascend strictly.
use Rattle.std.proofs.Common.{◌≡◌, refl, sym, ◌∙◌, ap, ℕ, zero, suc, ◌+◌, ◌<◌, ◌⊎◌, ⊎_elim, Bool, false, List, length, All, Contains, arith}
use Rattle.std.specs.Prelude.{◌==◌}
use Rattle.std.specs.List.{IsDistinct}
use Rattle.std.specs.List.Sorted.{IsPermutation}
use Rattle.std.proofs.lemmas.Bool.{cases_eq}
use Rattle.std.proofs.lemmas.Bool.Decides.{nat_tests}
use Rattle.std.proofs.lemmas.List.{get_or_default}
use Rattle.std.proofs.lemmas.List.Sorted.{length_permutation, All-permutation, Contains-permutation}
use Rattle.std.proofs.lemmas.Map.Keys.{IsDistinct-from_apart, IsDistinct-IsPermutation, apart_from_distinct}
use Rattle.plain_laws.specs.Plain.{list_below}
use Rattle.plain_laws.proofs.Laws.{length-list_below, get_or-list_below, eqb_turn}
use Rattle.feed_rows.specs.declared.rows.StopTimeRow.{StopTimeRow}
use Rattle.trip_order.specs.declared.keys.PlaceKey.{PlaceKey}
use Rattle.trip_order.specs.Order.{key_of, no_key, key_at, Follows, Precedes, IsKey, DoAscend, AreSorted}

-- to follow goes on
follows_on : (a b c : PlaceKey) → Follows a b → Follows b c → Follows a c
follows_on a b c x y = grind (arith, x, y)

far : (keys : List PlaceKey) → ((k : ℕ) → k + 1 < length keys → Follows (key_at keys k) (key_at keys (k + 1))) → (i j : ℕ) → i < j → j < length keys → Follows (key_at keys i) (key_at keys j)
far keys next i zero lt below = absurd (omega arith)
far keys next i (suc j) lt below =
    let e : j + 1 ≡ suc j = omega arith in
    let last : Follows (key_at keys j) (key_at keys (suc j)) = rw e at (next j (omega arith)) in
    ⊎_elim (λ (same : i ≡ j). rw same last)
    (λ (other : i ≡ j → ⊥). follows_on (key_at keys i) (key_at keys j) (key_at keys (suc j)) (far keys next i j (omega arith) (omega arith)) last)
    (cases_eq i j)

abbrev same_row : PlaceKey → PlaceKey → Bool
same_row a b = a.row == b.row

differ : (a b : ℕ) → a < b → (a == b) ≡ false
differ a b lt = grind (arith, nat_tests)

-- no two keys of the rows are of one row
distinct : (times : List StopTimeRow) (n : ℕ) → IsDistinct same_row (list_below n (key_of times))
distinct times n = IsDistinct-from_apart same_row (list_below n (key_of times)) (λ i j d lt below.
    let small : j < n = rw (length-list_below n (key_of times)) at below in
    rw (get_or-list_below n (key_of times) i d (omega arith), get_or-list_below n (key_of times) j d small) (differ i j lt))

flips : (x y : PlaceKey) → same_row x y ≡ same_row y x
flips x y = eqb_turn x.row y.row

all_keys : (times : List StopTimeRow) → All (IsKey times) (list_below (length times) (key_of times))
all_keys times k d lt =
    let small : k < length times = rw (length-list_below (length times) (key_of times)) at lt in
    rw (get_or-list_below (length times) (key_of times) k d small) (refl, small)

strictly : (a b : PlaceKey) → Follows a b → (a.row == b.row) ≡ false → Precedes a b
strictly a b h ne = grind (arith, nat_tests, h, ne)

module _ (times : List StopTimeRow) (keys : List PlaceKey) (moved : IsPermutation (list_below (length times) (key_of times)) keys) (ascends : DoAscend keys) where
  -- there are as many places as rows
  length_sorted : length keys ≡ length times
  length_sorted = length_permutation (list_below (length times) (key_of times)) keys moved ∙ length-list_below (length times) (key_of times)

  -- each place has the key of its row
  key_is : (place : ℕ) → place < length keys → IsKey times (key_at keys place)
  key_is place lt = All-permutation (IsKey times) (list_below (length times) (key_of times)) keys moved (all_keys times) place no_key lt

  -- each row has a place
  place_of : (row : ℕ) → row < length times → (place : ℕ) × (place < length keys) × ((key_at keys place).row ≡ row)
  place_of row lt =
      let there : Contains (list_below (length times) (key_of times)) (key_of times row) = (row, rw (length-list_below (length times) (key_of times)) lt, get_or-list_below (length times) (key_of times) row (key_of times row) lt) in
      let at = Contains-permutation (list_below (length times) (key_of times)) keys (key_of times row) moved there in
      (at.0, at.1, ap (λ (key : PlaceKey). key.row) (get_or_default keys at.0 no_key (key_of times row) at.1 ∙ at.2))

  -- places ascend strictly
  in_order : (i j : ℕ) → i < j → j < length keys → Precedes (key_at keys i) (key_at keys j)
  in_order i j lt below =
      let apart = IsDistinct-IsPermutation same_row flips (list_below (length times) (key_of times)) keys moved (distinct times (length times)) in
      strictly (key_at keys i) (key_at keys j) (far keys ascends i j lt below) (apart_from_distinct same_row keys i j no_key apart lt below)

  -- places apart have rows apart
  rows_apart : (i j : ℕ) → i < j → j < length keys → (key_at keys i).row ≡ (key_at keys j).row → ⊥
  rows_apart i j lt below same = sorted_apart (key_at keys i) (key_at keys j) (in_order i j lt below) (key_is i (omega arith)).0 (key_is j below).0 same
    where
      sorted_apart : (a b : PlaceKey) → Precedes a b → a ≡ key_of times a.row → b ≡ key_of times b.row → a.row ≡ b.row → ⊥
      sorted_apart a b is ea eb same =
          let e : a ≡ b = ea ∙ ap (key_of times) same ∙ sym eb in
          let trips = ap (λ (k : PlaceKey). k.trip) e in
          let sequences = ap (λ (k : PlaceKey). k.sequence) e in
          grind (arith, is, trips, sequences, same)

  -- the keys of all rows that don't fall are sorted
  pub are_sorted : AreSorted times keys
  are_sorted = record { permuted = moved; many = length_sorted; own = key_is; placed = place_of; apart = rows_apart; in_order = in_order }

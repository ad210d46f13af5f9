-- Stretches of rows of one trip: together they have all rows, in whatever order they stand.
use Rattle.std.proofs.Common.{◌≡◌, refl, sym, ◌∙◌, ap, subst, ℕ, zero, suc, ◌+◌, ◌-◌, ◌<◌, ◌≤◌, ◌++◌, List, [], ◌∷◌, length, get_or, take, All, true, false, append_assoc, arith}
use Rattle.std.specs.List.{flat_map}
use Rattle.std.specs.List.Sorted.{IsPermutation}
use Rattle.std.proofs.lemmas.List.{append-nil, take_more}
use Rattle.std.proofs.lemmas.List.Sorted.{IsPermutation-trans, IsPermutation-append_left, IsPermutation-append_right}
use Rattle.std.proofs.lemmas.List.Concat.{flat_map-append}
use Rattle.std.proofs.lemmas.List.Elements.{All-push}
use Rattle.plain_laws.specs.Plain.{list_below}
use Rattle.trip_order.proofs.JoinLaws.{joined_IsPermutation}
use Rattle.stop_order.specs.declared.keys.PlaceKey.{PlaceKey}
use Rattle.stop_order.specs.declared.times.TripTime.{TripTime}
use Rattle.stop_order.specs.Order.{key_of, row_at, continues_trip, keys_on, stretch_from, AreFirst}

module _ (times : List TripTime) where
  -- the keys of a stretch from a row on
  abbrev pub rest : ℕ → List PlaceKey
  rest row = keys_on times (length times - row) row

  abbrev pub stretch : PlaceKey → List PlaceKey
  stretch key = stretch_from times key.row

  -- none where another begins
  pub rest_none : (row : ℕ) → continues_trip times (row_at []) row ≡ false → rest row ≡ []
  unfolding keys_on
  rest_none row off = step (length times - row)
    where
      step : (more : ℕ) → keys_on times more row ≡ []
      step zero = refl
      step (suc more) = rw off refl

  -- past the last row
  pub rest_end : (row : ℕ) → length times ≤ row → rest row ≡ []
  unfolding keys_on
  rest_end row past = let none : length times - row ≡ 0 = omega arith in rw none refl

  -- one row and the others
  pub rest_next : (row : ℕ) → row < length times → continues_trip times (row_at []) row ≡ true → rest row ≡ key_of times row ∷ rest (row + 1)
  unfolding keys_on
  rest_next row lt on = let some : length times - row ≡ suc (length times - (row + 1)) = omega arith in rw (some, on) refl

  abbrev pub AreFirstTo : ℕ → List PlaceKey → Type 0
  AreFirstTo row firsts = All (λ key. key.row < length times) firsts × (flat_map stretch firsts ≡ list_below row (key_of times) ++ rest row)

  one_more : (row : ℕ) → list_below row (key_of times) ++ key_of times row ∷ rest (row + 1) ≡ list_below (row + 1) (key_of times) ++ rest (row + 1)
  one_more row =
      let next : row + 1 ≡ suc row = omega arith in
      sym (append_assoc (list_below row (key_of times)) (key_of times row ∷ []) (rest (row + 1)))
      ∙ ap (λ n. list_below n (key_of times) ++ rest (row + 1)) (sym next)

  -- before the first row
  pub first_none : (firsts : List PlaceKey) → firsts ≡ [] → AreFirstTo 0 firsts
  unfolding continues_trip
  first_none firsts none =
      (λ k key lt. let size = ap length none in absurd (omega (arith, size, lt)), ap (flat_map stretch) none ∙ sym (rest_none 0 refl))

  -- a row that goes on, and one that begins a stretch
  pub first_on : (row : ℕ) (firsts : List PlaceKey) → row < length times → continues_trip times (row_at []) row ≡ true → AreFirstTo row firsts → AreFirstTo (row + 1) firsts
  first_on row firsts lt on are = (are.0, are.1 ∙ ap (λ xs. list_below row (key_of times) ++ xs) (rest_next row lt on) ∙ one_more row)

  pub first_more : (row : ℕ) (firsts : List PlaceKey) → row < length times → continues_trip times (row_at []) row ≡ false → AreFirstTo row firsts → AreFirstTo (row + 1) (firsts ++ key_of times row ∷ [])
  first_more row firsts lt off are = (
    All-push (λ key. key.row < length times) firsts (key_of times row) are.0 lt,
    flat_map-append stretch firsts (key_of times row ∷ [])
        ∙ ap (λ xs. xs ++ (stretch (key_of times row) ++ [])) (are.1 ∙ ap (λ xs. list_below row (key_of times) ++ xs) (rest_none row off) ∙ append-nil (list_below row (key_of times)))
        ∙ ap (λ xs. list_below row (key_of times) ++ xs) (append-nil (stretch (key_of times row)))
        ∙ one_more row,
  )

  -- behind the last
  pub first_all : (row : ℕ) (firsts : List PlaceKey) → row ≡ length times → AreFirstTo row firsts → AreFirst times firsts
  first_all row firsts end are =
      record {
        within = are.0;
        joined = are.1
            ∙ ap (λ xs. list_below row (key_of times) ++ xs) (rest_end row (omega arith))
            ∙ append-nil (list_below row (key_of times))
            ∙ ap (λ n. list_below n (key_of times)) end;
      }

  -- a key more of a stretch, and all of them
  pub stretch_more : (row : ℕ) (keys new whole : List PlaceKey) → row < length times → continues_trip times (row_at []) row ≡ true → new ≡ keys ++ key_of times row ∷ [] → keys ++ rest row ≡ whole → new ++ rest (row + 1) ≡ whole
  stretch_more row keys new whole lt on pushed before =
      ap (λ xs. xs ++ rest (row + 1)) pushed
      ∙ append_assoc keys (key_of times row ∷ []) (rest (row + 1))
      ∙ ap (λ xs. keys ++ xs) (sym (rest_next row lt on))
      ∙ before

  pub stretch_all : (row : ℕ) (keys whole : List PlaceKey) → rest row ≡ [] → keys ++ rest row ≡ whole → keys ≡ whole
  stretch_all row keys whole none before = sym (append-nil keys) ∙ ap (λ xs. keys ++ xs) (sym none) ∙ before

  -- the keys of a stretch more, in whatever order
  pub joined_more : (firsts : List PlaceKey) (i : ℕ) (d : PlaceKey) (keys pushed sorted new : List PlaceKey) → i < length firsts
      → IsPermutation (flat_map stretch (take i firsts)) keys → pushed ≡ stretch (get_or firsts i d) → IsPermutation pushed sorted → new ≡ keys ++ sorted
      → IsPermutation (flat_map stretch (take (i + 1) firsts)) new
  joined_more firsts i d keys pushed sorted new lt old is moved made =
      let one = stretch (get_or firsts i d) in
      let before = flat_map stretch (take i firsts) in
      let whole : flat_map stretch (take (i + 1) firsts) ≡ before ++ one =
      ap (flat_map stretch) (take_more firsts i d lt)
      ∙ flat_map-append stretch (take i firsts) (get_or firsts i d ∷ [])
      ∙ ap (λ xs. before ++ xs) (append-nil one) in
      rw (whole, made) (IsPermutation-trans (before ++ one) (keys ++ one) (keys ++ sorted)
      (IsPermutation-append_left one before keys old)
      (IsPermutation-append_right keys one sorted (rw is at moved)))

  -- in any order they have the same keys
  pub joined_permutation : (old new : List PlaceKey) → AreFirst times old → IsPermutation old new → IsPermutation (list_below (length times) (key_of times)) (flat_map stretch new)
  joined_permutation old new are moved =
      subst (λ xs. IsPermutation xs (flat_map stretch new)) are.joined (joined_IsPermutation stretch old new moved)

-- Rows in order, as sorts leave them.
use Rattle.std.proofs.Common.{◌≡◌, refl, sym, ◌∙◌, ap, subst, ℕ, zero, suc, ◌+◌, ◌<◌, ◌≤◌, ◌*◌, ◌^◌, List, [], ◌∷◌, ◌++◌, length, take, map, AllPairs, IsPermutation, arith}
use Rattle.std.proofs.lemmas.List.{length-map, get_or-map, map-append, take_more}
use Rattle.std.proofs.lemmas.List.Sorted.{IsPermutation-map}
use Rattle.std.proofs.Math.Seq.{take-length}
use mir.Syntax.{w64}
use mir.Val.{Fits}
use Rattle.plain_laws.specs.Plain.{list_below}
use Rattle.feed_rows.specs.declared.rows.StopTimeRow.{StopTimeRow}
use Rattle.feed_trips.specs.Tables.{IsInOrder}
use Rattle.trip_order.specs.declared.keys.PlaceKey.{PlaceKey}
use Rattle.trip_order.specs.Order.{no_time, numbered_at, key_of, no_key, key_at, AreSorted, Precedes}

-- the row of a key
abbrev pub row_of : List StopTimeRow → PlaceKey → StopTimeRow
row_of rows key = numbered_at rows key.row

-- the rows of the keys of the first n rows
rows_of_keys : (rows : List StopTimeRow) (n : ℕ) → n ≤ length rows → map (row_of rows) (list_below n (key_of rows)) ≡ take n rows
rows_of_keys rows zero le = refl
rows_of_keys rows (suc n) le =
    let e : n + 1 ≡ suc n = omega arith in
    let more : take (suc n) rows ≡ take n rows ++ numbered_at rows n ∷ [] = rw e at (take_more rows n no_time (omega arith)) in
    map-append (row_of rows) (list_below n (key_of rows)) (key_of rows n ∷ []) ∙ ap (λ xs. xs ++ numbered_at rows n ∷ []) (rows_of_keys rows n (omega arith)) ∙ sym more

-- a row of so few is at a place that fits
pub row_fits : {n : ℕ} (row : ℕ) → row < n → n < 2 ^ 32 → Fits w64 (row * 24)
row_fits row lt few = omega arith

-- the rows of the first keys with one more
pub rows_more : (rows : List StopTimeRow) (keys : List PlaceKey) (i : ℕ) → i < length keys → map (row_of rows) (take i keys) ++ row_of rows (key_at keys i) ∷ [] ≡ map (row_of rows) (take (i + 1) keys)
rows_more rows keys i lt = sym (ap (map (row_of rows)) (take_more keys i no_key lt) ∙ map-append (row_of rows) (take i keys) (key_at keys i ∷ []))

-- the rows of sorted keys are all rows
pub moved_by_keys : (rows : List StopTimeRow) (keys : List PlaceKey) → AreSorted rows keys → IsPermutation rows (map (row_of rows) keys)
moved_by_keys rows keys are =
    let all = rows_of_keys rows (length rows) (omega arith) ∙ take-length rows in
    subst (λ xs. IsPermutation xs (map (row_of rows) keys)) all (IsPermutation-map (row_of rows) (list_below (length rows) (key_of rows)) keys are.permuted)

-- and they are in order
pub in_order_by_keys : (rows : List StopTimeRow) (keys : List PlaceKey) → AreSorted rows keys → AllPairs IsInOrder (map (row_of rows) keys)
in_order_by_keys rows keys are i j d lt within =
    let below : j < length keys = rw length-map at within in
    let first = (are.own i (omega arith)).0 in
    let second = (are.own j below).0 in
    rw (get_or-map (row_of rows) keys i no_key d (omega arith), get_or-map (row_of rows) keys j no_key d below) (told (key_at keys i) (key_at keys j) first second (are.in_order i j lt below))
  where
    rise : (a b : PlaceKey) (x y : StopTimeRow) → a.trip ≡ x.trip.0 → a.sequence ≡ x.sequence → b.trip ≡ y.trip.0 → b.sequence ≡ y.sequence → Precedes a b → IsInOrder x y
    rise a b x y at aq bt bq is = grind (arith, is, at, aq, bt, bq)

    told : (a b : PlaceKey) → a ≡ key_of rows a.row → b ≡ key_of rows b.row → Precedes a b → IsInOrder (row_of rows a) (row_of rows b)
    told a b ea eb is = rise a b (row_of rows a) (row_of rows b) (ap (λ (k : PlaceKey). k.trip) ea) (ap (λ (k : PlaceKey). k.sequence) ea) (ap (λ (k : PlaceKey). k.trip) eb) (ap (λ (k : PlaceKey). k.sequence) eb) is

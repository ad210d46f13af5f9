-- The rows of a feed in order of trip and sequence, and the rows of one trip among them.
use Rattle.std.proofs.Common.{◌≡◌, refl, sym, ◌∙◌, ℕ, ◌<◌, ◌⊎◌, inl, inr, Bool, true, false, ◌==◌, List, length, get_or, filter, All, AllPairs, Contains, ◌&&◌, IsPermutation, arith}
use Rattle.std.proofs.lemmas.Bool.Decides.{nat_tests}
use Rattle.std.proofs.lemmas.Bool.{cases_Bool, and_parts, and_from, eqb-true, eq-eqb}
use Rattle.std.proofs.lemmas.Map.Keys.{IsDistinct-IsPermutation, apart_from_distinct, IsDistinct-from_apart}
use Rattle.std.proofs.lemmas.List.Elements.{All-contains_itself, All-filter, All-contains, All-weaker, filter_passes}
use Rattle.std.proofs.lemmas.List.Kept.{AllPairs-filter}
use Rattle.std.proofs.lemmas.List.Sorted.{IsPermutation-sym, Contains-permutation}
use Rattle.transit_base.specs.declared.numbers.TripId.{TripId}
use Rattle.feed_rows.specs.declared.rows.StopTimeRow.{StopTimeRow}
use Rattle.feed_rows.specs.FeedRows.{FeedRows}
use Rattle.feed_rows.specs.Calls.{trip_stop_times}
use Rattle.feed_trips.specs.Tables.{IsInOrder}
use Rattle.plain_laws.proofs.Laws.{HaveSameMembers, Contains-filter, Contains-filter_passes}
use Rattle.feed_laws.proofs.SequenceLaws.{IsBefore, IsApart, AreCallsApart, in_sequence_only, trip_rows_apart}

-- rows that are those of a list and pass a test are those of the list that do
filter_there : (p : StopTimeRow → Bool) (rows others : List StopTimeRow) → IsPermutation rows others → (x : StopTimeRow) → Contains (filter p rows) x → Contains (filter p others) x
filter_there p rows others moved x at =
    let here = All-contains (Contains rows) (filter p rows) x (All-filter p (Contains rows) rows (All-contains_itself rows)) at in
    Contains-filter p others x (Contains-permutation rows others x moved here) (Contains-filter_passes p rows x at)

-- no two rows of a list have one trip and one sequence, in any order of it
apart_in_any_order : (rows others : List StopTimeRow) → IsPermutation rows others → AllPairs (λ (a : StopTimeRow) (b : StopTimeRow). a.trip.0 ≡ b.trip.0 → IsApart a b) rows → AllPairs (λ (a : StopTimeRow) (b : StopTimeRow). a.trip.0 ≡ b.trip.0 → IsApart a b) others
apart_in_any_order rows others moved apart =
    let flips : (a b : StopTimeRow) → is_same a b ≡ is_same b a = λ a b. turn a b in
    let unequal : (i j : ℕ) (d : StopTimeRow) → i < j → j < length rows → is_same (get_or rows i d) (get_or rows j d) ≡ false = λ i j d lt within. tell (get_or rows i d) (get_or rows j d) (apart i j d lt within) in
    let distinct = IsDistinct-IsPermutation is_same flips rows others moved (IsDistinct-from_apart is_same rows unequal) in
    λ i j d lt within. told (get_or others i d) (get_or others j d) (apart_from_distinct is_same others i j d distinct lt within)
  where
    is_same : StopTimeRow → StopTimeRow → Bool
    is_same a b = (a.trip.0 == b.trip.0) && (a.sequence == b.sequence)

    turn : (a b : StopTimeRow) → is_same a b ≡ is_same b a
    turn a b = step a.trip.0 b.trip.0 a.sequence b.sequence
      where
        swap : (m n : ℕ) → (m == n) ≡ (n == m)
        swap m n = grind (arith, nat_tests)

        step : (m n p q : ℕ) → ((m == n) && (p == q)) ≡ ((n == m) && (q == p))
        step m n p q = rw (swap m n, swap p q) refl

    tell : (a b : StopTimeRow) → (a.trip.0 ≡ b.trip.0 → IsApart a b) → is_same a b ≡ false
    tell a b apart = step (cases_Bool (is_same a b))
      where
        step : (is_same a b ≡ true) ⊎ (is_same a b ≡ false) → is_same a b ≡ false
        step (inr apart) = apart
        step (inl is) =
            let both = and_parts (a.trip.0 == b.trip.0) (a.sequence == b.sequence) is in
            absurd (apart (eqb-true a.trip.0 b.trip.0 both.0) (eqb-true a.sequence b.sequence both.1))

    told : (a b : StopTimeRow) → is_same a b ≡ false → a.trip.0 ≡ b.trip.0 → IsApart a b
    told a b e trip same = let is = and_from (a.trip.0 == b.trip.0) (a.sequence == b.sequence) (eq-eqb a.trip.0 b.trip.0 trip) (eq-eqb a.sequence b.sequence same) in let wrong : false ≡ true = sym e ∙ is in cc

-- among all rows of a feed in order, those of a trip are its stop times in order
pub trip_stop_times_of_sorted : (feed : FeedRows) (rows : List StopTimeRow) (trip : TripId) → AreCallsApart feed → IsPermutation feed.stop_times rows → AllPairs IsInOrder rows → filter (λ r. r.trip.0 == trip.0) rows ≡ trip_stop_times feed trip
trip_stop_times_of_sorted feed rows trip apart moved ups =
    let test = λ (r : StopTimeRow). r.trip.0 == trip.0 in
    let same : HaveSameMembers (filter test feed.stop_times) (filter test rows) = record { there = filter_there test feed.stop_times rows moved; back = filter_there test rows feed.stop_times (IsPermutation-sym feed.stop_times rows moved) } in
    let own : All (λ (r : StopTimeRow). r.trip.0 ≡ trip.0) (filter test rows) = All-weaker (λ (r : StopTimeRow). test r ≡ true) (λ (r : StopTimeRow). r.trip.0 ≡ trip.0) (λ r e. eqb-true r.trip.0 trip.0 e) (filter test rows) (filter_passes test rows) in
    let pairs = AllPairs-filter (λ (a : StopTimeRow) (b : StopTimeRow). a.trip.0 ≡ b.trip.0 → IsBefore a b) test rows before in
    in_sequence_only (filter test feed.stop_times) (filter test rows) (trip_rows_apart feed trip apart) (λ i j d lt within. pairs i j d lt within (own i d (omega arith) ∙ sym (own j d within))) same
  where
    less : (a b : StopTimeRow) → IsInOrder a b → (a.trip.0 ≡ b.trip.0 → IsApart a b) → a.trip.0 ≡ b.trip.0 → IsBefore a b
    less a b (inl lt) apart same = absurd (omega arith)
    less a b (inr le) apart same = let other = apart same in let ge = le.1 in omega arith

    before : AllPairs (λ (a : StopTimeRow) (b : StopTimeRow). a.trip.0 ≡ b.trip.0 → IsBefore a b) rows
    before i j d lt within = less (get_or rows i d) (get_or rows j d) (ups i j d lt within) (apart_in_any_order feed.stop_times rows moved apart i j d lt within)

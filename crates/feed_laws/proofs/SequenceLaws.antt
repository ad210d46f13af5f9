-- The rows of a trip in order of stop_sequence: they are the same rows, they ascend, and no other order of them does.
use Rattle.std.proofs.Common.{◌≡◌, refl, sym, ◌∙◌, ℕ, ◌<◌, ◌≤◌, Bool, true, false, List, [], ◌∷◌, length, get_or, All, AllPairs, nat_le, ◌==◌, filter, IsPermutation, arith}
use Rattle.std.proofs.lemmas.Bool.Decides.{nat_tests}
use Rattle.std.proofs.lemmas.List.Elements.{All-cons, All-weaker, All-nil, All-filter}
use Rattle.std.proofs.lemmas.List.Sorted.{IsPermutation-refl, IsPermutation-trans, IsPermutation-cons, IsPermutation-middle, IsPermutation-sym, All-permutation, Contains-permutation, length_permutation}
use Rattle.std.proofs.lemmas.Map.Keys.{IsDistinct-IsPermutation, apart_from_distinct, IsDistinct-from_apart}
use Rattle.feed_rows.specs.declared.rows.StopTimeRow.{StopTimeRow}
use Rattle.transit_base.specs.declared.numbers.TripId.{TripId}
use Rattle.feed_rows.specs.FeedRows.{FeedRows}
use Rattle.feed_rows.specs.Calls.{in_its_place, in_sequence, trip_stop_times}
use Rattle.plain_laws.proofs.Laws.{IsStrictOrder, HaveSameMembers, AllPairs-cons, AllPairs-tail, AllPairs-head, same_from_members}

-- a row's sequence is at most another's, less than it, and not equal to it
abbrev pub IsNotAfter : StopTimeRow → StopTimeRow → Type 0
IsNotAfter a b = a.sequence ≤ b.sequence

abbrev pub IsBefore : StopTimeRow → StopTimeRow → Type 0
IsBefore a b = a.sequence < b.sequence

abbrev pub IsApart : StopTimeRow → StopTimeRow → Type 0
IsApart a b = a.sequence ≡ b.sequence → ⊥

-- a row put in its place is one row more
pub IsPermutation-in_its_place : (row : StopTimeRow) (rows : List StopTimeRow) → IsPermutation (row ∷ rows) (in_its_place row rows)
IsPermutation-in_its_place row [] = IsPermutation-refl (row ∷ [])
IsPermutation-in_its_place row (r ∷ rs) = step (nat_le row.sequence r.sequence) refl (IsPermutation-in_its_place row rs)
  where
    step : (b : Bool) → nat_le row.sequence r.sequence ≡ b → IsPermutation (row ∷ rs) (in_its_place row rs) → IsPermutation (row ∷ r ∷ rs) (in_its_place row (r ∷ rs))
    step true e rest = rw e (IsPermutation-refl (row ∷ r ∷ rs))
    step false e rest = rw e (IsPermutation-trans _ _ _ (IsPermutation-middle (row ∷ []) r rs) (IsPermutation-cons r _ _ rest))

-- the rows in order are the rows
pub IsPermutation-in_sequence : (rows : List StopTimeRow) → IsPermutation rows (in_sequence rows)
IsPermutation-in_sequence [] = IsPermutation-refl []
IsPermutation-in_sequence (r ∷ rs) = IsPermutation-trans _ _ _ (IsPermutation-cons r _ _ (IsPermutation-in_sequence rs)) (IsPermutation-in_its_place r (in_sequence rs))

-- they are as many
pub length-in_sequence : (rows : List StopTimeRow) → length (in_sequence rows) ≡ length rows
length-in_sequence rows = length_permutation rows (in_sequence rows) (IsPermutation-in_sequence rows)

-- they have the same members
pub in_sequence_members : (rows : List StopTimeRow) → HaveSameMembers rows (in_sequence rows)
in_sequence_members rows =
    record {
      there = λ x at. Contains-permutation rows (in_sequence rows) x (IsPermutation-in_sequence rows) at;
      back = λ x at. Contains-permutation (in_sequence rows) rows x (IsPermutation-sym _ _ (IsPermutation-in_sequence rows)) at;
    }

-- a row put in its place among rows that don't fall
in_its_place_sorted : (row : StopTimeRow) (rows : List StopTimeRow) → AllPairs IsNotAfter rows → AllPairs IsNotAfter (in_its_place row rows)
in_its_place_sorted row [] sorted = λ i j d lt within. absurd (omega arith)
in_its_place_sorted row (r ∷ rs) sorted = step (nat_le row.sequence r.sequence) refl (in_its_place_sorted row rs (AllPairs-tail IsNotAfter r rs sorted))
  where
    step : (b : Bool) → nat_le row.sequence r.sequence ≡ b → AllPairs IsNotAfter (in_its_place row rs) → AllPairs IsNotAfter (in_its_place row (r ∷ rs))
    step true e rest =
        let le : row.sequence ≤ r.sequence = grind (arith, nat_tests) in
        let later : All (IsNotAfter row) (r ∷ rs) = All-cons (IsNotAfter row) r rs le (All-weaker (IsNotAfter r) (IsNotAfter row) (λ x further. omega arith) rs (AllPairs-head IsNotAfter r rs sorted)) in
        rw e (AllPairs-cons IsNotAfter row (r ∷ rs) later sorted)
    step false e rest =
        let le : r.sequence ≤ row.sequence = grind (arith, nat_tests) in
        let later : All (IsNotAfter r) (row ∷ rs) = All-cons (IsNotAfter r) row rs le (AllPairs-head IsNotAfter r rs sorted) in
        rw e (AllPairs-cons IsNotAfter r (in_its_place row rs) (All-permutation (IsNotAfter r) (row ∷ rs) (in_its_place row rs) (IsPermutation-in_its_place row rs) later) rest)

-- the rows in order don't fall
pub in_sequence_sorted : (rows : List StopTimeRow) → AllPairs IsNotAfter (in_sequence rows)
in_sequence_sorted [] = λ i j d lt within. absurd (omega arith)
in_sequence_sorted (r ∷ rs) = in_its_place_sorted r (in_sequence rs) (in_sequence_sorted rs)

-- rows whose sequences are apart stay so in any order
pub apart_permutation : (rows others : List StopTimeRow) → IsPermutation rows others → AllPairs IsApart rows → AllPairs IsApart others
apart_permutation rows others same apart =
    let is_same = λ (a b : StopTimeRow). a.sequence == b.sequence in
    let flips : (a b : StopTimeRow) → is_same a b ≡ is_same b a = λ a b. grind (arith, nat_tests) in
    let unequal : (i j : ℕ) (d : StopTimeRow) → i < j → j < length rows → is_same (get_or rows i d) (get_or rows j d) ≡ false = λ i j d lt within. tell (get_or rows i d) (get_or rows j d) (apart i j d lt within) in
    let distinct = IsDistinct-IsPermutation is_same flips rows others same (IsDistinct-from_apart is_same rows unequal) in
    λ i j d lt within. told (get_or others i d) (get_or others j d) (apart_from_distinct is_same others i j d distinct lt within)
  where
    tell : (a b : StopTimeRow) → IsApart a b → (a.sequence == b.sequence) ≡ false
    tell a b apart = grind (arith, nat_tests)

    told : (a b : StopTimeRow) → (a.sequence == b.sequence) ≡ false → IsApart a b
    told a b e same = let no : ⊥ = grind (arith, nat_tests) in no

-- rows that don't fall and are apart ascend strictly
pub before_from_sorted : (rows : List StopTimeRow) → AllPairs IsNotAfter rows → AllPairs IsApart rows → AllPairs IsBefore rows
before_from_sorted rows sorted apart i j d lt within =
    less (get_or rows i d) (get_or rows j d) (sorted i j d lt within) (apart i j d lt within)
  where
    less : (a b : StopTimeRow) → IsNotAfter a b → IsApart a b → IsBefore a b
    less a b le apart = omega arith

-- the rows in order ascend strictly where their sequences are apart
pub in_sequence_strict : (rows : List StopTimeRow) → AllPairs IsApart rows → AllPairs IsBefore (in_sequence rows)
in_sequence_strict rows apart = before_from_sorted (in_sequence rows) (in_sequence_sorted rows) (apart_permutation rows (in_sequence rows) (IsPermutation-in_sequence rows) apart)

-- to come before is a strict order
pub IsBefore_order : IsStrictOrder IsBefore
IsBefore_order = record { irreflexive = λ x lt. omega arith; transitive = λ x y z a b. omega arith }

-- rows that ascend strictly and are those of a list whose sequences are apart are that list in order
pub in_sequence_only : (rows sorted : List StopTimeRow) → AllPairs IsApart rows → AllPairs IsBefore sorted → HaveSameMembers rows sorted → sorted ≡ in_sequence rows
in_sequence_only rows sorted apart ups same =
    same_from_members IsBefore IsBefore_order sorted (in_sequence rows) ups (in_sequence_strict rows apart) (record {
      there = λ x at. (in_sequence_members rows).there x (same.back x at);
      back = λ x at. same.there x ((in_sequence_members rows).back x at);
    })

-- what holds of all stop times of a feed holds of those of a trip
pub trip_stop_times_all : (P : StopTimeRow → Type 0) (feed : FeedRows) (trip : TripId) → All P feed.stop_times → All P (trip_stop_times feed trip)
trip_stop_times_all P feed trip all =
    let rows = filter (λ (r : StopTimeRow). r.trip.0 == trip.0) feed.stop_times in
    All-permutation P rows (in_sequence rows) (IsPermutation-in_sequence rows) (All-filter (λ r. r.trip.0 == trip.0) P feed.stop_times all)

-- the rows that pass a test, in pairs
AllPairs-filter : (R : StopTimeRow → StopTimeRow → Type 0) (p : StopTimeRow → Bool) (rows : List StopTimeRow) → AllPairs R rows → AllPairs R (filter p rows)
AllPairs-filter R p [] all = λ i j d lt within. absurd (omega arith)
AllPairs-filter R p (r ∷ rs) all = step (p r) refl (AllPairs-filter R p rs (AllPairs-tail R r rs all))
  where
    step : (b : Bool) → p r ≡ b → AllPairs R (filter p rs) → AllPairs R (filter p (r ∷ rs))
    step true e rest = rw e (AllPairs-cons R r (filter p rs) (All-filter p (R r) rs (AllPairs-head R r rs all)) rest)
    step false e rest = rw e rest

-- no two rows of a feed have one trip and one sequence
abbrev pub AreCallsApart : FeedRows → Type 0
AreCallsApart feed = AllPairs (λ (a : StopTimeRow) (b : StopTimeRow). a.trip.0 ≡ b.trip.0 → IsApart a b) feed.stop_times

-- then the rows of a trip have sequences that are apart
pub trip_rows_apart : (feed : FeedRows) (trip : TripId) → AreCallsApart feed → AllPairs IsApart (filter (λ r. r.trip.0 == trip.0) feed.stop_times)
trip_rows_apart feed trip apart =
    let test = λ (r : StopTimeRow). r.trip.0 == trip.0 in
    let rows = filter test feed.stop_times in
    let pairs = AllPairs-filter (λ (a : StopTimeRow) (b : StopTimeRow). a.trip.0 ≡ b.trip.0 → IsApart a b) test feed.stop_times apart in
    let all : All (λ (r : StopTimeRow). r.trip.0 ≡ trip.0) rows = of_trip feed.stop_times in
    λ i j d lt within. pairs i j d lt within (all i d (omega arith) ∙ sym (all j d within))
  where
    told : (a b : ℕ) → (a == b) ≡ true → a ≡ b
    told a b e = grind (arith, nat_tests)

    of_trip : (rows : List StopTimeRow) → All (λ (r : StopTimeRow). r.trip.0 ≡ trip.0) (filter (λ r. r.trip.0 == trip.0) rows)
    of_trip [] = All-nil (λ (r : StopTimeRow). r.trip.0 ≡ trip.0)
    of_trip (r ∷ rs) = step (r.trip.0 == trip.0) refl (of_trip rs)
      where
        step : (b : Bool) → (r.trip.0 == trip.0) ≡ b → All (λ (x : StopTimeRow). x.trip.0 ≡ trip.0) (filter (λ x. x.trip.0 == trip.0) rs) → All (λ (x : StopTimeRow). x.trip.0 ≡ trip.0) (filter (λ x. x.trip.0 == trip.0) (r ∷ rs))
        step true e rest = rw e (All-cons (λ (x : StopTimeRow). x.trip.0 ≡ trip.0) r (filter (λ x. x.trip.0 == trip.0) rs) (told r.trip.0 trip.0 e) rest)
        step false e rest = rw e rest

-- the stop times of a trip ascend strictly
pub trip_stop_times_strict : (feed : FeedRows) (trip : TripId) → AreCallsApart feed → AllPairs IsBefore (trip_stop_times feed trip)
trip_stop_times_strict feed trip apart = in_sequence_strict (filter (λ r. r.trip.0 == trip.0) feed.stop_times) (trip_rows_apart feed trip apart)

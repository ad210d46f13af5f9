-- Trips whose rows stand together in the file.
use Rattle.std.proofs.Common.{◌≡◌, ◌≢◌, refl, sym, ◌∙◌, ap, subst, ℕ, zero, suc, ◌+◌, ◌-◌, ◌<◌, ◌≤◌, ◌⊎◌, inl, inr, Bool, ◌==◌, List, [], ◌∷◌, ◌++◌, length, get_or, take, drop, filter, arith, slice_set, get_or-set_other, get_or-set_same, ⊎_elim, All, AllPairs, IsPermutation, true, ◌^◌}
use Rattle.std.specs.Prelude.{slice_range}
use Rattle.std.proofs.lemmas.Bool.{cases_eq, eq-eqb, ne_eqb, le-leb, cases_lt, eqb-true}
use Rattle.std.proofs.lemmas.List.{get_or-take, get_or-drop, length-take, length-drop, take_all, append-nil, get_or-replicate, length-replicate, get_or_default}
use Rattle.std.proofs.lemmas.List.Elements.{filter-append, filter_passes}
use Rattle.std.proofs.Math.Seq.{take-suc}
use Rattle.std.proofs.Math.ListN.{replicate, length-set}
use Rattle.feed_rows.specs.declared.rows.StopTimeRow.{StopTimeRow}
use Rattle.feed_rows.specs.FeedRows.{FeedRows}
use Rattle.feed_rows.specs.Calls.{in_its_place, in_sequence, trip_stop_times, calls_of}
use Rattle.feed_rows.specs.CallPass.{pass}
use Rattle.feed_rows.specs.SoundFeed.{IsSoundFeed}
use Rattle.plain_laws.proofs.Laws.{list_below-same}
use Rattle.feed_laws.proofs.CallLaws.{calls_of-pass}
use Rattle.feed_laws.proofs.SoundTrips.{sound_ends, calls_apart}
use Rattle.feed_trips.specs.declared.together.Stretch.{Stretch}
use Rattle.feed_trips.specs.Tables.{trip_calls}
use Rattle.feed_trips.specs.Stretches.{no_stretch, rows_of_stretch, rows_at, stretch_calls, IsStretch, AreStretches, GoesOn, IsAnew, IsApart, IsPiece, IsScattered}
use Rattle.std.proofs.lemmas.List.Sorted.{All-permutation, length_permutation}
use Rattle.feed_laws.proofs.TimedLaws.{next_timed_hit, next_timed_end, untimed_more, is_timed_at_row}
use Rattle.feed_trips.specs.Tables.{IsInOrder}
use Rattle.feed_trips.proofs.TripLaws.{trip_stop_times_of_sorted}
use Rattle.trip_order.specs.Order.{no_time}

-- no row stands anywhere at first
pub none_yet : (rows : List StopTimeRow) (trips : ℕ) → AreStretches rows 0 trips (replicate trips no_stretch)
none_yet rows trips = record {
  count = length-replicate trips no_stretch;
  each = λ t lt. subst (IsStretch rows 0 t) (sym (get_or-replicate trips t no_stretch no_stretch lt)) (record {
    forward = omega arith;
    ends = omega arith;
    are = refl;
    has = λ k d lt own. absurd (omega arith);
    rise = λ k d low lt. absurd (omega arith);
  });
}

-- the first rows of a trip with one more, and where that is of another
filter_here : (rows : List StopTimeRow) (n trip : ℕ) (d : StopTimeRow) → n < length rows → (get_or rows n d).trip.0 ≡ trip → filter (λ r. r.trip.0 == trip) (take (n + 1) rows) ≡ filter (λ r. r.trip.0 == trip) (take n rows) ++ get_or rows n d ∷ []
filter_here rows n trip d lt same =
    let test : StopTimeRow → Bool = λ (r : StopTimeRow). r.trip.0 == trip in
    let next : n + 1 ≡ suc n = omega arith in
    rw (next, take-suc rows n d lt, filter-append test (take n rows) (get_or rows n d ∷ []), eq-eqb (get_or rows n d).trip.0 trip same) refl

filter_other : (rows : List StopTimeRow) (n trip : ℕ) (d : StopTimeRow) → n < length rows → ((get_or rows n d).trip.0 ≡ trip → ⊥) → filter (λ r. r.trip.0 == trip) (take (n + 1) rows) ≡ filter (λ r. r.trip.0 == trip) (take n rows)
filter_other rows n trip d lt other =
    let test : StopTimeRow → Bool = λ (r : StopTimeRow). r.trip.0 == trip in
    let next : n + 1 ≡ suc n = omega arith in
    rw (next, take-suc rows n d lt, filter-append test (take n rows) (get_or rows n d ∷ []), ne_eqb (get_or rows n d).trip.0 trip other) (append-nil (filter test (take n rows)))

-- a stretch that is longer by a row
range_more : (rows : List StopTimeRow) (from to : ℕ) (d : StopTimeRow) → from ≤ to → to < length rows → slice_range rows from (to + 1) ≡ slice_range rows from to ++ get_or rows to d ∷ []
range_more rows from to d forward lt =
    let next : (to + 1) - from ≡ suc (to - from) = omega arith in
    let long = length-drop from rows in
    let at : from + (to - from) ≡ to = omega arith in
    rw (next, take-suc (drop from rows) (to - from) d (omega (arith, long)), get_or-drop from rows (to - from) d, at) refl

pub range_none : {X : Type 0} (rows : List X) (at : ℕ) → slice_range rows at at ≡ []
range_none rows at = let none : at - at ≡ 0 = omega arith in rw none refl

module _ (rows : List StopTimeRow) (n : ℕ) (d : StopTimeRow) (lt : n < length rows) where
  -- the rows of a trip stand in its stretch, with one row more
  has_more : (trip : ℕ) (s longer : Stretch)
      → ((k : ℕ) → (s.from ≤ k) × (k < s.to) → (longer.from ≤ k) × (k < longer.to))
      → ((get_or rows n d).trip.0 ≡ trip → (longer.from ≤ n) × (n < longer.to)) → IsStretch rows n trip s
      → (k : ℕ) (e : StopTimeRow) → k < n + 1 → (get_or rows k e).trip.0 ≡ trip
      → (longer.from ≤ k) × (k < longer.to)
  has_more trip s longer keeps here is k e below own = step (cases_eq k n)
    where
      step : (k ≡ n) ⊎ (k ≡ n → ⊥) → (longer.from ≤ k) × (k < longer.to)
      step (inl last) =
          let same = ap (λ (r : StopTimeRow). r.trip.0) (get_or_default rows n d e lt) in
          rw last (here (same ∙ rw last at own))
      step (inr earlier) = keeps k (is.has k e (omega arith) own)

  -- the stretch of another trip stays
  other_stays : (trip : ℕ) (s : Stretch) → ((get_or rows n d).trip.0 ≡ trip → ⊥) → IsStretch rows n trip s → IsStretch rows (n + 1) trip s
  other_stays trip s other is = record {
    forward = is.forward;
    ends = let le = is.ends in omega arith;
    are = is.are ∙ sym (filter_other rows n trip d lt other);
    has = has_more trip s s (λ k at. at) (λ own. absurd (other own)) is;
    rise = is.rise;
  }

  -- a stretch begins
  begins : (trip : ℕ) (s : Stretch) → (get_or rows n d).trip.0 ≡ trip → s.from ≡ s.to → IsStretch rows n trip s → IsStretch rows (n + 1) trip (record { from = n; to = n + 1 })
  begins trip s same empty is =
      let none : filter (λ r. r.trip.0 == trip) (take n rows) ≡ [] = sym is.are ∙ rw empty (range_none rows s.to) in
      let le : n ≤ n = omega arith in
      record {
        forward = omega arith;
        ends = omega arith;
        are = range_more rows n n d le lt ∙ rw (range_none rows n) (sym (filter_here rows n trip d lt same ∙ rw none refl));
        has = has_more trip s (record { from = n; to = n + 1 })
            (λ k at. let low = at.0 in let high = at.1 in absurd (omega (arith, low, high, empty)))
            (λ own. (omega arith, omega arith)) is;
        rise = λ k e low below. absurd (omega arith);
      }

  -- a stretch goes on
  goes_on : (trip : ℕ) (s : Stretch) → (get_or rows n d).trip.0 ≡ trip → s.to ≡ n → (get_or rows (n - 1) d).sequence ≤ (get_or rows n d).sequence → IsStretch rows n trip s → IsStretch rows (n + 1) trip (record { from = s.from; to = n + 1 })
  goes_on trip s same here up is =
      let forward : s.from ≤ n = let le = is.forward in omega arith in
      record {
        forward = omega arith;
        ends = omega arith;
        are = range_more rows s.from n d forward lt ∙ ap (λ xs. xs ++ get_or rows n d ∷ []) (ap (slice_range rows s.from) (sym here) ∙ is.are) ∙ sym (filter_here rows n trip d lt same);
        has = has_more trip s (record { from = s.from; to = n + 1 })
            (λ k at. let high = at.1 in (at.0, omega (arith, high, here))) (λ own. (forward, omega arith)) is;
        rise = λ k e low below. rises k e low (omega arith) (cases_eq (k + 1) n);
      }
    where
      rises : (k : ℕ) (e : StopTimeRow) → s.from ≤ k → k + 1 ≤ n → (k + 1 ≡ n) ⊎ (k + 1 ≡ n → ⊥) → (get_or rows k e).sequence ≤ (get_or rows (k + 1) e).sequence
      rises k e low within (inl last) =
          let before : k ≡ n - 1 = omega arith in
          rw (last, before, get_or-any rows (n - 1) e d (omega arith), get_or-any rows n e d lt) up
        where
          get_or-any : (xs : List StopTimeRow) (i : ℕ) (a b : StopTimeRow) → i < length xs → get_or xs i a ≡ get_or xs i b
          get_or-any [] i a b below = absurd (omega arith)
          get_or-any (x ∷ xs) zero a b below = refl
          get_or-any (x ∷ xs) (suc i) a b below = get_or-any xs i a b (omega arith)
      rises k e low within (inr earlier) = is.rise k e low (omega arith)

  -- a row is put at its trip's stretch
  put : (trips trip : ℕ) (stretches : List Stretch) (s : Stretch) → (get_or rows n d).trip.0 ≡ trip → trip < trips
      → AreStretches rows n trips stretches → IsStretch rows (n + 1) trip s
      → AreStretches rows (n + 1) trips (slice_set stretches trip s)
  put trips trip stretches s same within are is = record { count = length-set stretches trip s ∙ are.count; each = λ t below. at t below (cases_eq t trip) }
    where
      at : (t : ℕ) → t < trips → (t ≡ trip) ⊎ (t ≡ trip → ⊥) → IsStretch rows (n + 1) t (get_or (slice_set stretches trip s) t no_stretch)
      at t below (inl here) =
          let count = are.count in
          let inside : trip < length stretches = omega arith in
          rw (here, get_or-set_same) is
      at t below (inr other) =
          let apart : t ≢ trip = other in
          rw get_or-set_other (other_stays t (get_or stretches t no_stretch) (λ e. other (sym e ∙ same)) (are.each t below))

  put_first : (trips trip : ℕ) (stretches : List Stretch) (s : Stretch) → (get_or rows n d).trip.0 ≡ trip
      → trip < trips → AreStretches rows n trips stretches → get_or stretches trip no_stretch ≡ s → s.from ≡ s.to
      → AreStretches rows (n + 1) trips (slice_set stretches trip (record { from = n; to = n + 1 }))
  put_first trips trip stretches s same within are at empty = put trips trip stretches (record { from = n; to = n + 1 }) same within are (begins trip s same empty (subst (IsStretch rows n trip) at (are.each trip within)))

  put_next : (trips trip : ℕ) (stretches : List Stretch) (s : Stretch) → (get_or rows n d).trip.0 ≡ trip
      → trip < trips → AreStretches rows n trips stretches → get_or stretches trip no_stretch ≡ s → s.to ≡ n
      → (get_or rows (n - 1) d).sequence ≤ (get_or rows n d).sequence
      → AreStretches rows (n + 1) trips (slice_set stretches trip (record { from = s.from; to = n + 1 }))
  put_next trips trip stretches s same within are at here up = put trips trip stretches (record { from = s.from; to = n + 1 }) same within are (goes_on trip s same here up (subst (IsStretch rows n trip) at (are.each trip within)))

-- an item that is put twice is there as it was put last
set_again : {X : Type 0} (xs : List X) (i : ℕ) (a b : X) → slice_set (slice_set xs i a) i b ≡ slice_set xs i b
set_again [] i a b = refl
set_again (x ∷ xs) zero a b = refl
set_again (x ∷ xs) (suc i) a b = ap (λ ys. x ∷ ys) (set_again xs i a b)

-- rows that go on with one another are of one trip
piece_trip : (rows : List StopTimeRow) (from n : ℕ) (d : StopTimeRow)
    → ((k : ℕ) → from < k → k < from + suc n → GoesOn rows k)
    → (get_or rows (from + n) d).trip.0 ≡ (get_or rows from d).trip.0
piece_trip rows from zero d goes = let same : from + 0 ≡ from = omega arith in rw same refl
piece_trip rows from (suc n) d goes =
    let before = piece_trip rows from n d (λ k low lt. goes k low (omega arith)) in
    let last : (from + suc n) - 1 ≡ from + n = omega arith in
    (goes (from + suc n) (omega arith) (omega arith)).own d ∙ rw last before

-- the stretch of a trip, put at its place
abbrev at_trip : List Stretch → ℕ → ℕ → ℕ → List Stretch
at_trip stretches trip from to = slice_set stretches trip (record { from = from; to = to })

-- the rows that go on with those of a stretch lengthen it
lengthened : (rows : List StopTimeRow) (from n k trips trip start : ℕ) (d : StopTimeRow) (stretches : List Stretch)
    → n + k ≤ length rows → from < n → ((i : ℕ) → from < i → i < n + k → GoesOn rows i)
    → (get_or rows from d).trip.0 ≡ trip → trip < trips → length stretches ≡ trips
    → AreStretches rows n trips (at_trip stretches trip start n)
    → AreStretches rows (n + k) trips (at_trip stretches trip start (n + k))
lengthened rows from n zero trips trip start d stretches le low goes own within long are =
    let same : n + 0 ≡ n = omega arith in
    subst (λ m. AreStretches rows m trips (at_trip stretches trip start m)) (sym same) are
lengthened rows from n (suc k) trips trip start d stretches le low goes own within long are =
    let next : n + suc k ≡ (n + k) + 1 = omega arith in
    let shorter = λ (i : ℕ) (above : from < i) (below : i < n + k). goes i above (omega arith) in
    let before =
    lengthened rows from n k trips trip start d stretches (omega arith) low shorter own within long are in
    let on = goes (n + k) (omega arith) (omega arith) in
    let there : from + ((n + k) - from) ≡ n + k = omega arith in
    let of_trip = piece_trip rows from ((n + k) - from) d (λ i above below. goes i above (omega arith)) in
    let own_last : (get_or rows (n + k) d).trip.0 ≡ trip = rw there at of_trip ∙ own in
    let inside : trip < length stretches = omega arith in
    let s : Stretch = record { from = start; to = n + k } in
    let is = get_or-set_same stretches trip s no_stretch inside in
    let put =
    put_next rows (n + k) d (omega arith) trips trip (slice_set stretches trip s) s
    own_last within before is refl (on.rise d) in
    rw next (subst (AreStretches rows ((n + k) + 1) trips) (set_again stretches trip _ _) put)

-- a piece is put at its trip's stretch
pub piece_first : (rows : List StopTimeRow) (from to : ℕ) (d : StopTimeRow) → IsPiece rows from to
    → (trips trip : ℕ) (stretches : List Stretch) (s : Stretch) → (get_or rows from d).trip.0 ≡ trip → trip < trips
    → AreStretches rows from trips stretches → get_or stretches trip no_stretch ≡ s → s.from ≡ s.to
    → AreStretches rows to trips (slice_set stretches trip (record { from = from; to = to }))
piece_first rows from to d piece trips trip stretches s same within are at empty =
    let some = piece.some in
    let ends = piece.ends in
    let size : (from + 1) + (to - (from + 1)) ≡ to = omega arith in
    let first = put_first rows from d (omega arith) trips trip stretches s same within are at empty in
    let goes = λ (k : ℕ) (low : from < k) (below : k < (from + 1) + (to - (from + 1))).
    piece.goes_on k low (omega arith) in
    rw size at
    (lengthened rows from (from + 1) (to - (from + 1)) trips trip from d stretches
    (omega arith) (omega arith) goes same within are.count first)

-- a piece with the row that goes on with it
piece_more : (rows : List StopTimeRow) (from place : ℕ) → IsPiece rows from place → place < length rows
    → GoesOn rows place → IsPiece rows from (place + 1)
piece_more rows from place piece lt on =
    let low = piece.some in
    record {
      some = omega arith;
      ends = omega arith;
      anew = piece.anew;
      goes_on = λ k above below. at k above below (cases_eq k place);
    }
  where
    at : (k : ℕ) → from < k → k < place + 1 → (k ≡ place) ⊎ (k ≡ place → ⊥) → GoesOn rows k
    at k above below (inl here) = rw here on
    at k above below (inr earlier) = piece.goes_on k above (omega arith)

-- it begins with a row
pub piece_begins : {rows : List StopTimeRow} {from to : ℕ} → IsPiece rows from to → from < length rows
piece_begins piece = let some = piece.some in let ends = piece.ends in omega arith

-- a row alone
pub piece_alone : (rows : List StopTimeRow) (place : ℕ) → place < length rows → (0 < place → IsAnew rows place)
    → IsPiece rows place (place + 1)
piece_alone rows place lt anew =
    record { some = omega arith; ends = omega arith; anew = anew; goes_on = λ k low below. absurd (omega arith) }

-- a row that begins anew has one before it
pub anew_later : (rows : List StopTimeRow) (place : ℕ) → IsAnew rows place → 0 < place
anew_later rows place anew = step (cases_lt 0 place)
  where
    step : (0 < place) ⊎ (place ≤ 0) → 0 < place
    step (inl later) = later
    step (inr first) =
        let same : place - 1 ≡ place = omega arith in
        let less = anew no_time (rw same refl) in
        absurd (let no = rw same at less in omega (arith, no))

-- the rows up to one that goes on are a piece too, also where it is the first
pub piece_on : (rows : List StopTimeRow) (from place : ℕ) → (0 < place → IsPiece rows from place)
    → (place ≡ 0 → from ≡ 0) → place < length rows → GoesOn rows place → IsPiece rows from (place + 1)
piece_on rows from place before start lt on = step (cases_eq place 0)
  where
    step : (place ≡ 0) ⊎ (place ≡ 0 → ⊥) → IsPiece rows from (place + 1)
    step (inl first) =
        let alone = piece_alone rows place lt (λ some. absurd (omega arith)) in
        subst (λ f. IsPiece rows f (place + 1)) (first ∙ sym (start first)) alone
    step (inr later) = piece_more rows from place (before (omega arith)) lt on

-- rows whose sequences don't fall are in order of them
in_order_already : (rows : List StopTimeRow) → ((k : ℕ) (d : StopTimeRow) → k + 1 < length rows → (get_or rows k d).sequence ≤ (get_or rows (k + 1) d).sequence) → in_sequence rows ≡ rows
in_order_already [] up = refl
in_order_already (x ∷ []) up = refl
in_order_already (x ∷ (y ∷ ys)) up =
    let rest : in_sequence (y ∷ ys) ≡ y ∷ ys = in_order_already (y ∷ ys) (λ k d lt. later k d lt) in
    let first : x.sequence ≤ y.sequence = up 0 x (omega arith) in
    ap (in_its_place x) rest ∙ rw (le-leb x.sequence y.sequence first) refl
  where
    later : (k : ℕ) (d : StopTimeRow) → k + 1 < length (y ∷ ys) → (get_or (y ∷ ys) k d).sequence ≤ (get_or (y ∷ ys) (k + 1) d).sequence
    later k d lt = let next : k + 1 ≡ suc k = omega arith in let is = up (suc k) d (omega arith) in let far : suc k + 1 ≡ suc (suc k) = omega arith in rw next (rw far at is)

-- the rows of a stretch, place by place
pub range_at : (rows : List StopTimeRow) (from to k : ℕ) (d : StopTimeRow) → from + k < to → get_or (slice_range rows from to) k d ≡ get_or rows (from + k) d
range_at rows from to k d lt = get_or-take (to - from) (drop from rows) k d (omega arith) ∙ get_or-drop from rows k d

-- the rows of a stretch are of its trip
row_own : (rows : List StopTimeRow) (n trip : ℕ) (s : Stretch) → IsStretch rows n trip s → n ≤ length rows
    → (k : ℕ) (d : StopTimeRow) → s.from ≤ k → k < s.to → (get_or rows k d).trip.0 ≡ trip
row_own rows n trip s is within k d low high =
    let test = λ (r : StopTimeRow). r.trip.0 == trip in
    let own = subst (All (λ (r : StopTimeRow). test r ≡ true)) (sym is.are) (filter_passes test (take n rows)) in
    let ends = is.ends in
    let place : s.from + (k - s.from) ≡ k = omega arith in
    let size = length-take (s.to - s.from) (drop s.from rows) in
    let left = length-drop s.from rows in
    let passes = own (k - s.from) d (omega arith) in
    let moved = rw (range_at rows s.from s.to (k - s.from) d (omega arith)) at passes in
    eqb-true (get_or rows k d).trip.0 trip (rw place at moved)

-- the rows of each trip's stretch are its rows
stretch_rows : (rows : List StopTimeRow) (trips t : ℕ) (stretches : List Stretch) → AreStretches rows (length rows) trips stretches → t < trips → rows_at rows stretches t ≡ filter (λ r. r.trip.0 == t) rows
stretch_rows rows trips t stretches are lt = (are.each t lt).are ∙ ap (filter (λ r. r.trip.0 == t)) (take_all (length rows) rows (omega arith))

-- in the file they are its stop times in order
pub rows_are : (feed : FeedRows) (trips t : ℕ) (stretches : List Stretch) → AreStretches feed.stop_times (length feed.stop_times) trips stretches → t < trips → rows_at feed.stop_times stretches t ≡ trip_stop_times feed (record { 0 = t })
rows_are feed trips t stretches are lt =
    let rows = feed.stop_times in
    let s = get_or stretches t no_stretch in
    let is = are.each t lt in
    let size = length-take (s.to - s.from) (drop s.from rows) in
    sym (in_order_already (rows_of_stretch rows s) (λ k d below.
    let inside : s.from + (k + 1) < s.to = omega (arith, size) in
    let next : s.from + (k + 1) ≡ (s.from + k) + 1 = omega arith in
    rw (range_at rows s.from s.to k d (omega arith), range_at rows s.from s.to (k + 1) d inside, next) (is.rise (s.from + k) d (omega arith) (omega arith)))) ∙ ap in_sequence (stretch_rows rows trips t stretches are lt)

-- and so they are among rows that are sorted
pub sorted_are : (feed : FeedRows) (rows : List StopTimeRow) (trips t : ℕ) (stretches : List Stretch) → IsSoundFeed feed → IsPermutation feed.stop_times rows → AllPairs IsInOrder rows → AreStretches rows (length rows) trips stretches → t < trips
    → rows_at rows stretches t ≡ trip_stop_times feed (record { 0 = t })
sorted_are feed rows trips t stretches sound moved up are lt =
    stretch_rows rows trips t stretches are lt ∙ trip_stop_times_of_sorted feed rows (record { 0 = t }) (calls_apart feed sound.calls) moved up

-- a row's trip has a stretch
pub trip_stretched : (rows : List StopTimeRow) (place trips : ℕ) (stretches : List Stretch) (d : StopTimeRow) → place < length rows → All (λ (r : StopTimeRow). r.trip.0 < trips) rows → AreStretches rows place trips stretches → (get_or rows place d).trip.0 < length stretches
trip_stretched rows place trips stretches d lt few are = rw are.count (few place d lt)

-- the rows of a file are of its trips, and few
pub file_within : (feed : FeedRows) (rows : List StopTimeRow) (trips : ℕ) → IsSoundFeed feed → rows ≡ feed.stop_times → trips ≡ length feed.trips → All (λ (r : StopTimeRow). r.trip.0 < trips) rows
file_within feed rows trips sound same many = rw (same, many) sound.stop_times.trips

pub file_few : (feed : FeedRows) (rows : List StopTimeRow) → IsSoundFeed feed → rows ≡ feed.stop_times → length rows < 2 ^ 32
file_few feed rows sound same =
    let few = sound.stop_times.few in
    rw same (omega arith)

module _ (feed : FeedRows) (rows : List StopTimeRow) (stretches : List Stretch) (sound : IsSoundFeed feed) (are : AreStretches rows (length rows) (length feed.trips) stretches)
    (few : All (λ (r : StopTimeRow). r.trip.0 < length feed.trips) rows)
    (own : (t : ℕ) → t < length feed.trips → rows_at rows stretches t ≡ trip_stop_times feed (record { 0 = t })) where
  within : (t : ℕ) → t < length stretches → t < length feed.trips
  within t lt = let count = are.count in omega arith

  -- so their calls are those of the trips
  pub calls_are : stretch_calls rows stretches ≡ trip_calls feed
  calls_are =
      rw are.count (list_below-same (length feed.trips) (λ t. pass (rows_at rows stretches t)) (λ t. calls_of feed (record { 0 = t }))
      (λ t lt. ap pass (own t lt) ∙ sym (calls_of-pass feed (record { 0 = t }) (sound_ends feed (record { 0 = t }) sound.calls))))

pub file_stretches : (feed : FeedRows) (stretches : List Stretch) → IsSoundFeed feed → AreStretches feed.stop_times (length feed.stop_times) (length feed.trips) stretches → stretch_calls feed.stop_times stretches ≡ trip_calls feed
file_stretches feed stretches sound are =
    calls_are feed feed.stop_times stretches sound are sound.stop_times.trips
    (λ t lt. rows_are feed (length feed.trips) t stretches are lt)

-- sorted rows are of the feed's trips
pub sorted_within : (feed : FeedRows) (rows : List StopTimeRow) → IsSoundFeed feed → IsPermutation feed.stop_times rows →
    All (λ r. r.trip.0 < length feed.trips) rows
sorted_within feed rows sound moved =
    All-permutation (λ (r : StopTimeRow). r.trip.0 < length feed.trips) feed.stop_times rows moved sound.stop_times.trips

pub sorted_stretches : (feed : FeedRows) (rows : List StopTimeRow) (stretches : List Stretch) → IsSoundFeed feed → IsPermutation feed.stop_times rows → AllPairs IsInOrder rows → AreStretches rows (length rows) (length feed.trips) stretches
    → stretch_calls rows stretches ≡ trip_calls feed
sorted_stretches feed rows stretches sound moved up are =
    calls_are feed rows stretches sound are (sorted_within feed rows sound moved)
    (λ t lt. sorted_are feed rows (length feed.trips) t stretches sound moved up are lt)

-- and few
pub sorted_few : (feed : FeedRows) (rows : List StopTimeRow) → IsSoundFeed feed → IsPermutation feed.stop_times rows → length rows < 2 ^ 32
sorted_few feed rows sound moved =
    let long = length_permutation feed.stop_times rows moved in
    let few = sound.stop_times.few in
    omega arith

-- a piece of a trip whose stretch has begun lies apart from it
pub lies_apart : (rows : List StopTimeRow) (from to trips : ℕ) (stretches : List Stretch) (d : StopTimeRow)
    (s : Stretch)
    → IsPiece rows from to → All (λ (r : StopTimeRow). r.trip.0 < trips) rows → AreStretches rows from trips stretches
    → get_or stretches (get_or rows from d).trip.0 no_stretch ≡ s → (s.from ≡ s.to → ⊥) → IsApart rows from stretches
lies_apart rows from to trips stretches d s piece few are at some =
    record {
      begun = λ e. rw (get_or_default rows from e d lt, at) begun;
      apart = λ e here. falls e (rw (get_or_default rows from e d lt, at) at here);
    }
  where
    lt : from < length rows
    lt = piece_begins piece

    is : IsStretch rows from (get_or rows from d).trip.0 s
    is =
        let trip = (get_or rows from d).trip.0 in
        subst (IsStretch rows from trip) at (are.each trip (few from d lt))

    begun : s.from < s.to
    begun = let forward = is.forward in omega (arith, forward, some)

    falls : (e : StopTimeRow) → s.to ≡ from → (get_or rows from e).sequence < (get_or rows (from - 1) e).sequence
    falls e here =
        let low = begun in
        let last =
        row_own rows from (get_or rows from d).trip.0 s is (let le = lt in omega arith) (s.to - 1) e (omega (arith, low))
        (omega (arith, low)) in
        let before : (get_or rows (from - 1) e).trip.0 ≡ (get_or rows from d).trip.0 = rw here at last in
        let one = get_or_default rows from e d lt in
        let own : (get_or rows from e).trip.0 ≡ (get_or rows from d).trip.0 = ap (λ (r : StopTimeRow). r.trip.0) one in
        piece.anew (omega (arith, low, here)) e (own ∙ sym before)

-- where rows are sorted, none lies apart from those of its trip
module _ (rows : List StopTimeRow) (trips : ℕ) (up : AllPairs IsInOrder rows) (few : All (λ (r : StopTimeRow). r.trip.0 < trips) rows) (scattered : IsScattered rows trips) where
  here : StopTimeRow
  here = get_or rows scattered.place no_time

  s : Stretch
  s = get_or scattered.stretches here.trip.0 no_stretch

  is_stretch : IsStretch rows scattered.place here.trip.0 s
  unfolding here s
  is_stretch = scattered.before.each here.trip.0 (few scattered.place no_time scattered.inside)

  begun : s.from < s.to
  unfolding here s
  begun = scattered.apart.begun no_time

  last : (get_or rows (s.to - 1) no_time).trip.0 ≡ here.trip.0
  last =
      let inside = scattered.inside in
      let low = begun in
      row_own rows scattered.place here.trip.0 s is_stretch (omega arith) (s.to - 1) no_time (omega (arith, low))
      (omega (arith, low))

  -- a row between it and its trip's is of the trip too
  between : (a b c : StopTimeRow) → a.trip.0 ≡ c.trip.0 → IsInOrder a b → IsInOrder b c → b.trip.0 ≡ c.trip.0
  between a b c same first second = grind (arith, same, first, second)

  falls : (a b : StopTimeRow) → a.trip.0 ≡ b.trip.0 → IsInOrder a b → b.sequence < a.sequence → ⊥
  falls a b same order less = grind (arith, same, order, less)

  at_once : s.to ≡ scattered.place → ⊥
  unfolding here s
  at_once same =
      let from = begun in
      let inside = scattered.inside in
      let before : (get_or rows (scattered.place - 1) no_time).trip.0 ≡ here.trip.0 = rw same at last in
      falls (get_or rows (scattered.place - 1) no_time) here before (up (scattered.place - 1) scattered.place no_time (omega arith) inside) (scattered.apart.apart no_time same)

  later : s.to < scattered.place → ⊥
  unfolding here
  later lt = let far = (is_stretch.has s.to no_time lt (next_own lt)).1 in omega (arith, far)
    where
      next_own : s.to < scattered.place → (get_or rows s.to no_time).trip.0 ≡ here.trip.0
      next_own lt =
          let from = begun in
          let inside = scattered.inside in
          let first = up (s.to - 1) s.to no_time (omega arith) (omega arith) in
          let second = up s.to scattered.place no_time lt inside in
          between (get_or rows (s.to - 1) no_time) (get_or rows s.to no_time) here last first second

  pub sorted_together : ⊥
  sorted_together = let ends = is_stretch.ends in ⊎_elim later (λ ge. at_once (omega arith)) (cases_lt s.to scattered.place)

-- the steps of a scan for the next timed row
pub ruleset timed_scan = (next_timed_hit, next_timed_end, untimed_more, is_timed_at_row)

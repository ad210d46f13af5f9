-- The trips of a feed without a fault: their first and last rows have times, and their times don't fall.
use Rattle.std.proofs.Common.{◌≡◌, refl, sym, ◌∙◌, subst, ℕ, ◌-◌, ◌<◌, ◌≤◌, ◌⊎◌, inl, inr, true, ◌==◌, List, [], ◌∷◌, length, get_or, filter, All, Contains, arith, Option, Some, None, IsSome}
use Rattle.std.specs.Prelude.{slice_get, IfSome}
use Rattle.std.specs.Option.{ForSome}
use Rattle.std.proofs.lemmas.Bool.{cases_eq, eqb-true, eq-eqb}
use Rattle.std.proofs.lemmas.Option.{option_and_then_some, get_or_from_slice_get, slice_get_within, slice_get-get_or}
use Rattle.std.proofs.lemmas.List.Elements.{All-weaker, All-contains, All-contains_itself, filter_passes, Contains-get_or}
use Rattle.std.proofs.lemmas.List.Sorted.{All-permutation}
use Rattle.transit_base.specs.Limits.{most_time}
use Rattle.transit_base.specs.declared.numbers.TripId.{TripId}
use Rattle.feed_rows.specs.declared.rows.StopTimeRow.{StopTimeRow}
use Rattle.feed_rows.specs.FeedRows.{FeedRows}
use Rattle.feed_rows.specs.Calls.{first_time, last_time, trip_stop_times}
use Rattle.feed_rows.specs.TimedTrips.{last_at, is_timed_at, HasTimedEnds, DoTimesRise, DoTimesEndBy, IsTimedTrip}
use Rattle.feed_rows.specs.SoundTimetable.{AreSoundStopTimes, AreOrderedCalls, IsFirstCall, IsLastCall, EndsBy}
use Rattle.feed_rows.specs.SoundFeed.{IsSoundFeed}
use Rattle.plain_laws.proofs.Laws.{All-slice_get, Contains-filter}
use Rattle.feed_laws.proofs.SequenceLaws.{IsBefore, AreCallsApart, IsPermutation-in_sequence, in_sequence_members, in_sequence_sorted, trip_stop_times_all, trip_stop_times_strict}
use Rattle.feed_laws.proofs.TimedLaws.{last_timed}
use Rattle.feed_laws.proofs.CallTimes.{trip_times_most}

-- the rows of a trip are its own
pub trip_rows_own : (feed : FeedRows) (trip : TripId) → All (λ (r : StopTimeRow). r.trip.0 ≡ trip.0) (trip_stop_times feed trip)
trip_rows_own feed trip =
    let test = λ (r : StopTimeRow). r.trip.0 == trip.0 in
    let rows = filter test feed.stop_times in
    All-permutation
    (λ (r : StopTimeRow). r.trip.0 ≡ trip.0)
    rows
    (trip_stop_times feed trip)
    (IsPermutation-in_sequence rows)
    (All-weaker (λ (r : StopTimeRow). test r ≡ true) (λ (r : StopTimeRow). r.trip.0 ≡ trip.0) (λ r e. eqb-true r.trip.0 trip.0 e) rows (filter_passes test feed.stop_times))

-- they are rows of the feed
pub trip_rows_within : (feed : FeedRows) (trip : TripId) → All (Contains feed.stop_times) (trip_stop_times feed trip)
trip_rows_within feed trip = trip_stop_times_all (Contains feed.stop_times) feed trip (All-contains_itself feed.stop_times)

-- and all of these
pub trip_rows_all : (feed : FeedRows) (trip : TripId) (row : StopTimeRow) → Contains feed.stop_times row → row.trip.0 ≡ trip.0 → Contains (trip_stop_times feed trip) row
trip_rows_all feed trip row at own =
    (in_sequence_members (filter (λ r. r.trip.0 == trip.0) feed.stop_times)).there row (Contains-filter (λ r. r.trip.0 == trip.0) feed.stop_times row at (eq-eqb row.trip.0 trip.0 own))

-- a row of a trip, as it stands at its position
pub record IsRowAt (feed : FeedRows) (trip : TripId) (m : ℕ) (row : StopTimeRow) : Type 0 where
  pub member : Contains feed.stop_times row
  pub own : row.trip.0 ≡ trip.0
  pub within : m < length (trip_stop_times feed trip)

pub row_at : (feed : FeedRows) (trip : TripId) (m : ℕ) (row : StopTimeRow) → slice_get (trip_stop_times feed trip) m ≡ Some row → IsRowAt feed trip m row
row_at feed trip m row at =
    record {
      member = All-slice_get (Contains feed.stop_times) (trip_stop_times feed trip) m row at (trip_rows_within feed trip);
      own = All-slice_get (λ (r : StopTimeRow). r.trip.0 ≡ trip.0) (trip_stop_times feed trip) m row at (trip_rows_own feed trip);
      within = slice_get_within (trip_stop_times feed trip) m row at;
    }

-- no two calls of a sound feed have one trip and one sequence
pub calls_apart : (feed : FeedRows) → AreOrderedCalls feed → AreCallsApart feed
calls_apart feed sound = sound.no_doubles

-- rows of a trip don't fall, from position to position
not_after : (feed : FeedRows) (trip : TripId) (i j : ℕ) (d : StopTimeRow) → i ≤ j → j < length (trip_stop_times feed trip) → (get_or (trip_stop_times feed trip) i d).sequence ≤ (get_or (trip_stop_times feed trip) j d).sequence
not_after feed trip i j d le within = step (cases_eq i j)
  where
    step : (i ≡ j) ⊎ (i ≡ j → ⊥) → (get_or (trip_stop_times feed trip) i d).sequence ≤ (get_or (trip_stop_times feed trip) j d).sequence
    step (inl same) = rw same (omega arith)
    step (inr apart) = in_sequence_sorted (filter (λ r. r.trip.0 == trip.0) feed.stop_times) i j d (omega arith) within

-- the first and the last row of a trip have times
pub sound_ends : (feed : FeedRows) (trip : TripId) → AreOrderedCalls feed → HasTimedEnds (trip_stop_times feed trip)
sound_ends feed trip sound = record { first = λ some. first some (at 0 some).0 (at 0 some).1; last = λ some. last some (at (length rows - 1) (omega arith)).0 (at (length rows - 1) (omega arith)).1 }
  where
    rows : List StopTimeRow
    rows = trip_stop_times feed trip

    at : (m : ℕ) → m < length rows → (row : StopTimeRow) × (slice_get rows m ≡ Some row)
    at m lt = given (trip_rows_within feed trip)
      where
        given : All (Contains feed.stop_times) rows → (row : StopTimeRow) × (slice_get rows m ≡ Some row)
        given _ = found rows m lt
          where
            found : (xs : List StopTimeRow) (i : ℕ) → i < length xs → (row : StopTimeRow) × (slice_get xs i ≡ Some row)
            found [] i lt = absurd (omega arith)
            found (x ∷ xs) i lt = (get_or (x ∷ xs) i x, slice_get-get_or (x ∷ xs) i x lt)

    first : 0 < length rows → (row : StopTimeRow) → slice_get rows 0 ≡ Some row → is_timed_at rows 0 ≡ true
    first some row got =
        let is = row_at feed trip 0 row got in
        let begins : IsFirstCall feed row = λ k d lt same. least (get_or feed.stop_times k d) (trip_rows_all feed trip (get_or feed.stop_times k d) (Contains-get_or feed.stop_times k d lt) (same ∙ is.own)) in
        let timed = All-contains (λ (c : StopTimeRow). IsFirstCall feed c → IsSome (first_time c)) feed.stop_times row sound.firsts is.member begins in
        rw got timed
      where
        least : (other : StopTimeRow) → Contains rows other → row.sequence ≤ other.sequence
        least other there =
            let here : get_or rows 0 other ≡ row = get_or_from_slice_get rows 0 row other got in
            subst (λ (r : StopTimeRow). r.sequence ≤ other.sequence) here (subst (λ (r : StopTimeRow). (get_or rows 0 other).sequence ≤ r.sequence) there.2 (not_after feed trip 0 there.0 other (omega arith) there.1))

    last : 0 < length rows → (row : StopTimeRow) → slice_get rows (length rows - 1) ≡ Some row → is_timed_at rows (length rows - 1) ≡ true
    last some row got =
        let is = row_at feed trip (length rows - 1) row got in
        let ends : IsLastCall feed row = λ k d lt same. most (get_or feed.stop_times k d) (trip_rows_all feed trip (get_or feed.stop_times k d) (Contains-get_or feed.stop_times k d lt) (same ∙ is.own)) in
        let timed = last_timed row (All-contains (λ (c : StopTimeRow). IsLastCall feed c → IsSome (last_time c)) feed.stop_times row sound.lasts is.member ends) in
        rw got timed
      where
        most : (other : StopTimeRow) → Contains rows other → other.sequence ≤ row.sequence
        most other there =
            let here : get_or rows (length rows - 1) other ≡ row = get_or_from_slice_get rows (length rows - 1) row other got in
            let lt = there.1 in
            subst (λ (r : StopTimeRow). other.sequence ≤ r.sequence) here (subst (λ (r : StopTimeRow). r.sequence ≤ (get_or rows (length rows - 1) other).sequence) there.2 (not_after feed trip there.0 (length rows - 1) other (omega arith) (omega arith)))

-- the times of a trip don't fall
pub sound_rise : (feed : FeedRows) (trip : TripId) → AreOrderedCalls feed → DoTimesRise (trip_stop_times feed trip)
sound_rise feed trip sound =
    record {
      stay = λ m a d first last. option_and_then_some first_time (slice_get rows m) a first (λ row got is. stay m a d row got is last);
      run = λ i j d a lt last first. option_and_then_some last_time (slice_get rows i) d last (λ row got is. option_and_then_some first_time (slice_get rows j) a first (λ next there at. run i j d a row next lt got there is at));
    }
  where
    rows : List StopTimeRow
    rows = trip_stop_times feed trip

    stay : (m a d : ℕ) (row : StopTimeRow) → slice_get rows m ≡ Some row → first_time row ≡ Some a → last_at rows m ≡ Some d → a ≤ d
    stay m a d row got first last =
        let here : last_time row ≡ Some d = rw got at last in
        All-contains (λ (c : StopTimeRow). ForSome (first_time c) (λ s. ForSome (last_time c) (λ t. s ≤ t))) feed.stop_times row sound.within_rows (row_at feed trip m row got).member a first d here

    run : (i j d a : ℕ) (row next : StopTimeRow) → i < j → slice_get rows i ≡ Some row → slice_get rows j ≡ Some next → last_time row ≡ Some d → first_time next ≡ Some a → d ≤ a
    run i j d a row next lt got there last first =
        let one = row_at feed trip i row got in
        let two = row_at feed trip j next there in
        let before : row.sequence < next.sequence = less (trip_stop_times_strict feed trip (calls_apart feed sound) i j row lt two.within) in
        All-contains
        (λ (e : StopTimeRow). row.trip.0 ≡ e.trip.0 → row.sequence < e.sequence → EndsBy row e)
        feed.stop_times
        next
        (All-contains (λ (c : StopTimeRow). All (λ (e : StopTimeRow). c.trip.0 ≡ e.trip.0 → c.sequence < e.sequence → EndsBy c e) feed.stop_times) feed.stop_times row sound.between_rows one.member)
        two.member
        (one.own ∙ sym two.own)
        before
        d
        last
        a
        first
      where
        less : IsBefore (get_or rows i row) (get_or rows j row) → row.sequence < next.sequence
        less lt =
            let here : get_or rows i row ≡ row = get_or_from_slice_get rows i row row got in
            let later : get_or rows j row ≡ next = get_or_from_slice_get rows j next row there in
            rw (here, later) at lt

-- no time of a sound feed is later than 167:59:59
pub sound_times : (feed : FeedRows) → AreSoundStopTimes feed → DoTimesEndBy feed most_time
sound_times feed sound k d lt = (small (get_or feed.stop_times k d).arrival (sound.arrivals k d lt), small (get_or feed.stop_times k d).departure (sound.departures k d lt))
  where
    small : (o : Option ℕ) → ForSome o (λ t. t ≤ most_time) → IfSome o (λ t. t ≤ most_time)
    small None all = tt
    small (Some t) all = all t refl

-- each trip of a sound feed has times that don't fall, none later than 167:59:59
pub sound_trip : (feed : FeedRows) (trip : TripId) → IsSoundFeed feed → IsTimedTrip feed trip most_time
sound_trip feed trip sound =
    record {
      ends = sound_ends feed trip sound.calls;
      rise = sound_rise feed trip sound.calls;
      times = trip_times_most feed trip most_time (sound_times feed sound.stop_times);
      runs = λ k d lt of_trip. sound.frequencies.ends k d lt;
    }

-- What laws ask of the times of a trip, and what each trip of a sound feed keeps: its first and its last row have times,
-- times don't fall, and none is too great.
use Rattle.std.specs.Prelude.{◌≡◌, ℕ, ◌-◌, ◌<◌, ◌≤◌, Bool, true, List, length, slice_get, Option, Some, option_and_then, IfSome, All}
use Rattle.transit_base.specs.declared.numbers.TripId.{TripId}
use Rattle.feed_rows.specs.declared.rows.StopTimeRow.{StopTimeRow}
use Rattle.feed_rows.specs.declared.rows.FrequencyRow.{FrequencyRow}
use Rattle.feed_rows.specs.FeedRows.{FeedRows}
use Rattle.plain_laws.specs.Plain.{at_and}
use Rattle.feed_rows.specs.Calls.{first_time, last_time, is_timed, trip_stop_times}

-- the times of the row at a position
abbrev pub first_at : List StopTimeRow → ℕ → Option ℕ
first_at rows m = option_and_then first_time (slice_get rows m)

abbrev pub last_at : List StopTimeRow → ℕ → Option ℕ
last_at rows m = option_and_then last_time (slice_get rows m)

-- the row at a position has a time
abbrev pub is_timed_at : List StopTimeRow → ℕ → Bool
is_timed_at rows m = at_and rows m is_timed

-- the first and the last row have times
pub record HasTimedEnds (rows : List StopTimeRow) : Type 0 where
  pub first : 0 < length rows → is_timed_at rows 0 ≡ true
  pub last : 0 < length rows → is_timed_at rows (length rows - 1) ≡ true

-- times don't fall: not in a row, and not from a timed row to a later one
pub record DoTimesRise (rows : List StopTimeRow) : Type 0 where
  pub stay : (m a d : ℕ) → first_at rows m ≡ Some a → last_at rows m ≡ Some d → a ≤ d
  pub run : (i j d a : ℕ) → i < j → last_at rows i ≡ Some d → first_at rows j ≡ Some a → d ≤ a

-- no time of the rows is greater than this
pub record AreTimesAtMost (rows : List StopTimeRow) (most : ℕ) : Type 0 where
  pub first : (m t : ℕ) → first_at rows m ≡ Some t → t ≤ most
  pub last : (m t : ℕ) → last_at rows m ≡ Some t → t ≤ most

-- no time of a feed's stop times is greater than this
abbrev pub DoTimesEndBy : FeedRows → ℕ → Type 0
DoTimesEndBy feed most = All (λ (r : StopTimeRow). IfSome r.arrival (λ t. t ≤ most) × IfSome r.departure (λ t. t ≤ most)) feed.stop_times

-- the frequency rows of the trip end no later than this
abbrev pub DoRunsEndBy : FeedRows → TripId → ℕ → Type 0
DoRunsEndBy feed trip most = All (λ (f : FrequencyRow). f.trip.0 ≡ trip.0 → f.end ≤ most) feed.frequencies

-- a trip that is timed by its first and its last stop time, and whose times don't fall and are no later than this, as the
-- ends of its frequency rows
pub record IsTimedTrip (feed : FeedRows) (trip : TripId) (most : ℕ) : Type 0 where
  pub ends : HasTimedEnds (trip_stop_times feed trip)
  pub rise : DoTimesRise (trip_stop_times feed trip)
  pub times : AreTimesAtMost (trip_stop_times feed trip) most
  pub runs : DoRunsEndBy feed trip most

-- Runs, and when a ride by one lies within a span.
use Rattle.std.specs.Prelude.{◌≡◌, ◌≢◌, ℕ, ◌<◌, ◌≤◌, Bool, false, ◌&&◌, ◌==◌, Contains, List, length, Some, All, ℤ, pos, negsuc, ◌+ℤ◌, ◌≤ℤ◌, int_le}
use Rattle.std.specs.List.{AllPairs}
use Rattle.transit_base.specs.Limits.{most_time}
use Rattle.transit_base.specs.Moments.{moment_at}
use Rattle.transit_base.specs.declared.numbers.TripId.{TripId}
use Rattle.feed_rows.specs.declared.journeys.Call.{Call}
use Rattle.plan_patterns.specs.declared.span.Span.{Span}
use Rattle.feed_rows.specs.declared.journeys.Ride.{Ride}
use Rattle.feed_rows.specs.declared.journeys.RideFacts.{RideFacts}
use Rattle.feed_rows.specs.FeedRows.{FeedRows}
use Rattle.feed_rows.specs.Limits.{least_shift, most_shift}
use Rattle.feed_rows.specs.Rides.{ride_facts}
use Rattle.plain_laws.specs.Plain.{any_below, at_and, int_same}
use Rattle.plan_patterns.specs.declared.runs.Run.{Run}

-- the moment that is so many seconds of the run's day, shifted as the run is
abbrev pub moment_of : Run → ℕ → ℤ
moment_of run seconds = moment_at run.day.0 (run.shift +ℤ pos seconds)

-- the ride by the run from one call to another
abbrev pub ride_by : Run → ℕ → ℕ → Ride
ride_by run from to = record { trip = run.trip; day = run.day; shift = run.shift; from = from; to = to }

-- a ride by the run departs no earlier than the span begins, and arrives no later than it ends
pub record IsHeld (feed : FeedRows) (span : Span) (run : Run) : Type 0 where
  pub from : ℕ
  pub to : ℕ
  pub facts : RideFacts
  pub is : ride_facts feed (ride_by run from to) ≡ Some facts
  pub since : span.from.0 ≤ℤ facts.departure.0
  pub until : facts.arrival.0 ≤ℤ span.until.0

-- trips of the feed, none of them twice
pub record AreTripsOf (feed : FeedRows) (trips : List TripId) : Type 0 where
  pub inside : All (λ (trip : TripId). trip.0 < length feed.trips) trips
  pub once : AllPairs (λ (a : TripId) (b : TripId). a ≢ b) trips

-- the run is of one of the trips, and has such a ride
pub record IsHeldOf (feed : FeedRows) (span : Span) (trips : List TripId) (run : Run) : Type 0 where
  pub trip : Contains trips run.trip
  pub held : IsHeld feed span run

-- the run's day and shift lie within their bounds
pub record IsNear (run : Run) : Type 0 where
  pub day_low : negsuc 799_999 ≤ℤ run.day.0
  pub day_high : run.day.0 ≤ℤ pos 3_000_000
  pub shift_low : least_shift ≤ℤ run.shift
  pub shift_high : run.shift ≤ℤ most_shift

-- the run is of a trip of the feed, and its day and shift lie within their bounds
pub record IsKnown (feed : FeedRows) (run : Run) : Type 0 where
  pub inside : run.trip.0 < length feed.trips
  pub near : IsNear run

-- the two are one run
abbrev pub same_run : Run → Run → Bool
same_run a b = (a.trip.0 == b.trip.0) && int_same a.day.0 b.day.0 && int_same a.shift b.shift

-- the runs of the trips that are held, each once
pub record AreHeld (feed : FeedRows) (span : Span) (trips : List TripId) (runs : List Run) : Type 0 where
  pub all : (run : Run) → IsHeldOf feed span trips run → Contains runs run
  pub right : All (IsHeldOf feed span trips) runs
  pub known : All (IsKnown feed) runs
  pub once : AllPairs (λ (a : Run) (b : Run). same_run a b ≡ false) runs

-- the calls' times are at most the greatest time of a trip
abbrev pub AreTimed : List Call → Type 0
AreTimed calls = All (λ (c : Call). (c.arrival ≤ most_time) × (c.departure ≤ most_time)) calls

-- riders may board the run at the call, no earlier than the span begins
unfoldable pub boards_in_time : Span → Run → Call → Bool
boards_in_time span run call = call.pickup && int_le span.from.0 (moment_of run call.departure)

-- riders may alight from the run at the call, no later than the span ends
unfoldable pub alights_in_time : Span → Run → Call → Bool
alights_in_time span run call = call.drop_off && int_le (moment_of run call.arrival) (span.until.0)

-- riders may board the run in time before the n-th of these calls
abbrev pub is_boarded : Span → Run → List Call → ℕ → Bool
is_boarded span run calls n = any_below n (λ from. at_and calls from (boards_in_time span run))

-- at one of the first n of these calls riders may alight in time who boarded before
abbrev pub has_ride_to : Span → Run → List Call → ℕ → Bool
has_ride_to span run calls n =
    any_below n (λ to. is_boarded span run calls to && at_and calls to (alights_in_time span run))

-- the run, of a trip with these calls, has a ride within the span
abbrev pub has_ride : Span → Run → List Call → Bool
has_ride span run calls = has_ride_to span run calls (length calls)

-- Departures within a span, by the stops that they are from.
use Rattle.std.specs.Prelude.{◌≡◌, ◌≢◌, Bool, true, false, ◌&&◌, ℕ, ◌<◌, ◌≤◌, List, length, slice_get, slice_index_or, All, Contains, Option, Some, ℤ, pos, ◌+ℤ◌, ◌≤ℤ◌, int_le}
use Rattle.std.specs.List.{AllPairs, AllWithin}
use Rattle.transit_base.specs.Moments.{moment_at}
use Rattle.transit_base.specs.declared.moments.Moment.{Moment}
use Rattle.transit_base.specs.declared.numbers.StopId.{StopId}
use Rattle.transit_base.specs.declared.numbers.TripId.{TripId}
use Rattle.feed_rows.specs.declared.journeys.Call.{Call}
use Rattle.feed_rows.specs.declared.journeys.Query.{Query}
use Rattle.feed_rows.specs.declared.journeys.Ride.{Ride}
use Rattle.feed_rows.specs.declared.journeys.RideFacts.{RideFacts}
use Rattle.feed_rows.specs.FeedRows.{FeedRows}
use Rattle.feed_rows.specs.Calls.{calls_of}
use Rattle.feed_rows.specs.Rides.{ride_facts, trip_network}
use Rattle.plain_laws.specs.Adds.{Adds}
use Rattle.plain_laws.specs.Plain.{when}
use Rattle.plan_patterns.specs.declared.pattern.Boarding.{Boarding}
use Rattle.plan_patterns.specs.declared.runs.Run.{Run}
use Rattle.plan_patterns.specs.declared.serving.Serving.{Serving}
use Rattle.plan_patterns.specs.Grouping.{PatternOf, PatternsOf, halts_at, runs_at, halts_by_pattern}
use Rattle.plan_patterns.specs.Runs.{AreTripsOf}
use Rattle.plan_patterns.specs.Servings.{servings_at}
use Rattle.plan_rides.specs.declared.departures.Departure.{Departure}
use Rattle.plan_rides.specs.Boarding.{Seeking, is_marked}
use Rattle.plan_rides.specs.Cutoffs.{CutoffOf, is_early}
use Rattle.plan_rides.specs.InTime.{deadline, departure_of}
use Rattle.plan_rides.specs.Runs.{RunOf, run_of, IsRun}

-- there may be rides, and the ride goes so, boards at a stop that is marked, departs no earlier than the span begins, and
-- arrives no later than it ends
pub record IsSpanned (feed : FeedRows) (sought : Seeking) (ride : Ride) (facts : RideFacts) : Type 0 where
  pub some : 0 < sought.scope.rides
  pub is : ride_facts feed ride ≡ Some facts
  pub boards : is_marked sought.marks facts.from.0 ≡ true
  pub since : sought.scope.span.from.0 ≤ℤ facts.departure.0
  pub until : facts.arrival.0 ≤ℤ sought.scope.span.until.0

-- the trips are of the feed, each once, and those are among them that have a ride that may be caught
pub record AreBoarded (feed : FeedRows) (sought : Seeking) (trips : List TripId) : Type 0 where
  pub of : AreTripsOf feed trips
  pub all : (ride : Ride) (facts : RideFacts) → IsSpanned feed sought ride facts → Contains trips ride.trip

-- the trips are those that are marked, each once
pub record AreListed (marks : List Bool) (trips : List TripId) : Type 0 where
  pub all : (trip : TripId) → slice_index_or marks trip.0 false ≡ true → Contains trips trip
  pub marked : All (λ (trip : TripId). slice_index_or marks trip.0 false ≡ true) trips
  pub once : AllPairs (λ (a : TripId) (b : TripId). a ≢ b) trips

-- where the numbers of the old list's trips and that of this trip are below a bound, those of the new one are
abbrev pub StayBelow : TripId → List TripId → List TripId → Type 0
StayBelow trip old new =
    (n : ℕ) → trip.0 < n → All (λ (t : TripId). t.0 < n) old → All (λ (t : TripId). t.0 < n) new

-- the new list has the trips of the old one and the trip
abbrev pub AddsTrip : TripId → List TripId → List TripId → Type 0
AddsTrip trip = Adds (StayBelow trip) Contains (λ (t : TripId). t ≡ trip)

-- where the ride departs
abbrev pub departure_with : Ride → RideFacts → Departure
departure_with ride facts =
    record { trip = ride.trip; day = ride.day; shift = ride.shift; network = facts.network; from = ride.from; stop = facts.from; at = facts.departure }

-- where the run departs from its call at this place
abbrev pub departure_from : RunOf → Call → ℕ → Departure
departure_from run call from =
    record { trip = run.trip; day = run.day; shift = run.shift; network = trip_network run.feed run.trip; from = from; stop = call.stop; at = record { 0 = departure_of run call } }

-- the departure is a run's, from a call of it where riders may board
pub record IsDeparture (feed : FeedRows) (d : Departure) : Type 0 where
  pub run : IsRun (run_of feed d.trip d.day d.shift)
  pub call : Call
  pub is : slice_get (calls_of feed d.trip) d.from ≡ Some call
  pub pickup : call.pickup ≡ true
  pub made : departure_from (run_of feed d.trip d.day d.shift) call d.from ≡ d

-- the departure is one of the feed, from this stop
abbrev pub IsFromStop : FeedRows → ℕ → Departure → Type 0
IsFromStop feed stop d = IsDeparture feed d × (d.stop.0 ≡ stop)

-- riders may board the run at this stop, which its trip calls at as the call at the position
pub record StopsAt (feed : FeedRows) (stop position : ℕ) (run : Run) : Type 0 where
  pub goes : IsRun (run_of feed run.trip run.day run.shift)
  pub call : Call
  pub is : slice_get (calls_of feed run.trip) position ≡ Some call
  pub pickup : call.pickup ≡ true
  pub at : call.stop.0 ≡ stop

-- it is a position of one of the patterns, at which riders may board each of its runs at this stop
pub record Serves (feed : FeedRows) (patterns : List PatternOf) (stop : ℕ) (serving : Serving) : Type 0 where
  pub pattern : serving.pattern < length patterns
  pub position : serving.position < length (halts_at patterns serving.pattern)
  pub runs : All (StopsAt feed stop serving.position) (runs_at patterns serving.pattern)

-- the run of a ride
abbrev pub run_by : Ride → Run
run_by ride = record { trip = ride.trip; day = ride.day; shift = ride.shift }

-- a run of a pattern, in its feed
abbrev pub run_in : FeedRows → Run → RunOf
run_in feed run = run_of feed run.trip run.day run.shift

-- its trip runs so
abbrev pub IsRunOf : FeedRows → Run → Type 0
IsRunOf feed run = IsRun (run_in feed run)

-- the patterns have runs of the feed alone, and that of each ride that may be caught
pub record HoldsRuns (feed : FeedRows) (sought : Seeking) (patterns : PatternsOf) : Type 0 where
  pub of : patterns.feed ≡ feed
  pub runs : (p : ℕ) → All (IsRunOf feed) (runs_at patterns.patterns p)
  pub all : (ride : Ride) (facts : RideFacts) → IsSpanned feed sought ride facts →
      (p : ℕ) × (p < length patterns.patterns) × Contains (runs_at patterns.patterns p) (run_by ride)

-- the ride is by one of the pattern's runs, and boards it at the position
pub record TakesServing (patterns : List PatternOf) (serving : Serving) (ride : Ride) : Type 0 where
  pub run : Contains (runs_at patterns serving.pattern) (run_by ride)
  pub from : ride.from ≡ serving.position

-- the ride boards at one of the first n of these positions
abbrev pub TakesOneOf : List PatternOf → List Serving → ℕ → Ride → Type 0
TakesOneOf patterns servings n ride =
    (k : ℕ) × (k < n) × (serving : Serving) × (slice_get servings k ≡ Some serving) × TakesServing patterns serving ride

-- riders may board at this stop at each of these positions, and each ride that may be caught there boards at one of them
pub record AreServed (feed : FeedRows) (sought : Seeking) (patterns : List PatternOf) (stop : ℕ)
    (servings : List Serving) : Type 0 where
  pub all : (ride : Ride) (facts : RideFacts) → IsSpanned feed sought ride facts → facts.from.0 ≡ stop →
      TakesOneOf patterns servings (length servings) ride
  pub right : All (Serves feed patterns stop) servings

-- so it is at each stop of the feed, with the positions at which the patterns let riders board there
pub record AreDepartures (feed : FeedRows) (sought : Seeking) (patterns : PatternsOf) : Type 0 where
  pub of : patterns.feed ≡ feed
  pub each : (stop : ℕ) → stop < length feed.stops →
      AreServed feed sought patterns.patterns stop (servings_at (halts_by_pattern patterns.patterns) stop)

-- the departures from the stop at such a position, at the moment or later
pub record AreSince (feed : FeedRows) (patterns : List PatternOf) (serving : Serving) (stop : ℕ) (from : ℤ)
    (departures : List Departure) : Type 0 where
  pub all : (ride : Ride) (facts : RideFacts) → ride_facts feed ride ≡ Some facts → TakesServing patterns serving ride →
      from ≤ℤ facts.departure.0 → Contains departures (departure_with ride facts)
  pub right : All (IsFromStop feed stop) departures
  pub since : All (λ (d : Departure). from ≤ℤ d.at.0) departures

-- a run for where there is none
abbrev pub no_run : Run
no_run = record { trip = record { 0 = 0 }; day = record { 0 = pos 0 }; shift = pos 0 }

-- where one of the runs departs, from this stop, which is at this position
abbrev pub departure_by : FeedRows → StopId → ℕ → Run → Moment → Departure
departure_by feed stop from run at =
    record { trip = run.trip; day = run.day; shift = run.shift; network = trip_network feed run.trip; from = from; stop = stop; at = at }

-- the same of the run that is boarded
abbrev pub departure_at : FeedRows → StopId → ℕ → List Run → Boarding → Departure
departure_at feed stop from runs boarding =
    departure_by feed stop from (slice_index_or runs boarding.run no_run) boarding.at

-- the ride is by this departure
pub record IsBy (feed : FeedRows) (d : Departure) (ride : Ride) : Type 0 where
  pub facts : RideFacts
  pub is : ride_facts feed ride ≡ Some facts
  pub made : departure_with ride facts ≡ d

-- the run of a departure
abbrev pub run_with : Departure → Run
run_with d = record { trip = d.trip; day = d.day; shift = d.shift }

-- the ride by the departure to the call at this place
abbrev pub ride_to : Departure → ℕ → Ride
ride_to d to = record { trip = d.trip; day = d.day; shift = d.shift; from = d.from; to = to }

-- where and when the ride by the departure goes that alights at the call
abbrev pub facts_to : Departure → Call → RideFacts
facts_to d call =
    record { from = d.stop; to = call.stop; network = d.network; departure = d.at; arrival = record { 0 = moment_at d.day.0 (d.shift +ℤ pos call.arrival) } }

-- the same; none where riders may not alight there, or it ends past the window
unfoldable pub facts_in_time : Query → Departure → Call → Option RideFacts
facts_in_time query d call = when (call.drop_off && int_le (facts_to d call).arrival.0 (deadline query)) (facts_to d call)

-- the ride is by this departure, to a call before the n-th
abbrev pub IsByBefore : FeedRows → Departure → ℕ → Ride → Type 0
IsByBefore feed d n ride = IsBy feed d ride × (ride.to < n)

-- the ride is by this departure, to this call
abbrev pub IsByTo : FeedRows → Departure → ℕ → Ride → Type 0
IsByTo feed d to ride = IsBy feed d ride × (ride.to ≡ to)

-- the ride is by one of the first n departures
abbrev pub IsByAmong : FeedRows → List Departure → ℕ → Ride → Type 0
IsByAmong feed departures n ride = (k : ℕ) × (k < n) × (d : Departure) × (slice_get departures k ≡ Some d) × IsBy feed d ride

-- the ride boards at this stop
pub record BoardsAt (feed : FeedRows) (stop : ℕ) (ride : Ride) : Type 0 where
  pub facts : RideFacts
  pub is : ride_facts feed ride ≡ Some facts
  pub at : facts.from.0 ≡ stop

-- the boardings from the n-th on are too late at the stop
pub record AreLateFrom (boardings : List Boarding) (lasts : CutoffOf) (stop n : ℕ) : Type 0 where
  pub within : n ≤ length boardings
  pub late : AllWithin (λ (b : Boarding). is_early lasts stop b.at.0 ≡ false) boardings n (length boardings)

-- the departures from the n-th on are too late at the stop
pub record IsFirstLate (departures : List Departure) (lasts : CutoffOf) (stop n : ℕ) : Type 0 where
  pub within : n ≤ length departures
  pub late : AllWithin (λ (d : Departure). is_early lasts stop d.at.0 ≡ false) departures n (length departures)

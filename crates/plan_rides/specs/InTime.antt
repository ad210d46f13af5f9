-- Rides that are caught and end within a query's window.
use Rattle.std.specs.Prelude.{◌≡◌, ◌≤◌, Option, Some, Contains, List, ℤ, pos, negsuc, ◌+ℤ◌, ◌≤ℤ◌, int_le, option_and_then}
use Rattle.transit_base.specs.Moments.{moment_at}
use Rattle.transit_base.specs.declared.numbers.StopId.{StopId}
use Rattle.feed_rows.specs.declared.journeys.Call.{Call}
use Rattle.feed_rows.specs.declared.journeys.Query.{Query}
use Rattle.feed_rows.specs.declared.journeys.Ride.{Ride}
use Rattle.feed_rows.specs.FeedRows.{FeedRows}
use Rattle.feed_rows.specs.Limits.{most_rides, most_window}
use Rattle.feed_rows.specs.JourneyStands.{Stand, end_arrival, stand_at_end, next_stand}
use Rattle.feed_rows.specs.Rides.{ride_facts}
use Rattle.plain_laws.specs.Plain.{when}
use Rattle.plan_rides.specs.Runs.{RunOf}
use Rattle.plan_rides.specs.declared.caught.CaughtRide.{CaughtRide}

-- the latest moment at which a journey may end
abbrev pub deadline : Query → ℤ
deadline query = query.departure.0 +ℤ pos query.window

-- the stand, where one stands there within the window
abbrev pub if_in_time : Query → Stand → Option Stand
if_in_time query stand = when (int_le stand.at (deadline query)) stand

-- where one stands after the ride; none where it is no ride of the feed, is not caught, or ends past the window
unfoldable pub next_in_time : FeedRows → Query → Stand → Ride → Option Stand
next_in_time feed query stand ride = option_and_then (if_in_time query) (next_stand feed query stand ride)

-- the arrival at the last stop from where one stands after all rides, within the window
unfoldable pub arrival_in_time : FeedRows → Query → Stand → StopId → Option ℤ
arrival_in_time feed query stand last = option_and_then (λ arrival. when (int_le arrival (deadline query)) arrival) (end_arrival feed query stand last)

-- the moment of departure lies in the years 1900 to 3000, and the rides and the window are at most the greatest that a
-- plan may say
pub record IsUsualQuery (query : Query) : Type 0 where
  pub early : negsuc 2_208_988_799 ≤ℤ query.departure.0
  pub late : query.departure.0 ≤ℤ pos 32_504_284_800
  pub rides : query.rides ≤ most_rides
  pub window : query.window ≤ most_window

-- one stands there no earlier than the query's departure and no later than its window ends
pub record IsWithinWindow (query : Query) (at : ℤ) : Type 0 where
  pub since : query.departure.0 ≤ℤ at
  pub until : at ≤ℤ deadline query

-- the ride goes so, and is caught from here in time
pub record IsRight (feed : FeedRows) (query : Query) (stand : Stand) (caught : CaughtRide) : Type 0 where
  pub facts : ride_facts feed caught.ride ≡ Some caught.facts
  pub next : next_in_time feed query stand caught.ride ≡ Some (stand_at_end caught.facts)

-- the list has the ride
abbrev pub HasRide : List CaughtRide → Ride → Type 0
HasRide rides ride = (caught : CaughtRide) × Contains rides caught × (caught.ride ≡ ride)

-- when a run departs from a call
abbrev pub departure_of : RunOf → Call → ℤ
departure_of run call = moment_at run.day.0 (run.shift +ℤ pos call.departure)

-- the list has each ride that is caught from here in time
abbrev pub HasCaught : FeedRows → Query → Stand → List CaughtRide → Type 0
HasCaught feed query stand rides = (ride : Ride) (next : Stand) → next_in_time feed query stand ride ≡ Some next → HasRide rides ride

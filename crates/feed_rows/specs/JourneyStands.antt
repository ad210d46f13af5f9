-- Where and when a traveller stands along a journey's rides. This is what a body carries, and no rule of
-- its own: journeys are defined in `Journeys`, and `JourneyLaws` proves that the two agree.
use Rattle.std.specs.Prelude.{ℕ, Bool, true, false, if◌then◌else◌, List, Option, ℤ, pos, ◌+ℤ◌, option_map, option_and_then}
use Rattle.transit_base.specs.declared.numbers.StopId.{StopId}
use Rattle.feed_rows.specs.declared.journeys.Query.{Query}
use Rattle.feed_rows.specs.declared.journeys.Ride.{Ride}
use Rattle.feed_rows.specs.declared.journeys.RideFacts.{RideFacts}
use Rattle.feed_rows.specs.FeedRows.{FeedRows}
use Rattle.feed_rows.specs.Rides.{ride_facts}
use Rattle.feed_rows.specs.StopLinks.{link}
use Rattle.feed_rows.specs.Journeys.{access, egress, direct, is_caught}
use Rattle.plain_laws.specs.Plain.{after_first, when}

-- where a traveller stands, since when, and whether no ride was taken yet
pub record Stand : Type 0 where
  pub stop : StopId
  pub at : ℤ
  pub fresh : Bool

-- before the first ride one stands at the first stop, at the query's departure
abbrev pub first_stand : Query → StopId → Stand
first_stand query first = record { stop = first; at = query.departure.0; fresh = true }

-- after a ride one stands where it alights, at its arrival
abbrev pub stand_at_end : RideFacts → Stand
stand_at_end ride = record { stop = ride.to; at = ride.arrival.0; fresh = false }

-- the seconds from where one stands to where a ride boards
abbrev pub way_to : FeedRows → Query → Stand → StopId → Option ℕ
way_to feed query stand boarding =
    if stand.fresh then access feed query stand.stop boarding else link feed stand.stop boarding

-- where one stands after the ride with these facts; none where it is not caught
abbrev pub stand_by : FeedRows → Query → Stand → RideFacts → Option Stand
stand_by feed query stand ride = when (is_caught stand.at (way_to feed query stand ride.from) ride) (stand_at_end ride)

-- where one stands after the ride; none where it is no ride of the feed, or is not caught
unfoldable pub next_stand : FeedRows → Query → Stand → Ride → Option Stand
next_stand feed query stand ride = option_and_then (stand_by feed query stand) (ride_facts feed ride)

-- where one stands after the first n rides from this first stop
abbrev pub stand_after : FeedRows → Query → StopId → List Ride → ℕ → Option Stand
stand_after feed query first rides n = after_first (next_stand feed query) (first_stand query first) rides n

-- the seconds from where one stands after all rides to the last stop
abbrev pub way_out : FeedRows → Query → Stand → StopId → Option ℕ
way_out feed query stand last =
    if stand.fresh then direct feed stand.stop last else egress feed query stand.stop last

-- the arrival at the last stop from where one stands after all rides
unfoldable pub end_arrival : FeedRows → Query → Stand → StopId → Option ℤ
end_arrival feed query stand last = option_map (λ s. stand.at +ℤ pos s) (way_out feed query stand last)

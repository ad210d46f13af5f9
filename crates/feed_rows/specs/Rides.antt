-- Rides: trips on a service day, from one call to a later one.
use Rattle.std.specs.Prelude.{ℕ, Bool, ◌&&◌, nat_lt, if◌then◌else◌, slice_get, Option, None, ℤ, pos, ◌+ℤ◌, option_map, option_and_then}
use Rattle.std.specs.List.{list_any}
use Rattle.transit_base.specs.declared.moments.Moment.{Moment}
use Rattle.transit_base.specs.declared.numbers.TripId.{TripId}
use Rattle.transit_base.specs.declared.numbers.NetworkId.{NetworkId}
use Rattle.transit_base.specs.Moments.{moment_at}
use Rattle.feed_rows.specs.declared.journeys.Call.{Call}
use Rattle.feed_rows.specs.declared.journeys.Ride.{Ride}
use Rattle.feed_rows.specs.declared.journeys.RideFacts.{RideFacts}
use Rattle.feed_rows.specs.FeedRows.{FeedRows}
use Rattle.feed_rows.specs.ServiceDays.{is_active}
use Rattle.feed_rows.specs.Calls.{calls_of}
use Rattle.feed_rows.specs.Shifts.{shifts_of}
use Rattle.plain_laws.specs.Plain.{at_and, int_same}

-- the trip's service is active on the day
abbrev pub runs_on : FeedRows → TripId → ℤ → Bool
runs_on feed trip day = at_and feed.trips trip.0 (λ row. is_active feed row.service day)

-- the ride is one of the feed: its trip runs on its day with its shift, and riders may board at the one call and
-- alight at a later one
unfoldable pub is_ride : FeedRows → Ride → Bool
is_ride feed ride =
    runs_on feed ride.trip ride.day.0
    && list_any (int_same ride.shift) (shifts_of feed ride.trip)
    && nat_lt ride.from ride.to
    && at_and (calls_of feed ride.trip) ride.from (λ call. call.pickup)
    && at_and (calls_of feed ride.trip) ride.to (λ call. call.drop_off)

-- the moment that is so many seconds of the service day, shifted as the ride is
abbrev pub moment_of : Ride → ℕ → Moment
moment_of ride seconds = record { 0 = moment_at ride.day.0 (ride.shift +ℤ pos seconds) }

-- the fare network of a trip's route
abbrev pub trip_network : FeedRows → TripId → Option NetworkId
trip_network feed trip =
    option_and_then (λ row. option_and_then (λ route. route.network) (slice_get feed.routes row.route.0)) (slice_get feed.trips trip.0)

-- where and when a ride between two calls goes
abbrev pub facts_between : FeedRows → Ride → Call → Call → RideFacts
facts_between feed ride boarding alighting =
    record {
      from = boarding.stop;
      to = alighting.stop;
      network = trip_network feed ride.trip;
      departure = moment_of ride boarding.departure;
      arrival = moment_of ride alighting.arrival;
    }

-- where and when a ride goes; none where it is no ride of the feed
unfoldable pub ride_facts : FeedRows → Ride → Option RideFacts
ride_facts feed ride =
    if is_ride feed ride
    then option_and_then
    (λ boarding. option_map (facts_between feed ride boarding) (slice_get (calls_of feed ride.trip) ride.to))
    (slice_get (calls_of feed ride.trip) ride.from)
    else None

-- The rides of a feed without faults run on days that have a date, and arrive near these.
use Rattle.std.proofs.Common.{◌≡◌, true, arith, ℤ, pos, negsuc, ◌≤ℤ◌, ◌+ℤ◌, ◌*ℤ◌, ◌*◌}
use Rattle.std.specs.Prelude.{Some}
use Rattle.std.proofs.lemmas.Int.{ints}
use Rattle.transit_base.specs.Dates.{is_dated}
use Rattle.transit_base.specs.Limits.{day_seconds, most_time}
use Rattle.feed_rows.specs.declared.journeys.Ride.{Ride}
use Rattle.feed_rows.specs.declared.journeys.RideFacts.{RideFacts}
use Rattle.feed_rows.specs.FeedRows.{FeedRows}
use Rattle.feed_rows.specs.SoundFeed.{IsSoundFeed}
use Rattle.feed_rows.specs.Rides.{ride_facts}
use Rattle.feed_laws.proofs.ActiveDays.{dated_day}
use Rattle.feed_laws.proofs.RideLaws.{ride_facts_timed}
use Rattle.feed_laws.proofs.SoundTrips.{sound_trip}
use Rattle.ticket_read.specs.Judgement.{IsNearMoment}

-- a ride with facts arrives within 2^50 seconds of 1970
pub near_arrival : (feed : FeedRows) (ride : Ride) (facts : RideFacts) → IsSoundFeed feed → ride_facts feed ride ≡ Some facts → IsNearMoment facts.arrival.0
near_arrival feed ride facts sound e =
    let day = dated_day feed ride facts sound e in
    let timed = ride_facts_timed feed ride facts most_time (sound_trip feed ride.trip sound) e in
    near ride.day.0 facts.departure.0 facts.arrival.0 day.low day.high timed.departs timed.forward timed.arrives
  where
    near : (day departure arrival : ℤ) → negsuc 719_161 ≤ℤ day → day ≤ℤ pos 2_932_896 → (day *ℤ pos day_seconds) ≤ℤ departure → departure ≤ℤ arrival
        → arrival ≤ℤ (day *ℤ pos day_seconds +ℤ pos (2 * most_time)) → IsNearMoment arrival
    near day departure arrival low high departs forward arrives =
        record { low = omega (arith, ints); high = omega (arith, ints) }

-- and its service day has a date
pub dated_ride : (feed : FeedRows) (ride : Ride) (facts : RideFacts) → IsSoundFeed feed → ride_facts feed ride ≡ Some facts → is_dated ride.day.0 ≡ true
dated_ride feed ride facts sound e =
    let day = dated_day feed ride facts sound e in
    dated ride.day.0 day.low day.high
  where
    dated : (day : ℤ) → negsuc 719_161 ≤ℤ day → day ≤ℤ pos 2_932_896 → is_dated day ≡ true
    dated day low high = grind (arith, ints)

-- The rides of a feed without faults are of its trips, and their days and shifts are small.
use Rattle.std.proofs.Common.{◌≡◌, refl, sym, ◌∙◌, ℕ, ◌<◌, true, false, ◌&&◌, nat_lt, length, arith, ℤ, pos, negsuc, ◌≤ℤ◌, ◌<ℤ◌, ◌-ℤ◌}
use Rattle.std.specs.Prelude.{Option, Some, None, slice_get, int_le}
use mathlib.Core.Bool.{true≢false}
use Rattle.std.proofs.lemmas.Bool.Decides.{nat_tests}
use Rattle.std.proofs.lemmas.Int.{ints}
use Rattle.std.proofs.lemmas.Option.{slice_get_within}
use Rattle.feed_rows.specs.Limits.{least_shift, most_shift}
use Rattle.transit_base.specs.Limits.{most_time}
use Rattle.feed_rows.specs.declared.journeys.Ride.{Ride}
use Rattle.feed_rows.specs.declared.journeys.RideFacts.{RideFacts}
use Rattle.feed_rows.specs.FeedRows.{FeedRows}
use Rattle.feed_rows.specs.SoundFeed.{IsSoundFeed}
use Rattle.feed_rows.specs.Rides.{ride_facts}
use Rattle.feed_laws.proofs.ActiveDays.{dated_day}
use Rattle.feed_laws.proofs.CallTimes.{first_departure_most}
use Rattle.feed_laws.proofs.RideLaws.{ride_facts_tells}
use Rattle.plain_laws.proofs.Laws.{filled_and-true}
use Rattle.feed_laws.proofs.ShiftLaws.{is_shift_bounds}
use Rattle.feed_laws.proofs.SoundTrips.{sound_trip}
use Rattle.ticket_explain.specs.LineParts.{is_near}

-- a ride with facts is near
near_ride : (feed : FeedRows) (ride : Ride) (facts : RideFacts) → IsSoundFeed feed → ride_facts feed ride ≡ Some facts → is_near feed ride ≡ true
near_ride feed ride facts sound e =
    let is = ride_facts_tells feed ride facts e in
    let row = filled_and-true (slice_get feed.trips ride.trip.0) _ is.runs in
    let within : ride.trip.0 < length feed.trips = slice_get_within feed.trips ride.trip.0 row.value row.is in
    let day = dated_day feed ride facts sound e in
    let timed = sound_trip feed ride.trip sound in
    let begins = first_departure_most feed ride.trip most_time timed.ends timed.times in
    let bounds = is_shift_bounds feed ride.trip ride.shift most_time (omega arith) timed.runs begins is.shift in
    tests ride.trip.0 (length feed.trips) ride.day.0 ride.shift within day.low day.high bounds.0 bounds.1
  where
    tests : (trip trips : ℕ) (day shift : ℤ) → trip < trips → negsuc 719_161 ≤ℤ day → day ≤ℤ pos 2_932_896 → (pos 0 -ℤ pos most_time) ≤ℤ shift → shift <ℤ pos most_time
        → (nat_lt trip trips && int_le (negsuc 799_999) day && int_le day (pos 3_000_000) && int_le least_shift shift && int_le shift most_shift) ≡ true
    tests trip trips day shift a b c d e =
        let from : negsuc 799_999 ≤ℤ day = omega (arith, ints) in
        let to : day ≤ℤ pos 3_000_000 = omega (arith, ints) in
        let low : least_shift ≤ℤ shift = omega (arith, ints) in
        let high : shift ≤ℤ most_shift = omega (arith, ints) in
        grind (arith, ints, nat_tests)

-- so one that isn't has none
pub far_ride : (feed : FeedRows) (ride : Ride) → IsSoundFeed feed → is_near feed ride ≡ false → None ≡ ride_facts feed ride
far_ride feed ride sound far = step (ride_facts feed ride) refl
  where
    step : (o : Option RideFacts) → ride_facts feed ride ≡ o → None ≡ o
    step None e = refl
    step (Some facts) e = absurd (true≢false (sym (near_ride feed ride facts sound e) ∙ far))

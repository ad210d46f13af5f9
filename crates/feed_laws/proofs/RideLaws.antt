-- Rides: what a ride with facts is, and when it goes.
use Rattle.std.proofs.Common.{◌≡◌, refl, sym, ◌∙◌, subst, ℕ, ◌*◌, ◌<◌, ◌≤◌, Bool, true, false, ◌&&◌, nat_lt, ℤ, pos, ◌+ℤ◌, ◌*ℤ◌, ◌≤ℤ◌, arith}
use Rattle.std.specs.Prelude.{Option, Some, None, slice_get}
use Rattle.std.proofs.lemmas.Bool.{and_parts}
use Rattle.std.proofs.lemmas.Bool.Decides.{nat_tests}
use Rattle.std.proofs.lemmas.Int.{ints}
use Rattle.std.proofs.lemmas.Option.{same_Some, none-some}
use Rattle.transit_base.specs.Limits.{day_seconds}
use Rattle.transit_base.specs.Moments.{moment_at}
use Rattle.feed_rows.specs.declared.journeys.Call.{Call}
use Rattle.feed_rows.specs.declared.journeys.Ride.{Ride}
use Rattle.feed_rows.specs.declared.journeys.RideFacts.{RideFacts}
use Rattle.feed_rows.specs.FeedRows.{FeedRows}
use Rattle.plain_laws.specs.Plain.{at_and}
use Rattle.feed_rows.specs.Calls.{calls_of, first_departure}
use Rattle.feed_rows.specs.Shifts.{is_shift}
use Rattle.feed_rows.specs.Rides.{runs_on, is_ride, facts_between, ride_facts}
use Rattle.feed_rows.specs.TimedTrips.{IsTimedTrip}
use Rattle.feed_laws.proofs.CallTimes.{calls_of_most, calls_of_rise, first_departure_most, first_departure_least}
use Rattle.feed_laws.proofs.ShiftLaws.{list_any-shifts_of, is_shift_leads}

-- what a ride with facts is
pub record IsRideWith (feed : FeedRows) (ride : Ride) (facts : RideFacts) : Type 0 where
  pub runs : runs_on feed ride.trip ride.day.0 ≡ true
  pub shift : is_shift feed ride.trip ride.shift ≡ true
  pub forward : ride.from < ride.to
  pub boarding : Call
  pub alighting : Call
  pub boards : slice_get (calls_of feed ride.trip) ride.from ≡ Some boarding
  pub alights : slice_get (calls_of feed ride.trip) ride.to ≡ Some alighting
  pub pickup : boarding.pickup ≡ true
  pub drop_off : alighting.drop_off ≡ true
  pub facts_are : facts_between feed ride boarding alighting ≡ facts

-- what a ride is, with its shift told without making the list
pub is_ride_by_shift : (feed : FeedRows) (ride : Ride) → is_ride feed ride
    ≡ (runs_on feed ride.trip ride.day.0 && is_shift feed ride.trip ride.shift && nat_lt ride.from ride.to && at_and (calls_of feed ride.trip) ride.from (λ call. call.pickup) && at_and (calls_of feed ride.trip) ride.to (λ call. call.drop_off))
unfolding is_ride
is_ride_by_shift feed ride = rw (list_any-shifts_of feed ride.trip ride.shift) refl

-- the tests of a ride
pub record IsRideTested (feed : FeedRows) (ride : Ride) : Type 0 where
  pub runs : runs_on feed ride.trip ride.day.0 ≡ true
  pub shift : is_shift feed ride.trip ride.shift ≡ true
  pub forward : ride.from < ride.to
  pub pickup : at_and (calls_of feed ride.trip) ride.from (λ call. call.pickup) ≡ true
  pub drop_off : at_and (calls_of feed ride.trip) ride.to (λ call. call.drop_off) ≡ true

pub is_ride_tells : (feed : FeedRows) (ride : Ride) → is_ride feed ride ≡ true → IsRideTested feed ride
unfolding is_ride
is_ride_tells feed ride e =
    let a = and_parts _ _ e in
    let b = and_parts _ _ a.0 in
    let c = and_parts _ _ b.0 in
    let d = and_parts _ _ c.0 in
    record { runs = d.0; shift = sym (list_any-shifts_of feed ride.trip ride.shift) ∙ d.1; forward = less ride.from ride.to c.1; pickup = b.1; drop_off = a.1 }
  where
    less : (m n : ℕ) → nat_lt m n ≡ true → m < n
    less m n e = grind (arith, nat_tests)

pub ride_facts_tells : (feed : FeedRows) (ride : Ride) (facts : RideFacts) → ride_facts feed ride ≡ Some facts → IsRideWith feed ride facts
unfolding ride_facts
ride_facts_tells feed ride facts e = step (is_ride feed ride) refl (slice_get (calls_of feed ride.trip) ride.from) refl (slice_get (calls_of feed ride.trip) ride.to) refl
  where
    step : (t : Bool) → is_ride feed ride ≡ t → (b : Option Call) → slice_get (calls_of feed ride.trip) ride.from ≡ b → (a : Option Call) → slice_get (calls_of feed ride.trip) ride.to ≡ a → IsRideWith feed ride facts
    step false never b boards a alights = absurd (none-some facts (rw never at e))
    step true is None boards a alights = absurd (none-some facts (rw (is, boards) at e))
    step true is (Some boarding) boards None alights = absurd (none-some facts (rw (is, boards, alights) at e))
    step true is (Some boarding) boards (Some alighting) alights =
        let tested = is_ride_tells feed ride is in
        let same : Some (facts_between feed ride boarding alighting) ≡ Some facts = rw (is, boards, alights) at e in
        record {
          runs = tested.runs;
          shift = tested.shift;
          forward = tested.forward;
          boarding = boarding;
          alighting = alighting;
          boards = boards;
          alights = alights;
          pickup = rw boards at tested.pickup;
          drop_off = rw alights at tested.drop_off;
          facts_are = same_Some _ _ same;
        }

-- when a ride goes: it departs on its day or later, arrives no sooner than it departs, and not after twice the greatest
-- time
pub record IsTimedRide (ride : Ride) (facts : RideFacts) (most : ℕ) : Type 0 where
  pub departs : (ride.day.0 *ℤ pos day_seconds) ≤ℤ facts.departure.0
  pub forward : facts.departure.0 ≤ℤ facts.arrival.0
  pub arrives : facts.arrival.0 ≤ℤ (ride.day.0 *ℤ pos day_seconds +ℤ pos (2 * most))

ride_between : (day shift : ℤ) (first boards alights s most : ℕ) → shift +ℤ pos first ≡ pos s → s ≤ most → first ≤ boards → boards ≤ alights → alights ≤ most
    → ((day *ℤ pos day_seconds) ≤ℤ moment_at day (shift +ℤ pos boards)) × (moment_at day (shift +ℤ pos boards) ≤ℤ moment_at day (shift +ℤ pos alights)) × (moment_at day (shift +ℤ pos alights) ≤ℤ (day *ℤ pos day_seconds +ℤ pos (2 * most)))
ride_between day shift first boards alights s most leads by low forward high = (omega (arith, ints), omega (arith, ints), omega (arith, ints))

pub ride_facts_timed : (feed : FeedRows) (ride : Ride) (facts : RideFacts) (most : ℕ) → IsTimedTrip feed ride.trip most → ride_facts feed ride ≡ Some facts → IsTimedRide ride facts most
ride_facts_timed feed ride facts most trip e =
    let is = ride_facts_tells feed ride facts e in
    let begins = first_departure_most feed ride.trip most trip.ends trip.times in
    let leads = is_shift_leads feed ride.trip ride.shift most trip.runs begins is.shift in
    let low = first_departure_least feed ride.trip ride.from is.boarding trip.ends trip.rise is.boards in
    let forward = calls_of_rise feed ride.trip ride.from ride.to is.boarding is.alighting trip.ends trip.rise is.forward is.boards is.alights in
    let high = (calls_of_most feed ride.trip most ride.to is.alighting trip.ends trip.times is.alights).0 in
    let bounds = ride_between ride.day.0 ride.shift (first_departure feed ride.trip) is.boarding.departure is.alighting.arrival leads.0 most leads.1 leads.2 low forward high in
    subst (λ (f : RideFacts). IsTimedRide ride f most) is.facts_are (record { departs = bounds.0; forward = bounds.1; arrives = bounds.2 })

-- The days on which services are active have dates.
use Rattle.std.proofs.Common.{◌≡◌, refl, subst, Bool, true, false, ◌&&◌, ◌==◌, arith, ℤ, pos, negsuc, ◌≤ℤ◌}
use Rattle.std.specs.Prelude.{Some, slice_get, int_le}
use Rattle.std.proofs.lemmas.Bool.{and_parts}
use Rattle.std.proofs.lemmas.Int.{ints}
use Rattle.std.proofs.lemmas.List.Elements.{All-contains}
use Rattle.transit_base.specs.declared.numbers.ServiceId.{ServiceId}
use Rattle.feed_rows.specs.declared.rows.ServiceRow.{ServiceRow}
use Rattle.feed_rows.specs.declared.rows.ExceptionRow.{ExceptionRow}
use Rattle.feed_rows.specs.declared.journeys.Ride.{Ride}
use Rattle.feed_rows.specs.declared.journeys.RideFacts.{RideFacts}
use Rattle.feed_rows.specs.FeedRows.{FeedRows}
use Rattle.feed_rows.specs.SoundFeed.{IsSoundFeed}
use Rattle.feed_rows.specs.SoundTimetable.{IsCalendarDay}
use Rattle.feed_rows.specs.ServiceDays.{covers, is_covered, is_added, is_active}
use Rattle.feed_rows.specs.Rides.{ride_facts}
use Rattle.plain_laws.specs.Plain.{int_same}
use Rattle.plain_laws.proofs.Laws.{list_any_tells, int_same-true, filled_and-true}
use Rattle.feed_laws.proofs.RideLaws.{ride_facts_tells}

-- a day that has a date, as a number
pub record IsDatedDay (day : ℤ) : Type 0 where
  pub low : negsuc 719_161 ≤ℤ day
  pub high : day ≤ℤ pos 2_932_896

dated_added : (feed : FeedRows) (service : ServiceId) (day : ℤ) → IsSoundFeed feed →
    is_added feed service day ≡ true → IsDatedDay day
dated_added feed service day sound e =
    let found =
    list_any_tells (λ (x : ExceptionRow). (x.service.0 == service.0) && int_same x.day.0 day && x.added) feed.exceptions e in
    let parts = and_parts _ _ (and_parts _ _ found.2).0 in
    let same = int_same-true found.0.day.0 day parts.1 in
    let calendar =
    All-contains (λ (x : ExceptionRow). IsCalendarDay x.day) feed.exceptions found.0 sound.exceptions.days found.1 in
    subst IsDatedDay same (record { low = calendar.low; high = calendar.high })

between : (first day last : ℤ) → negsuc 719_161 ≤ℤ first → last ≤ℤ pos 2_932_896 →
    int_le first day ≡ true → int_le day last ≡ true → IsDatedDay day
between first day last low high after before =
    let from : first ≤ℤ day = grind (arith, ints) in
    let to : day ≤ℤ last = grind (arith, ints) in
    record { low = omega (arith, ints); high = omega (arith, ints) }

dated_covered : (feed : FeedRows) (service : ServiceId) (day : ℤ) → IsSoundFeed feed →
    is_covered feed service day ≡ true → IsDatedDay day
dated_covered feed service day sound e =
    let found = list_any_tells (λ (row : ServiceRow). (row.service.0 == service.0) && covers row day) feed.services e in
    let covered = and_parts _ _ (and_parts _ _ found.2).1 in
    let ends = and_parts _ _ covered.0 in
    let first =
    All-contains (λ (row : ServiceRow). IsCalendarDay row.first) feed.services found.0 sound.services.firsts found.1 in
    let last =
    All-contains (λ (row : ServiceRow). IsCalendarDay row.last) feed.services found.0 sound.services.lasts found.1 in
    between found.0.first.0 day found.0.last.0 first.low last.high ends.0 ends.1

-- a service is active on days of the calendar alone
dated_active : (feed : FeedRows) (service : ServiceId) (day : ℤ) → IsSoundFeed feed →
    is_active feed service day ≡ true → IsDatedDay day
unfolding is_active
dated_active feed service day sound e = step (is_added feed service day) refl
  where
    step : (b : Bool) → is_added feed service day ≡ b → IsDatedDay day
    step true added = dated_added feed service day sound added
    step false none = dated_covered feed service day sound (and_parts _ _ (rw none at e)).0

-- so a ride with facts runs on such a day
pub dated_day : (feed : FeedRows) (ride : Ride) (facts : RideFacts) → IsSoundFeed feed →
    ride_facts feed ride ≡ Some facts → IsDatedDay ride.day.0
dated_day feed ride facts sound e =
    let is = ride_facts_tells feed ride facts e in
    let row = filled_and-true (slice_get feed.trips ride.trip.0) _ is.runs in
    dated_active feed row.value.service ride.day.0 sound row.passes

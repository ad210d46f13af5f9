-- What rides of the days there are, as the definitions say it.
use Rattle.std.proofs.Common.{◌≡◌, refl, sym, ◌∙◌, ap, subst, ◌+◌, ◌<◌, Bool, true, length, ℤ, pos, ◌+ℤ◌}
use Rattle.std.specs.Prelude.{slice_get}
use Rattle.std.specs.List.{list_any}
use Rattle.std.proofs.lemmas.Option.{slice_get_within}
use Rattle.transit_base.specs.declared.calendar.Day.{Day}
use Rattle.transit_base.specs.declared.numbers.TripId.{TripId}
use Rattle.feed_rows.specs.declared.journeys.Ride.{Ride}
use Rattle.feed_rows.specs.declared.journeys.RideFacts.{RideFacts}
use Rattle.feed_rows.specs.Calls.{calls_of}
use Rattle.feed_rows.specs.FareGaps.{days_from, some_ride, some_ride_of_run}
use Rattle.feed_rows.specs.FeedRows.{FeedRows}
use Rattle.feed_rows.specs.Rides.{ride_facts, runs_on}
use Rattle.feed_rows.specs.Shifts.{shifts_of}
use Rattle.feed_laws.proofs.RideLaws.{ride_facts_tells}
use Rattle.feed_laws.proofs.ShiftLaws.{Contains_from_found, list_any-shifts_of}
use Rattle.plain_laws.specs.Plain.{filled_and}
use Rattle.plain_laws.proofs.Laws.{any_below_hit, any_below_tells, any_passes, filled_and-true, list_any_tells}
use Rattle.fare_audit.specs.Found.{AuditOf, IsAudited}

-- a trip that runs is one of the feed
pub runs_within : (feed : FeedRows) (trip : TripId) (day : ℤ) → runs_on feed trip day ≡ true → trip.0 < length feed.trips
runs_within feed trip day runs = let row = filled_and-true (slice_get feed.trips trip.0) _ runs in slice_get_within _ trip.0 _ row.is

module _ (audit : AuditOf) (last : ℤ) (many : days_from audit.first last ≡ audit.count) (test : RideFacts → Bool) where
  -- a ride of the days that passes is some ride that does
  pub some_from : (facts : RideFacts) → IsAudited audit facts → test facts ≡ true → some_ride audit.feed audit.first last test ≡ true
  unfolding some_ride some_ride_of_run
  some_from facts is passes =
      let ride = is.ride in
      let r = ride_facts_tells audit.feed ride facts is.is in
      let day : Day = record { 0 = audit.first +ℤ pos is.number } in
      let same : ride.day ≡ day = ap (λ (z : ℤ). let d : Day = record { 0 = z } in d) is.day in
      let here : filled_and (ride_facts audit.feed (record { trip = ride.trip; day = day; shift = ride.shift; from = ride.from; to = ride.to })) test ≡ true =
      ap (λ (d : Day). filled_and (ride_facts audit.feed (record { trip = ride.trip; day = d; shift = ride.shift; from = ride.from; to = ride.to })) test) (sym same)
      ∙ ap (λ o. filled_and o test) is.is ∙ passes in
      any_below_hit _ (days_from audit.first last) is.number (subst (λ n. is.number < n) (sym many) is.within)
      (any_below_hit _ (length audit.feed.trips) ride.trip.0 (runs_within audit.feed ride.trip ride.day.0 r.runs)
      (any_passes _ (shifts_of audit.feed ride.trip) ride.shift
      (Contains_from_found _ ride.shift (list_any-shifts_of audit.feed ride.trip ride.shift ∙ r.shift))
      (any_below_hit _ (length (calls_of audit.feed ride.trip)) ride.to (slice_get_within _ ride.to _ r.alights)
      (any_below_hit _ ride.to ride.from r.forward here))))

  -- and the other way
  pub some_tells : some_ride audit.feed audit.first last test ≡ true → (facts : RideFacts) × IsAudited audit facts × (test facts ≡ true)
  unfolding some_ride some_ride_of_run
  some_tells e =
      let day = any_below_tells _ (days_from audit.first last) e in
      let trip = any_below_tells _ (length audit.feed.trips) day.2 in
      let shift = list_any_tells _ (shifts_of audit.feed (record { 0 = trip.0 })) trip.2 in
      let to = any_below_tells _ (length (calls_of audit.feed (record { 0 = trip.0 }))) shift.2 in
      let from = any_below_tells _ to.0 to.2 in
      let ride : Ride = record { trip = record { 0 = trip.0 }; day = record { 0 = audit.first +ℤ pos day.0 }; shift = shift.0; from = from.0; to = to.0 } in
      let hit = filled_and-true (ride_facts audit.feed ride) test from.2 in
      (hit.value, record { ride = ride; number = day.0; within = subst (λ n. day.0 < n) many day.1; day = refl; is = hit.is }, hit.passes)

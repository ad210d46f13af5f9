-- Time runs forward along the rides of a journey in a sound feed.
use Rattle.std.proofs.Common.{◌≡◌, sym, ◌∙◌, ap, subst, ℕ, zero, suc, ◌<◌, ◌≤◌, ◌⊎◌, inl, inr, List, length, get_or, arith, ℤ, pos, ◌+ℤ◌, ◌≤ℤ◌}
use Rattle.std.specs.Prelude.{Option, Some, None, All, IsTrue, int_le, slice_get, option_map, option_and_then}
use Rattle.std.proofs.lemmas.Bool.{cases_lt}
use Rattle.std.proofs.lemmas.Int.{ints}
use Rattle.std.proofs.lemmas.Option.{same_Some, none-some, slice_get-get_or}
use Rattle.transit_base.specs.Limits.{most_time}
use Rattle.transit_base.specs.declared.numbers.StopId.{StopId}
use Rattle.feed_rows.specs.declared.journeys.Journey.{Journey}
use Rattle.feed_rows.specs.declared.journeys.Query.{Query}
use Rattle.feed_rows.specs.declared.journeys.Ride.{Ride}
use Rattle.feed_rows.specs.FeedRows.{FeedRows}
use Rattle.feed_rows.specs.JourneyStands.{Stand, way_to, way_out, stand_after, end_arrival}
use Rattle.feed_rows.specs.PartialJourneys.{arrives_in_window}
use Rattle.feed_rows.specs.Rides.{ride_facts}
use Rattle.feed_rows.specs.SoundFeed.{IsSoundFeed}
use Rattle.plain_laws.proofs.Laws.{filled_and-true, int_le-true, le-int_le, chain_gives}
use Rattle.feed_laws.proofs.JourneyLaws.{IsStepAt, step_of_course, course_before, IsTravelled}
use Rattle.feed_laws.proofs.RideLaws.{ride_facts_timed}
use Rattle.feed_laws.proofs.SoundTrips.{sound_trip}
use Rattle.round_laws.specs.LabelSteps.{latest}
use Rattle.round_laws.proofs.IntLaws.{as_much, no_more}

-- the stands along the first rides of a journey in a sound feed
module _ (feed : FeedRows) (query : Query) (first : StopId) (rides : List Ride) (sound : IsSoundFeed feed) where
  -- time doesn't run back along a ride
  later_by_ride : (n : ℕ) (stand : Stand) (s : IsStepAt feed query first rides n stand) → s.before.at ≤ℤ stand.at
  later_by_ride n stand s =
      let r = chain_gives (ride_facts feed) (slice_get rides n) s.ride s.is in
      let timed = ride_facts_timed feed r.value s.ride most_time (sound_trip feed r.value.trip sound) r.gives in
      let way =
      filled_and-true (way_to feed query s.before s.ride.from)
      (λ (w : ℕ). int_le (s.before.at +ℤ pos w) s.ride.departure.0) s.caught in
      subst (λ (p : Stand). s.before.at ≤ℤ p.at) s.stands
      (onward s.before.at s.ride.departure.0 s.ride.arrival.0 way.value (int_le-true _ _ way.passes) timed.forward)
    where
      onward : (at departs arrives : ℤ) (way : ℕ) → (at +ℤ pos way) ≤ℤ departs → departs ≤ℤ arrives → at ≤ℤ arrives
      onward at departs arrives way p q = omega (arith, ints, p, q)

  -- nor while one stands
  at_once : (m n : ℕ) (here there : Stand) → m ≡ n → stand_after feed query first rides m ≡ Some here →
      stand_after feed query first rides n ≡ Some there → here.at ≤ℤ there.at
  at_once m n here there same e f =
      subst (λ (p : Stand). here.at ≤ℤ p.at)
      (same_Some _ _ (sym e ∙ ap (stand_after feed query first rides) same ∙ f)) (as_much here.at)

  -- nor along rides
  later_stand : (m n : ℕ) (here there : Stand) → m ≤ n → stand_after feed query first rides m ≡ Some here →
      stand_after feed query first rides n ≡ Some there → here.at ≤ℤ there.at
  later_stand m zero here there le e f = at_once m zero here there (omega (arith, le)) e f
  later_stand m (suc n) here there le e f =
      let s = step_of_course feed query first rides n there f in
      by (λ below. no_more here.at s.before.at there.at (later_stand m n here s.before below e s.stood)
      (later_by_ride n there s)) (cases_lt n m)
    where
      by : (m ≤ n → here.at ≤ℤ there.at) → (n < m) ⊎ (m ≤ n) → here.at ≤ℤ there.at
      by rest (inl last) = at_once m (suc n) here there (omega (arith, le, last)) e f
      by rest (inr below) = rest below

-- nor on the way out
pub later_end : (feed : FeedRows) (query : Query) (stand : Stand) (last : StopId) (arrival : ℤ) →
    end_arrival feed query stand last ≡ Some arrival → stand.at ≤ℤ arrival
unfolding end_arrival
later_end feed query stand last arrival e = by (way_out feed query stand last) e
  where
    later : (x y : ℤ) (s : ℕ) → (x +ℤ pos s) ≡ y → x ≤ℤ y
    later x y s e = omega (arith, ints, e)

    by : (way : Option ℕ) → option_map (λ s. stand.at +ℤ pos s) way ≡ Some arrival → stand.at ≤ℤ arrival
    by None e = absurd (none-some arrival e)
    by (Some s) e = later stand.at arrival s (same_Some _ _ e)

-- so where a journey ends within the window, each of its rides does
pub rides_in_time : (feed : FeedRows) (query : Query) (journey : Journey) (arrival : ℤ) → IsSoundFeed feed →
    IsTravelled feed query journey arrival → All (λ ride. IsTrue (arrives_in_window feed query ride)) journey.rides
rides_in_time feed query journey arrival sound w k d lt =
    let rides = journey.rides in
    let there =
    course_before feed query journey.first rides (suc k) (length rides) w.stand (omega (arith, lt)) w.stands in
    let s = step_of_course feed query journey.first rides k there.0 there.1 in
    let by_last =
    later_stand feed query journey.first rides sound (suc k) (length rides) there.0 w.stand (omega (arith, lt)) there.1
    w.stands in
    let out = later_end feed query w.stand journey.last arrival w.arrives in
    let by_end = no_more there.0.at w.stand.at arrival by_last out in
    let early = no_more there.0.at arrival (latest query) by_end w.in_time in
    let goes : ride_facts feed (get_or rides k d) ≡ Some s.ride =
    sym (ap (option_and_then (ride_facts feed)) (slice_get-get_or rides k d lt)) ∙ s.is in
    rw goes
    (le-int_le s.ride.arrival.0 (latest query) (subst (λ (p : Stand). p.at ≤ℤ latest query) (sym s.stands) early))

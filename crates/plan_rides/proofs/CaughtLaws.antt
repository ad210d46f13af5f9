-- What a ride is that is caught in time.
use Rattle.std.proofs.Common.{◌≡◌, refl, sym, ◌∙◌, ap, subst, ℕ, ◌<◌, ◌⊎◌, inl, inr, Bool, true, false, ◌&&◌, nat_lt, [], length, arith, ℤ, pos, ◌+ℤ◌, ◌≤ℤ◌}
use Rattle.std.specs.Prelude.{◌==◌, if◌then◌else◌, Option, Some, None, slice_get, option_and_then, Contains, int_le}
use Rattle.std.specs.List.{list_any}
use Rattle.std.proofs.lemmas.Int.{ints}
use Rattle.std.proofs.lemmas.Option.{cond_some}
use Rattle.std.proofs.lemmas.Bool.{and_parts}
use Rattle.std.proofs.lemmas.Bool.Decides.{nat_tests}
use Rattle.transit_base.specs.Limits.{most_time}
use Rattle.transit_base.specs.Moments.{moment_at}
use Rattle.transit_base.specs.declared.numbers.StopId.{StopId}
use Rattle.feed_rows.specs.declared.journeys.Call.{Call}
use Rattle.feed_rows.specs.declared.journeys.Query.{Query}
use Rattle.feed_rows.specs.declared.journeys.Ride.{Ride}
use Rattle.feed_rows.specs.declared.journeys.RideFacts.{RideFacts}
use Rattle.feed_rows.specs.FeedRows.{FeedRows}
use Rattle.feed_rows.specs.SoundFeed.{IsSoundFeed}
use Rattle.feed_rows.specs.Calls.{calls_of}
use Rattle.feed_rows.specs.Rides.{is_ride, ride_facts, facts_between}
use Rattle.feed_rows.specs.Shifts.{shifts_of}
use Rattle.feed_rows.specs.StopLinks.{link}
use Rattle.feed_rows.specs.Journeys.{stands_for, access, is_caught}
use Rattle.feed_rows.specs.JourneyStands.{Stand, stand_at_end, way_to, stand_by, next_stand}
use Rattle.feed_walks.specs.OutOf.{out_of, step_list}
use Rattle.feed_walks.specs.declared.steps.Step.{Step}
use Rattle.plain_laws.specs.Plain.{at_and, int_same, when}
use Rattle.plain_laws.proofs.Laws.{filled_and-true, chain_gives, int_le-true, Contains-joined_below, Contains-cons_first}
use Rattle.feed_laws.proofs.RideLaws.{ride_facts_timed}
use Rattle.feed_laws.proofs.ShiftLaws.{found_from_Contains}
use Rattle.feed_laws.proofs.SoundTrips.{sound_trip}
use Rattle.plan_rides.specs.declared.departures.Departure.{Departure}
use Rattle.plan_rides.specs.Boarding.{Seeking, MayBoard}
use Rattle.plan_rides.specs.Scopes.{IsInScope}
use Rattle.plan_rides.specs.Departures.{IsSpanned, IsDeparture, ride_to, facts_to, facts_in_time}
use Rattle.plan_rides.specs.InTime.{next_in_time, if_in_time, deadline, IsWithinWindow}

-- the stop of a number
abbrev pub stop_id : ℕ → StopId
stop_id n = record { 0 = n }

-- a ride that is caught in time, with its facts and the way to it
pub record IsCaughtRide (feed : FeedRows) (query : Query) (stand : Stand) (ride : Ride) (next : Stand) : Type 0 where
  pub facts : RideFacts
  pub is : ride_facts feed ride ≡ Some facts
  pub way : ℕ
  pub way_is : way_to feed query stand facts.from ≡ Some way
  pub catches : (stand.at +ℤ pos way) ≤ℤ facts.departure.0
  pub ends : stand_at_end facts ≡ next
  pub in_time : next.at ≤ℤ deadline query

pub caught_ride : (feed : FeedRows) (query : Query) (stand : Stand) (ride : Ride) (next : Stand) → next_in_time feed query stand ride ≡ Some next → IsCaughtRide feed query stand ride next
unfolding next_in_time next_stand
caught_ride feed query stand ride next e =
    let timed = chain_gives (if_in_time query) (option_and_then (stand_by feed query stand) (ride_facts feed ride)) next e in
    let late = cond_some (int_le timed.value.at (deadline query)) timed.value next timed.gives in
    let by = chain_gives (stand_by feed query stand) (ride_facts feed ride) timed.value timed.is in
    let caught = cond_some (is_caught stand.at (way_to feed query stand by.value.from) by.value) (stand_at_end by.value) timed.value by.gives in
    let way = filled_and-true (way_to feed query stand by.value.from) _ caught.0 in
    record {
      facts = by.value;
      is = by.is;
      way = way.value;
      way_is = way.is;
      catches = int_le-true _ _ way.passes;
      ends = caught.1 ∙ late.1;
      in_time = subst (λ (s : Stand). s.at ≤ℤ deadline query) late.1 (int_le-true _ _ late.0);
    }

-- it is one of the feed, where riders may alight at the call
is_ride_by : (feed : FeedRows) (d : Departure) (to : ℕ) (call : Call) → IsDeparture feed d → d.from < to → slice_get (calls_of feed d.trip) to ≡ Some call → is_ride feed (ride_to d to) ≡ call.drop_off
unfolding is_ride
is_ride_by feed d to call right later is =
    let shift : list_any (int_same d.shift) (shifts_of feed d.trip) ≡ true = found_from_Contains (shifts_of feed d.trip) d.shift right.run.runs_so in
    let forward : nat_lt d.from to ≡ true = test d.from to later in
    let boards : at_and (calls_of feed d.trip) d.from (λ (c : Call). c.pickup) ≡ true = rw right.is right.pickup in
    let alights : at_and (calls_of feed d.trip) to (λ (c : Call). c.drop_off) ≡ call.drop_off = rw is refl in
    rw (right.run.served.runs, shift, forward, boards, alights) refl
  where
    test : (m n : ℕ) → m < n → nat_lt m n ≡ true
    test m n lt = grind (arith, nat_tests)

-- and it goes from the departure to the call
pub facts_by : (feed : FeedRows) (d : Departure) (to : ℕ) (call : Call) → IsDeparture feed d → d.from < to → slice_get (calls_of feed d.trip) to ≡ Some call → ride_facts feed (ride_to d to) ≡ when call.drop_off (facts_to d call)
unfolding ride_facts
facts_by feed d to call right later is = rw (is_ride_by feed d to call right later is, right.is, is) (step call.drop_off)
  where
    same : facts_between feed (ride_to d to) right.call call ≡ facts_to d call
    same = ap (λ (x : Departure). record { from = x.stop; to = call.stop; network = x.network; departure = x.at; arrival = record { 0 = moment_at d.day.0 (d.shift +ℤ pos call.arrival) } }) right.made

    step : (b : Bool) → (if b then Some (facts_between feed (ride_to d to) right.call call) else None) ≡ when b (facts_to d call)
    step true = ap Some same
    step false = refl

-- so it has its facts
pub caught_facts : (feed : FeedRows) (query : Query) (d : Departure) (to : ℕ) (call : Call) (facts : RideFacts) → IsDeparture feed d → d.from < to → slice_get (calls_of feed d.trip) to ≡ Some call →
    facts_in_time query d call ≡ Some facts → ride_facts feed (ride_to d to) ≡ Some facts
unfolding facts_in_time
caught_facts feed query d to call facts right later is goes =
    let got = cond_some (call.drop_off && int_le (facts_to d call).arrival.0 (deadline query)) (facts_to d call) facts goes in
    let parts = and_parts _ _ got.0 in
    let off : call.drop_off ≡ true = parts.0 in
    facts_by feed d to call right later is ∙ rw off (ap Some got.1)

-- where one stands after it is within the window too
pub caught_within : (feed : FeedRows) (query : Query) (stand : Stand) (ride : Ride) (next : Stand) → IsSoundFeed feed → IsWithinWindow query stand.at → next_in_time feed query stand ride ≡ Some next → IsWithinWindow query next.at
caught_within feed query stand ride next sound within e =
    let c = caught_ride feed query stand ride next e in
    let t = ride_facts_timed feed ride c.facts most_time (sound_trip feed ride.trip sound) c.is in
    record { since = subst (λ (s : Stand). query.departure.0 ≤ℤ s.at) c.ends (onward query.departure.0 stand.at c.facts.departure.0 c.facts.arrival.0 c.way within.since c.catches t.forward); until = c.in_time }
  where
    onward : (from at departs arrives : ℤ) (way : ℕ) → from ≤ℤ at → (at +ℤ pos way) ≤ℤ departs → departs ≤ℤ arrives → from ≤ℤ arrives
    onward from at departs arrives way a b c = omega (arith, ints)

-- a ride that is caught may be caught
pub caught_spanned : (feed : FeedRows) (query : Query) (sought : Seeking) (stand : Stand) (ride : Ride) (next : Stand) →
    IsInScope sought.scope query → IsWithinWindow query stand.at → MayBoard feed query sought.marks stand →
    (c : IsCaughtRide feed query stand ride next) → IsSpanned feed sought ride c.facts
caught_spanned feed query sought stand ride next inside within board c = record {
  some = subst (λ n. 0 < n) inside.rides board.some;
  is = c.is;
  boards = board.marked c.facts.from c.way c.way_is;
  since = onward sought.scope.span.from.0 query.departure.0 stand.at c.facts.departure.0 c.way inside.since within.since c.catches;
  until = sooner c.facts.arrival.0 (deadline query) sought.scope.span.until.0
      (subst (λ (s : Stand). s.at ≤ℤ deadline query) (sym c.ends) c.in_time) inside.until;
}
  where
    onward : (begins from at departs : ℤ) (way : ℕ) → begins ≤ℤ from → from ≤ℤ at → (at +ℤ pos way) ≤ℤ departs → begins ≤ℤ departs
    onward begins from at departs way first a b = omega (arith, ints)

    sooner : (at last until : ℤ) → at ≤ℤ last → last ≤ℤ until → at ≤ℤ until
    sooner at last until a b = omega (arith, ints)

-- a way leads along a walk, or nowhere where none leads to itself
pub walk_or_own : (feed : FeedRows) (query : Query) (stand : Stand) (stop : StopId) (way : ℕ) →
    way_to feed query stand stop ≡ Some way →
    ((seconds : ℕ) × (link feed stand.stop stop ≡ Some seconds)) ⊎ ((stop ≡ stand.stop) × (link feed stand.stop stand.stop ≡ None))
walk_or_own feed query stand stop way e = fresh stand.fresh e
  where
    own : (o : Option ℕ) → link feed stand.stop stand.stop ≡ o → stand.stop ≡ stop → ((seconds : ℕ) × (link feed stand.stop stop ≡ Some seconds)) ⊎ ((stop ≡ stand.stop) × (link feed stand.stop stand.stop ≡ None))
    own None is same = inr (sym same, is)
    own (Some seconds) is same = inl (seconds, ap (link feed stand.stop) (sym same) ∙ is)

    first : (b : Bool) → (if b then when (stand.stop.0 == stop.0) 0 else link feed stand.stop stop) ≡ Some way → ((seconds : ℕ) × (link feed stand.stop stop ≡ Some seconds)) ⊎ ((stop ≡ stand.stop) × (link feed stand.stop stand.stop ≡ None))
    first true got = let hit = (cond_some (stand.stop.0 == stop.0) 0 way got).0 in own (link feed stand.stop stand.stop) refl (ap stop_id (told stand.stop.0 stop.0 hit))
      where
        told : (m n : ℕ) → (m == n) ≡ true → m ≡ n
        told m n same = grind (arith, nat_tests)
    first false got = inl (way, got)

    fresh : (b : Bool) → (if b then access feed query stand.stop stop else link feed stand.stop stop) ≡ Some way → ((seconds : ℕ) × (link feed stand.stop stop ≡ Some seconds)) ⊎ ((stop ≡ stand.stop) × (link feed stand.stop stand.stop ≡ None))
    fresh true got = first (stands_for feed query.from stop) got
    fresh false got = inl (way, got)

-- the walks out of a stop have each
pub in_walks : (feed : FeedRows) (from to : StopId) (seconds : ℕ) → to.0 < length feed.stops →
    link feed from to ≡ Some seconds →
    Contains (out_of feed from) (record { to = to; seconds = record { 0 = seconds } })
unfolding out_of
in_walks feed from to seconds lt is =
    let step : Step = record { to = to; seconds = record { 0 = seconds } } in
    Contains-joined_below (length feed.stops) (λ i. step_list (record { 0 = i }) (link feed from (record { 0 = i }))) to.0 step lt (rw is (Contains-cons_first step []))

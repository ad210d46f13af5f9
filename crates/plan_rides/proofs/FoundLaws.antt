-- The rides from a position since a moment, and how lists of them grow.
use Rattle.std.proofs.Common.{◌≡◌, refl, sym, ◌∙◌, ap, subst, ℕ, ◌+◌, ◌<◌, ◌≤◌, ◌⊎◌, inl, inr, ⊎_elim, true, false, ◌&&◌, List, [], ◌∷◌, ◌++◌, length, get_or, arith, ℤ, pos, ◌+ℤ◌, ◌≤ℤ◌, ◌<ℤ◌}
use Rattle.std.specs.Prelude.{Some, None, slice_get, All, Contains, int_le}
use Rattle.std.proofs.lemmas.Int.{ints}
use Rattle.std.proofs.lemmas.Option.{same_Some, none-some, slice_get_within, slice_get-get_or, cond_some}
use Rattle.std.proofs.lemmas.Bool.{cases_lt, and_parts, both_ways}
use Rattle.std.proofs.lemmas.List.Elements.{Contains-append_left, Contains-get_or, Contains-push, Contains-push_cases}
use Rattle.transit_base.specs.declared.numbers.StopId.{StopId}
use Rattle.feed_rows.specs.declared.journeys.Call.{Call}
use Rattle.feed_rows.specs.declared.journeys.Query.{Query}
use Rattle.feed_rows.specs.declared.journeys.Ride.{Ride}
use Rattle.feed_rows.specs.declared.journeys.RideFacts.{RideFacts}
use Rattle.feed_rows.specs.FeedRows.{FeedRows}
use Rattle.feed_rows.specs.Calls.{calls_of}
use Rattle.feed_rows.specs.Rides.{ride_facts}
use Rattle.feed_rows.specs.Journeys.{is_caught}
use Rattle.feed_rows.specs.JourneyStands.{Stand, way_to, next_stand}
use Rattle.plain_laws.specs.Plain.{when}
use Rattle.plain_laws.proofs.AddsLaws.{adds_more, adds_none, adds_same, besides_on}
use Rattle.plain_laws.proofs.Laws.{int_le-true, le-int_le, slice_get-Contains}
use Rattle.feed_laws.proofs.RideLaws.{ride_facts_tells}
use Rattle.plan_rides.specs.declared.caught.CaughtRide.{CaughtRide}
use Rattle.plan_rides.specs.declared.departures.Departure.{Departure}
use Rattle.plan_rides.specs.declared.positions.Reached.{Reached}
use Rattle.plan_rides.specs.Cutoffs.{AreLastDepartures, CutoffOf, IsEarlyRide, is_early}
use Rattle.plan_rides.specs.Departures.{TakesServing, departure_with, AreSince, IsDeparture, IsFirstLate, IsFromStop, IsBy, IsByBefore, IsByTo, IsByAmong, ride_to, facts_to, facts_in_time}
use Rattle.plan_rides.specs.InTime.{HasCaught, HasRide, IsRight, IsWithinWindow, deadline, next_in_time}
use Rattle.plan_rides.specs.Reached.{AddsFound, AddsReached, HoldsFrom, IsAny, IsFound, IsFromReached, IsNoLater, IsReachedFrom, Positioned}
use Rattle.plan_rides.proofs.CaughtLaws.{IsCaughtRide, caught_facts, caught_ride, facts_by, stop_id}
use Rattle.plan_rides.proofs.CutoffLaws.{any_last, caught_parts, early_any, onward}
use Rattle.plan_rides.proofs.DepartureLaws.{taken_stop}

-- no moment is later than itself
itself : (x : ℤ) → x ≤ℤ x
itself x = omega (arith, ints)

module _ (feed : FeedRows) (query : Query) (latest : CutoffOf) (stop : ℕ) (from : ℤ) where
  -- one part after another
  pub found_more : (Part More Whole : Ride → Type 0) (old mid new : List CaughtRide) →
      AddsFound feed query latest stop from Part old mid → AddsFound feed query latest stop from More mid new →
      ((ride : Ride) (facts : RideFacts) → IsEarlyRide feed query latest ride facts → Whole ride → Part ride ⊎ More ride) →
      AddsFound feed query latest stop from Whole old new
  found_more Part More Whole old mid new a b split =
      adds_more (besides_on (IsFound feed query stop from) old mid new) a b
      (λ ride own. ⊎_elim (λ p. inl (own.0, own.1, p)) (λ m. inr (own.0, own.1, m)) (split ride own.0 own.1 own.2))

  -- the same part, said otherwise
  pub found_same : (Part Whole : Ride → Type 0) (old new : List CaughtRide) → AddsFound feed query latest stop from Part old new →
      ((ride : Ride) (facts : RideFacts) → IsEarlyRide feed query latest ride facts → Whole ride → Part ride) →
      AddsFound feed query latest stop from Whole old new
  found_same Part Whole old new a part = adds_same a (λ ride own. (own.0, own.1, part ride own.0 own.1 own.2))

  -- a part of which no ride gets somewhere early enough
  pub found_none : (Whole : Ride → Type 0) (rides : List CaughtRide) →
      ((ride : Ride) (facts : RideFacts) → IsEarlyRide feed query latest ride facts → Whole ride → ⊥) →
      AddsFound feed query latest stop from Whole rides rides
  found_none Whole rides never = adds_none (λ x at. inl at) (λ ride own. never ride own.0 own.1 own.2)

  -- one departure more, from the stop, no earlier than this
  pub found_among : (departures : List Departure) (k : ℕ) (x : Departure) (old mid new : List CaughtRide) →
      k < length departures → (get_or departures k x).stop.0 ≡ stop → from ≤ℤ (get_or departures k x).at.0 →
      AddsFound feed query latest stop from (IsByAmong feed departures k) old mid →
      AddsFound feed query latest (get_or departures k x).stop.0 (get_or departures k x).at.0 (IsBy feed (get_or departures k x)) mid new →
      AddsFound feed query latest stop from (IsByAmong feed departures (k + 1)) old new
  found_among departures k x old mid new lt here since before adds =
      found_more (IsByAmong feed departures k) (IsBy feed (get_or departures k x)) (IsByAmong feed departures (k + 1)) old mid new before
      (record {
        still = adds.still;
        all = adds.all;
        right = λ y at. ⊎_elim inl (λ own. inr (record {
          goes = own.goes;
          boards = own.boards ∙ here;
          since = onward from (get_or departures k x).at.0 y.facts.departure.0 since own.since;
          until = own.until;
        })) (adds.right y at);
      })
      (λ ride facts e among.
      let below = among.1 in
      ⊎_elim (λ lower. inl (among.0, lower, among.2, among.3, among.4))
      (λ upper.
      let same : among.0 ≡ k = omega arith in
      inr (subst (λ d. IsBy feed d ride) (same_Some _ _ (sym among.3 ∙ ap (slice_get departures) same ∙ slice_get-get_or departures k x lt)) among.4))
      (cases_lt among.0 k))

  -- where the departures from one on are too late, those before it are all that get somewhere
  pub found_until : (lasts : CutoffOf) (departures : List Departure) (n k : ℕ) (old new : List CaughtRide) →
      AreLastDepartures feed query latest lasts → All (IsFromStop feed stop) departures → IsFirstLate departures lasts stop n →
      n ≤ k → AddsFound feed query latest stop from (IsByAmong feed departures k) old new →
      AddsFound feed query latest stop from (IsByAmong feed departures (length departures)) old new
  found_until lasts departures n k old new last right first past adds =
      found_same (IsByAmong feed departures k) (IsByAmong feed departures (length departures)) old new adds
      (λ ride facts e among. ⊎_elim
      (λ lt. (among.0, lt, among.2, among.3, among.4))
      (λ le.
      let d = among.2 in
      let is : get_or departures among.0 d ≡ d = same_Some _ _ (sym (slice_get-get_or departures among.0 d among.1) ∙ among.3) in
      let same : departure_with ride facts ≡ d = ap (departure_with ride) (same_Some _ _ (sym e.is ∙ among.4.is)) ∙ among.4.made in
      let at : d.stop.0 ≡ stop = subst (λ (x : Departure). x.stop.0 ≡ stop) is (right among.0 d among.1).1 in
      let boards : facts.from.0 ≡ stop = ap (λ (x : Departure). x.stop.0) same ∙ at in
      let leaves : facts.departure.0 ≡ d.at.0 = ap (λ (x : Departure). x.at.0) same in
      let late : is_early lasts stop d.at.0 ≡ false =
      subst (λ (x : Departure). is_early lasts stop x.at.0 ≡ false) is (first.late among.0 d (omega (arith, past, le)) among.1) in
      let early = last ride facts e.is e.since e.until e.early in
      absurd (both_ways (is_early lasts stop d.at.0) late
      (subst (λ s. is_early lasts s d.at.0 ≡ true) boards (subst (λ z. is_early lasts facts.from.0 z ≡ true) leaves early))))
      (cases_lt among.0 k))

-- ---- the rides by a departure

-- a ride by a departure, to a call, is that one
same_ride : (feed : FeedRows) (d : Departure) (to : ℕ) (ride : Ride) → IsByTo feed d to ride → ride ≡ ride_to d to
same_ride feed d to ride by = ap (λ x. ride_to x ride.to) by.0.made ∙ ap (ride_to d) by.1

module _ (feed : FeedRows) (query : Query) (latest : CutoffOf) (d : Departure) where
  module _ (to : ℕ) (call : Call) (right : IsDeparture feed d) (later : d.from < to)
      (is : slice_get (calls_of feed d.trip) to ≡ Some call) where
    -- where it ends in time, it has these facts, and is found
    found_at : (facts : RideFacts) → facts_in_time query d call ≡ Some facts →
        IsFound feed query d.stop.0 d.at.0 (record { ride = ride_to d to; facts = facts })
    unfolding facts_in_time
    found_at facts goes =
        let got = cond_some (call.drop_off && int_le (facts_to d call).arrival.0 (deadline query)) (facts_to d call) facts goes in
        let parts = and_parts _ _ got.0 in
        record {
          goes = caught_facts feed query d to call facts right later is goes;
          boards = ap (λ (f : RideFacts). f.from.0) (sym got.1);
          since = subst (λ (f : RideFacts). d.at.0 ≤ℤ f.departure.0) got.1 (itself d.at.0);
          until = subst (λ (f : RideFacts). f.arrival.0 ≤ℤ deadline query) got.1 (int_le-true _ _ parts.1);
        }

    -- it is added
    pub found_ride : (ride : Ride) (facts : RideFacts) (old new : List CaughtRide) →
        facts_in_time query d call ≡ Some facts → ride ≡ ride_to d to → new ≡ old ++ record { ride = ride; facts = facts } ∷ [] →
        AddsFound feed query latest d.stop.0 d.at.0 (IsByTo feed d to) old new
    found_ride ride facts old new goes same pushed =
        let caught : CaughtRide = record { ride = ride_to d to; facts = facts } in
        let all : new ≡ old ++ caught ∷ [] = pushed ∙ ap (λ r. old ++ record { ride = r; facts = facts } ∷ []) same in
        subst (AddsFound feed query latest d.stop.0 d.at.0 (IsByTo feed d to) old) (sym all) (record {
          still = λ other h. (h.0, Contains-append_left old (caught ∷ []) h.0 h.1, h.2);
          all = λ other own. (caught, Contains-push old caught, sym (same_ride feed d to other own.2));
          right = λ x at. ⊎_elim inl (λ own. inr (subst (IsFound feed query d.stop.0 d.at.0) own (found_at facts goes)))
              (Contains-push_cases old caught x at);
        })

    -- where it isn't in time, nothing is to be added
    pub found_no_ride : (rides : List CaughtRide) → facts_in_time query d call ≡ None →
        AddsFound feed query latest d.stop.0 d.at.0 (IsByTo feed d to) rides rides
    unfolding facts_in_time
    found_no_ride rides never = found_none feed query latest d.stop.0 d.at.0 (IsByTo feed d to) rides
        (λ ride facts e by.
        let got : when call.drop_off (facts_to d call) ≡ Some facts =
        sym (facts_by feed d to call right later is) ∙ ap (ride_facts feed) (sym (same_ride feed d to ride by)) ∙ e.is in
        let made = cond_some call.drop_off (facts_to d call) facts got in
        let early : int_le (facts_to d call).arrival.0 (deadline query) ≡ true =
        le-int_le _ _ (subst (λ (f : RideFacts). f.arrival.0 ≤ℤ deadline query) (sym made.1) e.until) in
        none-some (facts_to d call) (sym never ∙ rw (made.0, early) refl))

    -- nor where it arrives too late
    pub found_late : (facts : RideFacts) (rides : List CaughtRide) → facts_in_time query d call ≡ Some facts →
        is_early latest facts.to.0 facts.arrival.0 ≡ false →
        AddsFound feed query latest d.stop.0 d.at.0 (IsByTo feed d to) rides rides
    found_late facts rides goes late = found_none feed query latest d.stop.0 d.at.0 (IsByTo feed d to) rides
        (λ ride other e by.
        let same : facts ≡ other =
        same_Some _ _ (sym (found_at facts goes).goes ∙ ap (ride_facts feed) (sym (same_ride feed d to ride by)) ∙ e.is) in
        both_ways (is_early latest facts.to.0 facts.arrival.0) late
        (subst (λ (f : RideFacts). is_early latest f.to.0 f.arrival.0 ≡ true) (sym same) e.early))

  -- none of the rides by it ends before its call
  pub found_first : (n : ℕ) (rides : List CaughtRide) → n ≤ d.from + 1 →
      AddsFound feed query latest d.stop.0 d.at.0 (IsByBefore feed d n) rides rides
  found_first n rides early = found_none feed query latest d.stop.0 d.at.0 (IsByBefore feed d n) rides
      (λ ride facts e by.
      let forward = (ride_facts_tells feed ride facts e.is).forward in
      let from : ride.from ≡ d.from = ap (λ (x : Departure). x.from) by.0.made in
      let below = by.1 in
      omega (arith, forward, from, below, early))

  -- one call more
  pub found_call : (to : ℕ) (old mid new : List CaughtRide) →
      AddsFound feed query latest d.stop.0 d.at.0 (IsByBefore feed d to) old mid →
      AddsFound feed query latest d.stop.0 d.at.0 (IsByTo feed d to) mid new →
      AddsFound feed query latest d.stop.0 d.at.0 (IsByBefore feed d (to + 1)) old new
  found_call to old mid new before adds =
      found_more feed query latest d.stop.0 d.at.0 (IsByBefore feed d to) (IsByTo feed d to) (IsByBefore feed d (to + 1)) old mid new before adds
      (λ ride facts e by. let below = by.1 in ⊎_elim (λ lt. inl (by.0, lt)) (λ ge. inr (by.0, omega arith)) (cases_lt ride.to to))

  -- all calls
  pub found_departure : (n : ℕ) (old new : List CaughtRide) → length (calls_of feed d.trip) ≤ n →
      AddsFound feed query latest d.stop.0 d.at.0 (IsByBefore feed d n) old new →
      AddsFound feed query latest d.stop.0 d.at.0 (IsBy feed d) old new
  found_departure n old new all adds =
      found_same feed query latest d.stop.0 d.at.0 (IsByBefore feed d n) (IsBy feed d) old new adds
      (λ ride facts e by.
      let r = ride_facts_tells feed ride facts e.is in
      let last = slice_get_within (calls_of feed ride.trip) ride.to r.alighting r.alights in
      let here : ride.to < length (calls_of feed d.trip) = subst (λ t. ride.to < length (calls_of feed t)) (ap (λ (x : Departure). x.trip) by.made) last in
      (by, omega (arith, here, all)))

-- ---- the rides from a position

-- all departures
pub found_since : (me : Positioned) (latest : CutoffOf) (reached : Reached) (departures : List Departure)
    (old new : List CaughtRide) →
    AreSince me.feed me.patterns reached.serving reached.stop.0 reached.earliest.0 departures →
    AddsFound me.feed me.query latest reached.stop.0 reached.earliest.0 (IsByAmong me.feed departures (length departures)) old new →
    AddsFound me.feed me.query latest reached.stop.0 reached.earliest.0 (IsFromReached me reached) old new
found_since me latest reached departures old new since adds =
    found_same me.feed me.query latest reached.stop.0 reached.earliest.0 (IsByAmong me.feed departures (length departures))
    (IsFromReached me reached) old new adds
    (λ ride facts e own.
    let has = since.all ride own.facts own.goes own.takes own.since in
    let d = departure_with ride own.facts in
    (has.0, has.1, d, slice_get-get_or departures has.0 d has.1 ∙ ap Some has.2, record { facts = own.facts; is = own.goes; made = refl }))

-- a ride that is found is caught from here, where one gets to its stop by then
pub found_right : (me : Positioned) (stand : Stand) (reached : Reached) (caught : CaughtRide) → IsReachedFrom me stand reached →
    IsFound me.feed me.query reached.stop.0 reached.earliest.0 caught → IsRight me.feed me.query stand caught
unfolding next_in_time next_stand
found_right me stand reached caught is found = record {
  facts = found.goes;
  next = rw (found.goes, catches, in_time) refl;
}
  where
    behind_way : (at way from departs : ℤ) → from ≡ at +ℤ way → from ≤ℤ departs → (at +ℤ way) ≤ℤ departs
    behind_way at way from departs same le = omega (arith, ints)

    way_is : way_to me.feed me.query stand caught.facts.from ≡ Some is.way
    way_is = ap (way_to me.feed me.query stand) (ap stop_id found.boards) ∙ is.way_is

    catches : is_caught stand.at (way_to me.feed me.query stand caught.facts.from) caught.facts ≡ true
    catches = rw way_is (le-int_le (stand.at +ℤ pos is.way) caught.facts.departure.0
        (behind_way stand.at (pos is.way) reached.earliest.0 caught.facts.departure.0 is.at found.since))

    in_time : int_le caught.facts.arrival.0 (deadline me.query) ≡ true
    in_time = le-int_le caught.facts.arrival.0 (deadline me.query) found.until

-- a ride that is caught in time from here and arrives early enough gets somewhere early enough
pub caught_wanted : (feed : FeedRows) (query : Query) (latest : CutoffOf) (stand : Stand) (ride : Ride) (next : Stand) →
    IsWithinWindow query stand.at → is_early latest next.stop.0 next.at ≡ true → (c : IsCaughtRide feed query stand ride next) →
    IsEarlyRide feed query latest ride c.facts
caught_wanted feed query latest stand ride next within early c =
    let parts = caught_parts feed query latest stand ride next within early c in
    record { is = c.is; since = parts.0; until = parts.1; early = parts.2 }

-- where it boards at a position that is reached, it departs no earlier than one is there
from_reached : (me : Positioned) (stand : Stand) (reached : Reached) (ride : Ride) (next : Stand) → IsReachedFrom me stand reached →
    TakesServing me.patterns reached.serving ride → IsCaughtRide me.feed me.query stand ride next → IsFromReached me reached ride
from_reached me stand reached ride next is takes c = record {
  takes = takes;
  facts = c.facts;
  goes = c.is;
  since = met stand.at c.facts.departure.0 reached.earliest.0 c.way is.way c.catches is.at walked;
}
  where
    boards : c.facts.from ≡ reached.stop
    boards = ap stop_id (taken_stop me.feed me.patterns reached.stop.0 reached.serving ride c.facts is.serves takes c.is)

    walked : c.way ≡ is.way
    walked = same_Some _ _ (sym c.way_is ∙ ap (way_to me.feed me.query stand) boards ∙ is.way_is)

    met : (at departs earliest : ℤ) (walk way : ℕ) → (at +ℤ pos walk) ≤ℤ departs → earliest ≡ at +ℤ pos way → walk ≡ way →
        earliest ≤ℤ departs
    met at departs earliest walk way a b same = omega (arith, ints)

-- so it is found there
pub has_found : (me : Positioned) (latest : CutoffOf) (stand : Stand) (reached : Reached) (ride : Ride) (next : Stand)
    (old new : List CaughtRide) → IsWithinWindow me.query stand.at → IsReachedFrom me stand reached →
    next_in_time me.feed me.query stand ride ≡ Some next → is_early latest next.stop.0 next.at ≡ true →
    TakesServing me.patterns reached.serving ride →
    AddsFound me.feed me.query latest reached.stop.0 reached.earliest.0 (IsFromReached me reached) old new → HasRide new ride
has_found me latest stand reached ride next old new within is e early takes adds =
    let c = caught_ride me.feed me.query stand ride next e in
    adds.all ride
    (c.facts, caught_wanted me.feed me.query latest stand ride next within early c, from_reached me stand reached ride next is takes c)

-- ---- all rides that are caught

-- the ride boards at one of the first n positions that are reached
abbrev pub TakesReached : Positioned → List Reached → ℕ → Ride → Type 0
TakesReached me list n ride = (i : ℕ) × (i < n) × (x : Reached) × (slice_get list i ≡ Some x) × TakesServing me.patterns x.serving ride

-- the rides are right, and those are among them that are caught from here and board at one of the first n positions
pub record HasFoundBelow (me : Positioned) (stand : Stand) (list : List Reached) (n : ℕ) (rides : List CaughtRide) : Type 0 where
  pub all : (ride : Ride) (next : Stand) → next_in_time me.feed me.query stand ride ≡ Some next → TakesReached me list n ride → HasRide rides ride
  pub right : (caught : CaughtRide) → Contains rides caught → IsRight me.feed me.query stand caught

pub below_none : (me : Positioned) (stand : Stand) (list : List Reached) → HasFoundBelow me stand list 0 []
below_none me stand list = record {
  all = λ ride next e takes. let below = takes.1 in absurd (omega (arith, below));
  right = λ x at. let lt = at.1 in absurd (omega (arith, lt));
}

pub below_more : (me : Positioned) (any : CutoffOf) (stand : Stand) (list : List Reached) (k : ℕ) (x : Reached) (old new : List CaughtRide) →
    length any.spans ≡ 0 → IsWithinWindow me.query stand.at → slice_get list k ≡ Some x → IsReachedFrom me stand x → HasFoundBelow me stand list k old →
    AddsFound me.feed me.query any x.stop.0 x.earliest.0 (IsFromReached me x) old new → HasFoundBelow me stand list (k + 1) new
below_more me any stand list k x old new none within at is before adds = record {
  all = λ ride next e takes.
      let below = takes.1 in
      ⊎_elim
      (λ lower. adds.still ride (before.all ride next e (takes.0, lower, takes.2, takes.3, takes.4)))
      (λ upper.
      let same : takes.0 ≡ k = omega (arith, below, upper) in
      has_found me any stand x ride next old new within is e (early_any any next.stop.0 next.at none)
      (subst (λ (y : Reached). TakesServing me.patterns y.serving ride) (same_Some _ _ (sym takes.3 ∙ ap (slice_get list) same ∙ at)) takes.4)
      adds)
      (cases_lt takes.0 k);
  right = λ caught at. ⊎_elim (λ had. before.right caught had) (λ own. found_right me stand x caught is own) (adds.right caught at);
}

-- at all of them each boards that is caught
pub all_caught : (me : Positioned) (any : CutoffOf) (stand : Stand) (number n : ℕ) (list : List Reached) (rides : List CaughtRide) →
    length any.spans ≡ 0 → AddsReached me any stand number IsAny [] list → length list ≤ n → HasFoundBelow me stand list n rides →
    HasCaught me.feed me.query stand rides
all_caught me any stand number n list rides none reach whole found ride next e =
    let is = reach.all any (any_last me.feed me.query any any none) ride next e (early_any any next.stop.0 next.at none) tt in
    let at = slice_get-Contains list is.0 is.1 in
    let lt = slice_get_within list at.0 is.0 at.1 in
    found.all ride next e (at.0, omega (arith, lt, whole), is.0, at.1, is.3)

-- and all are right
pub all_right : (me : Positioned) (stand : Stand) (n : ℕ) (list : List Reached) (rides : List CaughtRide) →
    HasFoundBelow me stand list n rides → All (IsRight me.feed me.query stand) rides
all_right me stand n list rides found k x lt = found.right (get_or rides k x) (Contains-get_or rides k x lt)

-- ---- rides that are kept

-- those that were found
pub holds_found : (me : Positioned) (latest : CutoffOf) (reached : Reached) (rides : List CaughtRide) →
    AddsFound me.feed me.query latest reached.stop.0 reached.earliest.0 (IsFromReached me reached) [] rides →
    HoldsFrom me latest reached rides
holds_found me latest reached rides adds = record {
  all = λ ride facts e from. adds.all ride (facts, e, from);
  right = λ caught at. ⊎_elim (λ none. let lt = none.1 in absurd (omega (arith, lt)))
      (λ own. record { goes = own.goes; boards = own.boards; since = itself caught.facts.departure.0; until = own.until })
      (adds.right caught at);
}

-- they serve for those who get there later
pub holds_later : (me : Positioned) (latest : CutoffOf) (one other : Reached) (rides : List CaughtRide) →
    IsNoLater one other → HoldsFrom me latest one rides → HoldsFrom me latest other rides
holds_later me latest one other rides no_later holds = record {
  all = λ ride facts e from. holds.all ride facts e (record {
    takes = subst (λ s. TakesServing me.patterns s ride) (sym no_later.serving) from.takes;
    facts = from.facts;
    goes = from.goes;
    since = onward one.earliest.0 other.earliest.0 from.facts.departure.0 no_later.early from.since;
  });
  right = λ caught at.
      let found = holds.right caught at in
      record {
        goes = found.goes;
        boards = found.boards ∙ ap (λ (s : StopId). s.0) no_later.stop;
        since = found.since;
        until = found.until;
      };
}

module _ (me : Positioned) (latest : CutoffOf) (stand : Stand) (reached : Reached) (rides : List CaughtRide)
    (is : IsReachedFrom me stand reached) (holds : HoldsFrom me latest reached rides) where
  -- of them each is caught from here that departs no earlier than one gets there
  pub kept_right : (caught : CaughtRide) → Contains rides caught → reached.earliest.0 ≤ℤ caught.facts.departure.0 →
      IsRight me.feed me.query stand caught
  kept_right caught at since =
      let found = holds.right caught at in
      found_right me stand reached caught is
      (record { goes = found.goes; boards = found.boards; since = since; until = found.until })

  -- and none that departs earlier
  pub kept_never : (caught : CaughtRide) (next : Stand) → Contains rides caught → caught.facts.departure.0 <ℤ reached.earliest.0 →
      next_in_time me.feed me.query stand caught.ride ≡ Some next → ⊥
  kept_never caught next at before e =
      never stand.at c.facts.departure.0 caught.facts.departure.0 reached.earliest.0 c.way is.way c.catches is.at walked
      (ap (λ (f : RideFacts). f.departure.0) same) before
    where
      found : IsFound me.feed me.query reached.stop.0 caught.facts.departure.0 caught
      found = holds.right caught at

      c : IsCaughtRide me.feed me.query stand caught.ride next
      c = caught_ride me.feed me.query stand caught.ride next e

      same : c.facts ≡ caught.facts
      same = same_Some _ _ (sym c.is ∙ found.goes)

      boards : c.facts.from ≡ reached.stop
      boards = ap (λ (f : RideFacts). f.from) same ∙ ap stop_id found.boards

      walked : c.way ≡ is.way
      walked = same_Some _ _ (sym c.way_is ∙ ap (way_to me.feed me.query stand) boards ∙ is.way_is)

      never : (from departs other earliest : ℤ) (walk way : ℕ) → (from +ℤ pos walk) ≤ℤ departs → earliest ≡ from +ℤ pos way →
          walk ≡ way → departs ≡ other → other <ℤ earliest → ⊥
      never from departs other earliest walk way a b same_way same_time lt = omega (arith, ints)

  -- each that is caught from here and boards there is among them
  pub has_kept : (ride : Ride) (next : Stand) → IsWithinWindow me.query stand.at →
      next_in_time me.feed me.query stand ride ≡ Some next → is_early latest next.stop.0 next.at ≡ true →
      TakesServing me.patterns reached.serving ride → HasRide rides ride
  has_kept ride next within e early takes =
      holds.all ride c.facts (caught_wanted me.feed me.query latest stand ride next within early c)
      (from_reached me stand reached ride next is takes c)
    where
      c : IsCaughtRide me.feed me.query stand ride next
      c = caught_ride me.feed me.query stand ride next e

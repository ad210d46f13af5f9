-- The moments between which the rides depart that board at a position.
use Rattle.std.proofs.Common.{◌≡◌, refl, sym, ◌∙◌, ap, subst, ℕ, ◌+◌, ◌-◌, ◌<◌, ◌≤◌, ◌⊎◌, inl, inr, ⊎_elim, true, false, List, [], ◌∷◌, ◌++◌, length, get_or, arith, ℤ, pos, ◌+ℤ◌, ◌≤ℤ◌}
use Rattle.std.specs.Prelude.{Some, slice_get, unwrap_or, All, int_le}
use Rattle.std.proofs.lemmas.Int.{ints}
use Rattle.std.proofs.lemmas.Bool.{and_from, both_ways, cases_lt}
use Rattle.std.proofs.lemmas.List.{get_or_default, length_push}
use Rattle.std.proofs.lemmas.List.Elements.{All-append, All-cons, All-nil}
use Rattle.std.proofs.lemmas.Option.{same_Some, slice_get_past, slice_get-get_or}
use Rattle.transit_base.specs.declared.moments.Moment.{Moment}
use Rattle.transit_base.specs.declared.numbers.StopId.{StopId}
use Rattle.feed_rows.specs.declared.journeys.Query.{Query}
use Rattle.feed_rows.specs.declared.journeys.Ride.{Ride}
use Rattle.feed_rows.specs.declared.journeys.RideFacts.{RideFacts}
use Rattle.feed_rows.specs.FeedRows.{FeedRows}
use Rattle.feed_rows.specs.JourneyStands.{Stand, way_to}
use Rattle.feed_rows.specs.Rides.{ride_facts}
use Rattle.feed_rows.specs.SoundFeed.{IsSoundFeed}
use Rattle.plain_laws.proofs.Laws.{le-int_le, slice_get-push_before, slice_get-push_last}
use Rattle.plan_patterns.specs.declared.pattern.Boarding.{Boarding}
use Rattle.plan_patterns.specs.declared.serving.Serving.{Serving}
use Rattle.plan_patterns.specs.declared.span.Span.{Span}
use Rattle.plan_patterns.specs.Columns.{AreBoardable}
use Rattle.plan_patterns.specs.Grouping.{PatternOf, PatternsOf, runs_at}
use Rattle.plan_patterns.specs.Servings.{list_at}
use Rattle.plan_rides.specs.declared.servings.TimedServing.{TimedServing}
use Rattle.plan_rides.specs.Boarding.{Seeking}
use Rattle.plan_rides.specs.Cutoffs.{AreLastDepartures, CutoffOf, is_early}
use Rattle.plan_rides.specs.Departures.{AreServed, BoardsAt, Serves, TakesOneOf, TakesServing}
use Rattle.plan_rides.specs.InTime.{IsWithinWindow, deadline, next_in_time}
use Rattle.plan_rides.specs.Served.{AddsTimed, AreTimed, AreTimedStops, IsTimed, TakesTimed, is_open}
use Rattle.plan_rides.proofs.CaughtLaws.{IsCaughtRide, caught_ride}
use Rattle.plan_rides.proofs.DepartureLaws.{boarding_for, ride_stop, taken_stop, takes_more}
use Rattle.plan_rides.proofs.CutoffLaws.{caught_parts, earlier_early, onward}

-- the stop of a number
abbrev stop_id : ℕ → StopId
stop_id n = record { 0 = n }

-- ---- the positions of a stop

-- a position that is listed is among more
timed_still : (patterns : List PatternOf) (old : List TimedServing) (timed : TimedServing) (ride : Ride) →
    TakesTimed patterns old (length old) ride →
    TakesTimed patterns (old ++ timed ∷ []) (length (old ++ timed ∷ [])) ride
timed_still patterns old timed ride takes =
    let lt = takes.1 in
    let long = length_push old timed in
    (takes.0, omega (arith, lt, long), takes.2, slice_get-push_before old timed takes.0 lt ∙ takes.3, takes.4)

-- one of which no run departs since the span begins needn't be listed
pub timed_past : (feed : FeedRows) (span : Span) (patterns : List PatternOf) (stop : ℕ) (serving : Serving)
    (listed : List Boarding) (served : List TimedServing) → length listed ≡ 0 →
    AreBoardable feed (runs_at patterns serving.pattern) serving.position span.from.0 listed →
    AddsTimed feed span patterns stop serving served served
timed_past feed span patterns stop serving listed served none are = record {
  still = λ ride takes. takes;
  all = λ ride by.
      let found = boarding_for feed patterns serving ride by.facts listed span.from.0 are by.is by.takes by.since in
      let lt = found.1.1 in
      absurd (omega (arith, lt, none));
  right = λ right. right;
}

-- one that is listed with its first and its last departure
pub timed_more : (feed : FeedRows) (span : Span) (patterns : List PatternOf) (stop : ℕ) (serving : Serving)
    (listed : List Boarding) (x : Boarding) (timed : TimedServing) (old : List TimedServing) → timed.serving ≡ serving →
    timed.first ≡ (get_or listed 0 x).at → timed.last ≡ (get_or listed (length listed - 1) x).at →
    Serves feed patterns stop serving →
    AreBoardable feed (runs_at patterns serving.pattern) serving.position span.from.0 listed →
    AddsTimed feed span patterns stop serving old (old ++ timed ∷ [])
timed_more feed span patterns stop serving listed x timed old is first last serves are = record {
  still = λ ride takes. timed_still patterns old timed ride takes;
  all = λ ride by.
      let long = length_push old timed in (
        length old,
        omega (arith, long),
        timed,
        slice_get-push_last old timed (length old) refl,
        subst (λ s. TakesServing patterns s ride) (sym is) by.takes,
      );
  right = λ right. All-append (IsTimed feed span patterns stop) old (timed ∷ []) right
      (All-cons (IsTimed feed span patterns stop) timed [] here (All-nil (IsTimed feed span patterns stop)));
}
  where
    ordered : (i j : ℕ) → i ≤ j → j < length listed → (get_or listed i x).at.0 ≤ℤ (get_or listed j x).at.0
    ordered i j le lt = ⊎_elim
        (λ (before : i < j). are.rises i j x before lt)
        (λ (past : j ≤ i).
        let same : i ≡ j = omega (arith, le, past) in
        subst (λ n. (get_or listed i x).at.0 ≤ℤ (get_or listed n x).at.0) same (omega (arith, ints)))
        (cases_lt i j)

    here : IsTimed feed span patterns stop timed
    here = record {
      serves = subst (Serves feed patterns stop) (sym is) serves;
      bounds = λ ride facts goes takes since.
          let found = boarding_for feed patterns serving ride facts listed span.from.0 are goes
          (subst (λ s. TakesServing patterns s ride) is takes) since in
          let i = found.1.0 in
          let lt = found.1.1 in
          let there : (get_or listed i x).at.0 ≡ facts.departure.0 =
          ap (λ (b : Boarding). b.at.0) (get_or_default listed i x found.0 lt ∙ found.1.2) ∙ ap (λ (m : Moment). m.0)
          found.2 in (
            subst (λ (m : Moment). m.0 ≤ℤ facts.departure.0) (sym first)
                (subst (λ z. (get_or listed 0 x).at.0 ≤ℤ z) there (ordered 0 i (omega arith) lt)),
            subst (λ (m : Moment). facts.departure.0 ≤ℤ m.0) (sym last)
                (subst (λ z. z ≤ℤ (get_or listed (length listed - 1) x).at.0) there
                (ordered i (length listed - 1) (omega (arith, lt)) (omega (arith, lt)))),
          );
    }

-- of the first n positions that serve a stop, those at which a ride boards since the span begins are listed
pub record ListsTimed (feed : FeedRows) (span : Span) (patterns : List PatternOf) (stop : ℕ) (servings : List Serving)
    (n : ℕ) (served : List TimedServing) : Type 0 where
  pub all : (ride : Ride) (facts : RideFacts) → ride_facts feed ride ≡ Some facts →
      span.from.0 ≤ℤ facts.departure.0 → TakesOneOf patterns servings n ride →
      TakesTimed patterns served (length served) ride
  pub right : All (IsTimed feed span patterns stop) served

pub lists_none : (feed : FeedRows) (span : Span) (patterns : List PatternOf) (stop : ℕ) (servings : List Serving) →
    ListsTimed feed span patterns stop servings 0 []
lists_none feed span patterns stop servings = record {
  all = λ ride facts is since takes. let below = takes.1 in absurd (omega (arith, below));
  right = All-nil (IsTimed feed span patterns stop);
}

pub lists_more : (feed : FeedRows) (span : Span) (patterns : List PatternOf) (stop : ℕ) (servings : List Serving)
    (k : ℕ) (x : Serving) (old new : List TimedServing) → k < length servings →
    ListsTimed feed span patterns stop servings k old →
    AddsTimed feed span patterns stop (get_or servings k x) old new →
    ListsTimed feed span patterns stop servings (k + 1) new
lists_more feed span patterns stop servings k x old new lt before adds = record {
  all = λ ride facts is since takes. ⊎_elim
      (λ lower. adds.still ride (before.all ride facts is since lower))
      (λ here. adds.all ride (record { facts = facts; is = is; since = since; takes = here }))
      (takes_more patterns servings k x ride lt takes);
  right = adds.right before.right;
}

-- so all are that may be caught
pub are_timed : (feed : FeedRows) (sought : Seeking) (patterns : List PatternOf) (stop n : ℕ) (servings : List Serving)
    (served : List TimedServing) → AreServed feed sought patterns stop servings → length servings ≤ n →
    ListsTimed feed sought.scope.span patterns stop servings n served → AreTimed feed sought patterns stop served
are_timed feed sought patterns stop n servings served are whole lists = record {
  all = λ ride facts e from.
      let takes = are.all ride facts e from in
      let lt = takes.1 in
      lists.all ride facts e.is e.since (takes.0, omega (arith, lt, whole), takes.2, takes.3, takes.4);
  right = lists.right;
}

-- ---- all stops

-- the positions of each of the first n stops
abbrev pub AreTimedBelow : FeedRows → Seeking → List PatternOf → ℕ → List (List TimedServing) → Type 0
AreTimedBelow feed sought patterns n by_stop =
    (stop : ℕ) → stop < n → AreTimed feed sought patterns stop (list_at by_stop stop)

-- with those of one more
pub stops_more : (feed : FeedRows) (sought : Seeking) (patterns : List PatternOf) (n : ℕ)
    (by_stop : List (List TimedServing)) (served : List TimedServing) → length by_stop ≡ n →
    AreTimed feed sought patterns n served → AreTimedBelow feed sought patterns n by_stop →
    AreTimedBelow feed sought patterns (n + 1) (by_stop ++ served ∷ [])
stops_more feed sought patterns n by_stop served many here before stop below = ⊎_elim
    (λ lt. subst (λ o. AreTimed feed sought patterns stop (unwrap_or o []))
    (sym (slice_get-push_before by_stop served stop (subst (λ m. stop < m) (sym many) lt))) (before stop lt))
    (λ le.
    let same : stop ≡ n = omega (arith, le, below) in
    subst (λ o. AreTimed feed sought patterns stop (unwrap_or o []))
    (sym (slice_get-push_last by_stop served stop (same ∙ sym many)))
    (subst (λ s. AreTimed feed sought patterns s served) (sym same) here))
    (cases_lt stop n)

-- past the last stop no ride boards
pub stops_all : (feed : FeedRows) (sought : Seeking) (patterns : PatternsOf) (n : ℕ)
    (by_stop : List (List TimedServing)) → IsSoundFeed feed → patterns.feed ≡ feed → length feed.stops ≤ n →
    length by_stop ≡ n → AreTimedBelow feed sought patterns.patterns n by_stop →
    AreTimedStops feed sought patterns by_stop
stops_all feed sought patterns n by_stop sound of whole many each = record {
  of = of;
  each = λ stop. ⊎_elim
      (λ lt. each stop lt)
      (λ past. subst (λ o. AreTimed feed sought patterns.patterns stop (unwrap_or o []))
      (sym (slice_get_past by_stop stop (omega (arith, past, many))))
      (record {
        all = λ ride facts e from.
            let lt = ride_stop feed ride facts sound e.is in
            absurd (omega (arith, lt, from, past, whole));
        right = All-nil (IsTimed feed sought.scope.span patterns.patterns stop);
      }))
      (cases_lt stop n);
}

-- ---- rides that are caught at a stop

-- one position more
pub timed_step : (patterns : List PatternOf) (served : List TimedServing) (k : ℕ) (x : TimedServing) (ride : Ride) →
    k < length served → TakesTimed patterns served (k + 1) ride →
    TakesTimed patterns served k ride ⊎ TakesServing patterns (get_or served k x).serving ride
timed_step patterns served k x ride lt takes =
    let below = takes.1 in
    ⊎_elim (λ lower. inl (takes.0, lower, takes.2, takes.3, takes.4))
    (λ upper.
    let same : takes.0 ≡ k = omega (arith, below, upper) in
    inr (subst (λ (t : TimedServing). TakesServing patterns t.serving ride)
    (same_Some _ _ (sym takes.3 ∙ ap (slice_get served) same ∙ slice_get-get_or served k x lt)) takes.4))
    (cases_lt takes.0 k)

-- no ride is caught at a position from which the last run has left, or the first departs too late
pub never_closed : (feed : FeedRows) (query : Query) (span : Span) (latest lasts : CutoffOf) (stand : Stand) (stop : StopId)
    (way : ℕ) (earliest : ℤ) (patterns : List PatternOf) (timed : TimedServing) (ride : Ride) (next : Stand) →
    span.from.0 ≤ℤ query.departure.0 → IsWithinWindow query stand.at → AreLastDepartures feed query latest lasts →
    way_to feed query stand stop ≡ Some way → earliest ≡ stand.at +ℤ pos way →
    IsTimed feed span patterns stop.0 timed → is_open timed earliest lasts stop.0 ≡ false →
    next_in_time feed query stand ride ≡ Some next → is_early latest next.stop.0 next.at ≡ true →
    TakesServing patterns timed.serving ride → ⊥
never_closed feed query span latest lasts stand stop way earliest patterns timed ride next begins within last way_is at is closed e
    early
    takes =
    both_ways (is_open timed earliest lasts stop.0) closed
    (and_from (int_le earliest timed.last.0) (is_early lasts stop.0 timed.first.0)
    (le-int_le earliest timed.last.0 (met stand.at c.facts.departure.0 timed.last.0 c.way c.catches walked bounds.1 at))
    (earlier_early lasts stop.0 timed.first.0 c.facts.departure.0 bounds.0
    (subst (λ n. is_early lasts n c.facts.departure.0 ≡ true) boards
    (last ride c.facts c.is parts.0 parts.1 parts.2))))
  where
    c : IsCaughtRide feed query stand ride next
    c = caught_ride feed query stand ride next e

    parts : (query.departure.0 ≤ℤ c.facts.departure.0) × (c.facts.arrival.0 ≤ℤ deadline query)
        × (is_early latest c.facts.to.0 c.facts.arrival.0 ≡ true)
    parts = caught_parts feed query latest stand ride next within early c

    bounds : (timed.first.0 ≤ℤ c.facts.departure.0) × (c.facts.departure.0 ≤ℤ timed.last.0)
    bounds = is.bounds ride c.facts c.is takes (onward span.from.0 query.departure.0 c.facts.departure.0 begins parts.0)

    boards : c.facts.from.0 ≡ stop.0
    boards = taken_stop feed patterns stop.0 timed.serving ride c.facts is.serves takes c.is

    walked : c.way ≡ way
    walked = same_Some _ _ (sym c.way_is ∙ ap (way_to feed query stand) (ap stop_id boards) ∙ way_is)

    met : (from departs until : ℤ) (walk : ℕ) → (from +ℤ pos walk) ≤ℤ departs → walk ≡ way → departs ≤ℤ until →
        earliest ≡ from +ℤ pos way → earliest ≤ℤ until
    met from departs until walk a b d same = omega (arith, ints)

-- nor at a stop at which one is too late
pub never_late : (feed : FeedRows) (query : Query) (latest lasts : CutoffOf) (stand : Stand) (stop : StopId) (way : ℕ)
    (earliest : ℤ) (ride : Ride) (next : Stand) → IsWithinWindow query stand.at → AreLastDepartures feed query latest lasts →
    way_to feed query stand stop ≡ Some way → earliest ≡ stand.at +ℤ pos way → is_early lasts stop.0 earliest ≡ false →
    next_in_time feed query stand ride ≡ Some next → is_early latest next.stop.0 next.at ≡ true → BoardsAt feed stop.0 ride → ⊥
never_late feed query latest lasts stand stop way earliest ride next within last way_is at late e early boards =
    both_ways (is_early lasts stop.0 earliest) late
    (earlier_early lasts stop.0 earliest c.facts.departure.0 (met stand.at c.facts.departure.0 c.way c.catches walked at)
    (subst (λ n. is_early lasts n c.facts.departure.0 ≡ true) from (last ride c.facts c.is parts.0 parts.1 parts.2)))
  where
    c : IsCaughtRide feed query stand ride next
    c = caught_ride feed query stand ride next e

    parts : (query.departure.0 ≤ℤ c.facts.departure.0) × (c.facts.arrival.0 ≤ℤ deadline query)
        × (is_early latest c.facts.to.0 c.facts.arrival.0 ≡ true)
    parts = caught_parts feed query latest stand ride next within early c

    from : c.facts.from.0 ≡ stop.0
    from = ap (λ (f : RideFacts). f.from.0) (same_Some _ _ (sym c.is ∙ boards.is)) ∙ boards.at

    walked : c.way ≡ way
    walked = same_Some _ _ (sym c.way_is ∙ ap (way_to feed query stand) (ap stop_id from) ∙ way_is)

    met : (begins departs : ℤ) (walk : ℕ) → (begins +ℤ pos walk) ≤ℤ departs → walk ≡ way → earliest ≡ begins +ℤ pos way →
        earliest ≤ℤ departs
    met begins departs walk a b same = omega (arith, ints)

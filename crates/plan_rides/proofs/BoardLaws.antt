-- How the spans from where rides board are found trip by trip.
use Rattle.std.proofs.Common.{◌≡◌, refl, sym, ◌∙◌, ap, subst, ℕ, ◌+◌, ◌-◌, ◌<◌, ◌≤◌, ◌⊎◌, inl, inr, ⊎_elim, true, false, set, List, length, get_or, arith, ℤ, pos, ◌+ℤ◌, ◌-ℤ◌, ◌*ℤ◌, ◌≤ℤ◌}
use Rattle.std.specs.Prelude.{Option, Some, None, slice_get, unwrap_or, Contains}
use Rattle.std.proofs.lemmas.Int.{ints}
use Rattle.std.proofs.lemmas.Bool.{cases_eq, cases_lt}
use Rattle.std.proofs.lemmas.List.{get_or-set_other, get_or-set_same, length-set}
use Rattle.std.proofs.lemmas.Option.{same_Some, slice_get_within, slice_get-get_or, unwrap_or-slice_get}
use Rattle.transit_base.specs.Limits.{day_seconds, most_time}
use Rattle.transit_base.specs.Moments.{moment_at}
use Rattle.transit_base.specs.declared.moments.Secs.{Secs}
use Rattle.transit_base.specs.declared.numbers.TripId.{TripId}
use Rattle.feed_rows.specs.declared.journeys.Call.{Call}
use Rattle.feed_rows.specs.declared.journeys.Query.{Query}
use Rattle.feed_rows.specs.declared.journeys.Ride.{Ride}
use Rattle.feed_rows.specs.declared.journeys.RideFacts.{RideFacts}
use Rattle.feed_rows.specs.FeedRows.{FeedRows}
use Rattle.feed_rows.specs.Calls.{calls_of}
use Rattle.feed_rows.specs.SoundFeed.{IsSoundFeed}
use Rattle.plain_laws.proofs.Laws.{int_le-true, le-int_le, slice_get-Contains}
use Rattle.feed_laws.proofs.RideLaws.{IsRideWith, ride_facts_tells, ride_facts_timed}
use Rattle.feed_laws.proofs.SoundTrips.{sound_trip}
use Rattle.plan_patterns.specs.declared.runs.Run.{Run}
use Rattle.plan_patterns.specs.Grouping.{PatternOf, PatternsOf, runs_at}
use Rattle.plan_rides.specs.Boarding.{AreMarks, Seeking}
use Rattle.plan_rides.specs.Cutoffs.{cutoff_by, is_early, is_enough, is_span}
use Rattle.plan_rides.specs.Departures.{HoldsRuns, run_by}
use Rattle.plan_rides.specs.InTime.{deadline}
use Rattle.plan_rides.specs.Spans.{AddsBoards, AreBoardSpans, FitsScope, FollowsOwn, IsEndFrom, IsOfPatterns, IsOfRuns, IsOfTrip, IsOfTripFrom, IsTimelyRide, PutsBoard, is_end_by}
use Rattle.plan_rides.proofs.CutoffLaws.{enough_at, enough_past, enough_some, onward}
use Rattle.plan_rides.proofs.DepartureLaws.{ride_end}

-- ---- when a journey ends

-- none ends by then
pub none_by : (end : Option ℕ) (until : ℤ) → end ≡ None → is_end_by end until ≡ true → ⊥
unfolding is_end_by
none_by end until none is = let no : false ≡ true = sym (ap (λ o. is_end_by o until) none) ∙ is in cc

-- where riders alight at the call and so many seconds are enough there, a journey ends no sooner than its span says
pub end_here : (spans : List (Option Secs)) (call : Call) (span : Secs) (end : ℕ) (until : ℤ) →
    call.stop.0 < length spans →
    unwrap_or (slice_get spans call.stop.0) None ≡ Some span → end ≡ call.arrival + span.0 →
    is_enough spans call.stop.0 (until -ℤ pos call.arrival) ≡ true → is_end_by (Some end) until ≡ true
unfolding is_end_by is_span
end_here spans call span end until lt is sum enough =
    le-int_le (pos end) until
    (whole (int_le-true (pos span.0) (until -ℤ pos call.arrival)
    (subst (λ o. is_span o (until -ℤ pos call.arrival) ≡ true) is
    (sym (enough_at spans call.stop.0 (until -ℤ pos call.arrival) lt) ∙ enough))))
  where
    whole : pos span.0 ≤ℤ (until -ℤ pos call.arrival) → pos end ≤ℤ until
    whole p = omega (arith, ints, sum)

-- none does where there is no span
pub no_end_here : (spans : List (Option Secs)) (call : Call) (until : ℤ) → call.stop.0 < length spans →
    unwrap_or (slice_get spans call.stop.0) None ≡ None →
    is_enough spans call.stop.0 (until -ℤ pos call.arrival) ≡ true → ⊥
unfolding is_span
no_end_here spans call until lt none enough =
    let no : false ≡ true = sym (ap (λ o. is_span o (until -ℤ pos call.arrival)) none)
    ∙ sym (enough_at spans call.stop.0 (until -ℤ pos call.arrival) lt) ∙ enough in
    cc

-- what ends by then ends by then where it ends sooner
pub by_sooner : (one other : Option ℕ) (a b : ℕ) (until : ℤ) → one ≡ Some a → other ≡ Some b → b ≤ a →
    is_end_by one until ≡ true → is_end_by other until ≡ true
unfolding is_end_by
by_sooner one other a b until first second le is =
    subst (λ o. is_end_by o until ≡ true) (sym second)
    (le-int_le (pos b) until (before (int_le-true (pos a) until (subst (λ o. is_end_by o until ≡ true) first is))))
  where
    before : pos a ≤ℤ until → pos b ≤ℤ until
    before p = omega (arith, ints, le)

-- ---- what is put

-- the span of a stop that is set
set_at_stop : (old : List (Option Secs)) (stop : ℕ) (one : Option Secs) → stop < length old →
    unwrap_or (slice_get (set old stop one) stop) None ≡ one
set_at_stop old stop one lt =
    unwrap_or-slice_get (set old stop one) stop None ∙ get_or-set_same old stop one None lt

-- that of another one
set_at_other : (old : List (Option Secs)) (stop s : ℕ) (one : Option Secs) → (s ≡ stop → ⊥) →
    unwrap_or (slice_get (set old stop one) s) None ≡ unwrap_or (slice_get old s) None
set_at_other old stop s one other =
    unwrap_or-slice_get (set old stop one) s None
    ∙ get_or-set_other old stop s one None other
    ∙ sym (unwrap_or-slice_get old s None)

-- where nothing is put
pub puts_none : (window : ℕ) (end : Option ℕ) (call : Call) (boards : List (Option Secs)) →
    ((until : ℤ) → call.pickup ≡ true → is_end_by end until ≡ true → ⊥) → PutsBoard window end call boards boards
puts_none window end call boards never = record {
  many = refl;
  still = λ stop secs is. is;
  here = λ until pickup ends after within. absurd (never until pickup ends);
}

-- where the shorter of the span at the stop and of the seconds from there until the end is put
pub puts_shorter : (window : ℕ) (some : Option ℕ) (end : ℕ) (call : Call) (old : List (Option Secs))
    (before one : Option Secs) →
    some ≡ Some end → call.stop.0 < length old → before ≡ unwrap_or (slice_get old call.stop.0) None →
    ((secs : ℤ) → is_span before secs ≡ true → is_span one secs ≡ true) →
    ((secs : ℤ) → pos (end - call.departure) ≤ℤ secs → secs ≤ℤ pos window → is_span one secs ≡ true) →
    PutsBoard window some call old (set old call.stop.0 one)
unfolding is_end_by
puts_shorter window some end call old before one is lt was still other = record {
  many = long;
  still = λ stop secs was_so. ⊎_elim
      (λ (inside : stop < length old). kept stop secs inside was_so (cases_eq stop call.stop.0))
      (λ past. enough_past (set old call.stop.0 one) stop secs (subst (λ n. n ≤ stop) (sym long) past))
      (cases_lt stop (length old));
  here = λ until pickup ends after within.
      enough_at (set old call.stop.0 one) call.stop.0 (until -ℤ pos call.departure) (subst (λ n. call.stop.0 < n)
      (sym long) lt)
      ∙ ap (λ o. is_span o (until -ℤ pos call.departure)) (set_at_stop old call.stop.0 one lt)
      ∙ other (until -ℤ pos call.departure)
      (left until (int_le-true (pos end) until (subst (λ o. is_end_by o until ≡ true) is ends)) after) within;
}
  where
    long : length (set old call.stop.0 one) ≡ length old
    long = length-set old call.stop.0 one

    left : (until : ℤ) → pos end ≤ℤ until → pos call.departure ≤ℤ until →
        pos (end - call.departure) ≤ℤ (until -ℤ pos call.departure)
    left until a b = omega (arith, ints)

    kept : (stop : ℕ) (secs : ℤ) → stop < length old → is_enough old stop secs ≡ true →
        (stop ≡ call.stop.0) ⊎ (stop ≡ call.stop.0 → ⊥) →
        is_enough (set old call.stop.0 one) stop secs ≡ true
    kept stop secs inside was_so (inl same) =
        enough_at (set old call.stop.0 one) stop secs (subst (λ n. stop < n) (sym long) inside)
        ∙ ap (λ o. is_span o secs) (ap (λ s. unwrap_or (slice_get (set old call.stop.0 one) s) None) same
        ∙ set_at_stop old call.stop.0 one lt)
        ∙ still secs (subst (λ o. is_span o secs ≡ true) (ap (λ s. unwrap_or (slice_get old s) None) same ∙ sym was)
        (sym (enough_at old stop secs inside) ∙ was_so))
    kept stop secs inside was_so (inr not) =
        enough_at (set old call.stop.0 one) stop secs (subst (λ n. stop < n) (sym long) inside)
        ∙ ap (λ o. is_span o secs) (set_at_other old call.stop.0 stop one not)
        ∙ sym (enough_at old stop secs inside) ∙ was_so

-- ---- one call more

-- the soonest end is no later than by the call, nor than before
pub ends_more : (spans : List (Option Secs)) (calls : List Call) (p k : ℕ) (call : Call) (end new : Option ℕ) →
    k ≡ p + 1 →
    slice_get calls p ≡ Some call → ((until : ℤ) → is_end_by end until ≡ true → is_end_by new until ≡ true) →
    ((until : ℤ) → call.drop_off ≡ true → is_enough spans call.stop.0 (until -ℤ pos call.arrival) ≡ true →
    is_end_by new until ≡ true) →
    IsEndFrom spans calls k end → IsEndFrom spans calls p new
ends_more spans calls p k call end new next is still here before to c until from at off enough = ⊎_elim
    (λ (first : to < k).
    let same : to ≡ p = omega (arith, first, from, next) in
    let it : c ≡ call = same_Some _ _ (sym at ∙ ap (slice_get calls) same ∙ is) in
    here until (subst (λ (x : Call). x.drop_off ≡ true) it off)
    (subst (λ (x : Call). is_enough spans x.stop.0 (until -ℤ pos x.arrival) ≡ true) it enough))
    (λ later. still until (before to c until later at off enough))
    (cases_lt to k)

-- before the last call none ends
pub ends_none : (spans : List (Option Secs)) (calls : List Call) (k : ℕ) (end : Option ℕ) → length calls ≤ k →
    IsEndFrom spans calls k end
ends_none spans calls k end past to call until from at off enough =
    let lt = slice_get_within calls to call at in
    absurd (omega (arith, lt, from, past))

module _ (feed : FeedRows) (window : ℕ) (spans : List (Option Secs)) (trip : TripId) (sound : IsSoundFeed feed)
    (long : length spans ≡ length feed.stops) where
  -- a ride that boards at the call departs no later than the soonest end leaves time for
  boards_early : (calls : List Call) (p k : ℕ) (call : Call) (end : Option ℕ) (mid new : List (Option Secs)) (until : ℤ)
      (ride : Ride) (facts : RideFacts) → calls ≡ calls_of feed trip → k ≡ p + 1 → slice_get calls p ≡ Some call →
      IsEndFrom spans calls k end → PutsBoard window end call mid new →
      IsTimelyRide feed window (cutoff_by spans until) ride facts → ride.trip ≡ trip → ride.from ≡ p →
      is_early (cutoff_by new until) facts.from.0 facts.departure.0 ≡ true
  boards_early calls p k call end mid new until ride facts are next is ends puts e of from =
      subst (λ z. is_enough new facts.from.0 z ≡ true) (ends_at until base call.departure facts.departure.0 departs)
      (subst (λ n. is_enough new n ((until -ℤ base) -ℤ pos call.departure) ≡ true) stop
      (puts.here (until -ℤ base) (ap (λ (c : Call). c.pickup) (sym same) ∙ r.pickup)
      (ends ride.to r.alighting (until -ℤ base) (reaches ride.to r.forward) alights r.drop_off
      (subst (λ z. is_enough spans r.alighting.stop.0 z ≡ true)
      (sym (ends_at until base r.alighting.arrival facts.arrival.0 arrives))
      (subst (λ n. is_enough spans n (until -ℤ facts.arrival.0) ≡ true) (sym (ap
      (λ (f : RideFacts). f.to.0) r.facts_are)) e.early)))
      (in_order until base facts.departure.0 facts.arrival.0 call.departure departs timed left)
      (subst (λ z. z ≤ℤ pos window) (sym (ends_at until base call.departure facts.departure.0 departs)) e.few)))
    where
      r : IsRideWith feed ride facts
      r = ride_facts_tells feed ride facts e.is

      base : ℤ
      base = ride.day.0 *ℤ pos day_seconds +ℤ ride.shift

      of_trip : calls_of feed ride.trip ≡ calls
      of_trip = ap (calls_of feed) of ∙ sym are

      same : r.boarding ≡ call
      same = same_Some _ _ (sym r.boards ∙ ap (slice_get (calls_of feed ride.trip)) from ∙ ap
          (λ cs. slice_get cs p) of_trip ∙ is)

      alights : slice_get calls ride.to ≡ Some r.alighting
      alights = ap (λ cs. slice_get cs ride.to) (sym of_trip) ∙ r.alights

      stop : call.stop.0 ≡ facts.from.0
      stop = ap (λ (c : Call). c.stop.0) (sym same) ∙ ap (λ (f : RideFacts). f.from.0) r.facts_are

      at_moment : (day shift : ℤ) (seconds : ℕ) → (day *ℤ pos day_seconds +ℤ shift) +ℤ pos seconds ≡ moment_at day
          (shift +ℤ pos seconds)
      at_moment day shift seconds = omega (arith, ints)

      departs : base +ℤ pos call.departure ≡ facts.departure.0
      departs = ap (λ (c : Call). base +ℤ pos c.departure) (sym same)
          ∙ at_moment ride.day.0 ride.shift r.boarding.departure
          ∙ ap (λ (f : RideFacts). f.departure.0) r.facts_are

      arrives : base +ℤ pos r.alighting.arrival ≡ facts.arrival.0
      arrives = at_moment ride.day.0 ride.shift r.alighting.arrival ∙ ap (λ (f : RideFacts). f.arrival.0) r.facts_are

      timed : facts.departure.0 ≤ℤ facts.arrival.0
      timed = (ride_facts_timed feed ride facts most_time (sound_trip feed ride.trip sound) e.is).forward

      left : pos 0 ≤ℤ (until -ℤ facts.arrival.0)
      left = enough_some spans facts.to.0 (until -ℤ facts.arrival.0)
          (subst (λ n. facts.to.0 < n) (sym long) (ride_end feed ride facts sound e.is)) e.early

      reaches : (to : ℕ) → ride.from < to → k ≤ to
      reaches to forward = omega (arith, next, from)

      ends_at : (u b : ℤ) (s : ℕ) (z : ℤ) → b +ℤ pos s ≡ z → (u -ℤ b) -ℤ pos s ≡ u -ℤ z
      ends_at u b s z e = omega (arith, ints)

      in_order : (u b d a : ℤ) (s : ℕ) → b +ℤ pos s ≡ d → d ≤ℤ a → pos 0 ≤ℤ (u -ℤ a) → pos s ≤ℤ (u -ℤ b)
      in_order u b d a s e f g = omega (arith, ints)

  -- one call more of a trip
  pub call_more : (calls : List Call) (p k : ℕ) (call : Call) (end : Option ℕ) (old mid new : List (Option Secs)) →
      calls ≡ calls_of feed trip → k ≡ p + 1 → slice_get calls p ≡ Some call → IsEndFrom spans calls k end →
      AddsBoards feed window spans (IsOfTripFrom trip k) old mid → PutsBoard window end call mid new →
      AddsBoards feed window spans (IsOfTripFrom trip p) old new
  call_more calls p k call end old mid new are next is ends before puts = record {
    many = puts.many ∙ before.many;
    still = λ stop secs enough. puts.still stop secs (before.still stop secs enough);
    all = λ until ride facts e part. ⊎_elim
        (λ (here : ride.from < k).
        let from = part.1 in
        boards_early calls p k call end mid new until ride facts are next is ends puts e part.0
        (omega (arith, here, from, next)))
        (λ later. puts.still facts.from.0 (until -ℤ facts.departure.0)
        (before.all until ride facts e (part.0, later)))
        (cases_lt ride.from k);
  }

module _ (feed : FeedRows) (window : ℕ) (spans : List (Option Secs)) where
  -- no call of it yet
  pub trip_none : (trip : TripId) (k : ℕ) (boards : List (Option Secs)) → length (calls_of feed trip) ≤ k →
      AddsBoards feed window spans (IsOfTripFrom trip k) boards boards
  trip_none trip k boards past = record {
    many = refl;
    still = λ stop secs is. is;
    all = λ until ride facts e part.
        let r = ride_facts_tells feed ride facts e.is in
        let lt = slice_get_within (calls_of feed trip) ride.from r.boarding
        (ap (λ t. slice_get (calls_of feed t) ride.from) (sym part.0) ∙ r.boards) in
        let from = part.1 in
        absurd (omega (arith, lt, from, past));
  }

  -- all calls of it
  pub trip_all : (trip : TripId) (k : ℕ) (old new : List (Option Secs)) → k ≤ 0 →
      AddsBoards feed window spans (IsOfTripFrom trip k) old new → AddsBoards feed window spans (IsOfTrip trip) old new
  trip_all trip k old new none adds = record {
    many = adds.many;
    still = adds.still;
    all = λ until ride facts e of. adds.all until ride facts e (of, omega (arith, none));
  }

  -- ---- more runs, and more patterns

  -- one part after another
  boards_more : (Part More Whole : Ride → Type 0) (old mid new : List (Option Secs)) →
      AddsBoards feed window spans Part old mid →
      AddsBoards feed window spans More mid new → ((ride : Ride) → Whole ride → Part ride ⊎ More ride) →
      AddsBoards feed window spans Whole old new
  boards_more Part More Whole old mid new a b split = record {
    many = b.many ∙ a.many;
    still = λ stop secs is. b.still stop secs (a.still stop secs is);
    all = λ until ride facts e whole. ⊎_elim
        (λ part. b.still facts.from.0 (until -ℤ facts.departure.0) (a.all until ride facts e part))
        (λ more. b.all until ride facts e more)
        (split ride whole);
  }

  -- the same part, said otherwise
  boards_same : (Part Whole : Ride → Type 0) (old new : List (Option Secs)) → AddsBoards feed window spans Part old new →
      ((ride : Ride) → Whole ride → Part ride) → AddsBoards feed window spans Whole old new
  boards_same Part Whole old new a part = record {
    many = a.many;
    still = a.still;
    all = λ until ride facts e whole. a.all until ride facts e (part ride whole);
  }

  -- a part without rides
  boards_none : (Part : Ride → Type 0) (boards : List (Option Secs)) → ((ride : Ride) → Part ride → ⊥) →
      AddsBoards feed window spans Part boards boards
  boards_none Part boards never = record {
    many = refl;
    still = λ stop secs is. is;
    all = λ until ride facts e part. absurd (never ride part);
  }

  -- no run yet, and no pattern
  pub runs_none : (runs : List Run) (boards : List (Option Secs)) →
      AddsBoards feed window spans (IsOfRuns runs 0) boards boards
  runs_none runs boards = boards_none (IsOfRuns runs 0) boards (λ ride of. let below = of.1 in omega (arith, below))

  pub patterns_none : (patterns : List PatternOf) (boards : List (Option Secs)) →
      AddsBoards feed window spans (IsOfPatterns patterns 0) boards boards
  patterns_none patterns boards = boards_none (IsOfPatterns patterns 0) boards (λ ride of. let below = of.1 in
      omega (arith, below))

  -- one run more
  pub runs_more : (runs : List Run) (k : ℕ) (x : Run) (old mid new : List (Option Secs)) → k < length runs →
      AddsBoards feed window spans (IsOfRuns runs k) old mid →
      AddsBoards feed window spans (IsOfTrip (get_or runs k x).trip) mid new →
      AddsBoards feed window spans (IsOfRuns runs (k + 1)) old new
  runs_more runs k x old mid new lt before adds =
      boards_more (IsOfRuns runs k) (IsOfTrip (get_or runs k x).trip) (IsOfRuns runs (k + 1)) old mid new before adds
      (λ ride of.
      let below = of.1 in
      ⊎_elim (λ lower. inl (of.0, lower, of.2, of.3, of.4))
      (λ upper.
      let same : of.0 ≡ k = omega (arith, below, upper) in
      inr (of.4 ∙ ap (λ (r : Run). r.trip) (same_Some _ _ (sym of.3 ∙ ap (slice_get runs) same
      ∙ slice_get-get_or runs k x lt))))
      (cases_lt of.0 k))

  -- one that is of the trip of the one before
  pub runs_own : (runs : List Run) (k : ℕ) (old new : List (Option Secs)) → FollowsOwn runs k →
      AddsBoards feed window spans (IsOfRuns runs k) old new →
      AddsBoards feed window spans (IsOfRuns runs (k + 1)) old new
  runs_own runs k old new own before =
      boards_same (IsOfRuns runs k) (IsOfRuns runs (k + 1)) old new before
      (λ ride of.
      let below = of.1 in
      ⊎_elim (λ lower. (of.0, lower, of.2, of.3, of.4))
      (λ upper.
      let same : of.0 ≡ k = omega (arith, below, upper) in
      let after = own.after in
      let it : of.2 ≡ own.run = same_Some _ _ (sym of.3 ∙ ap (slice_get runs) same ∙ own.run_is) in
      (own.place, omega (arith, after), own.before, own.before_is, of.4 ∙ ap (λ (r : Run). r.trip) it ∙ sym own.same))
      (cases_lt of.0 k))

  -- all of them
  pub runs_all : (runs : List Run) (n : ℕ) (old new : List (Option Secs)) → length runs ≤ n →
      AddsBoards feed window spans (IsOfRuns runs n) old new →
      AddsBoards feed window spans (IsOfRuns runs (length runs)) old new
  runs_all runs n old new all adds =
      boards_same (IsOfRuns runs n) (IsOfRuns runs (length runs)) old new adds
      (λ ride of. let lt = of.1 in (of.0, omega (arith, lt, all), of.2, of.3, of.4))

  -- one pattern more
  pub patterns_more : (patterns : List PatternOf) (k : ℕ) (runs : List Run) (old mid new : List (Option Secs)) →
      runs ≡ runs_at patterns k → AddsBoards feed window spans (IsOfPatterns patterns k) old mid →
      AddsBoards feed window spans (IsOfRuns runs (length runs)) mid new →
      AddsBoards feed window spans (IsOfPatterns patterns (k + 1)) old new
  patterns_more patterns k runs old mid new are before adds =
      boards_more (IsOfPatterns patterns k) (IsOfRuns runs (length runs))
      (IsOfPatterns patterns (k + 1)) old mid new before adds
      (λ ride of.
      let below = of.1 in
      ⊎_elim (λ lower. inl (of.0, lower, of.2))
      (λ upper.
      let same : of.0 ≡ k = omega (arith, below, upper) in
      let has = subst (λ rs. Contains rs (run_by ride)) (sym are)
      (subst (λ i. Contains (runs_at patterns i) (run_by ride)) same of.2) in
      let place = slice_get-Contains runs (run_by ride) has in
      inr (place.0, slice_get_within runs place.0 (run_by ride) place.1, run_by ride, place.1, refl))
      (cases_lt of.0 k))

  -- all of them
  pub patterns_all : (patterns : List PatternOf) (n : ℕ) (old new : List (Option Secs)) → length patterns ≤ n →
      AddsBoards feed window spans (IsOfPatterns patterns n) old new →
      AddsBoards feed window spans (IsOfPatterns patterns (length patterns)) old new
  patterns_all patterns n old new all adds =
      boards_same (IsOfPatterns patterns n) (IsOfPatterns patterns (length patterns)) old new adds
      (λ ride of. let lt = of.1 in (of.0, omega (arith, lt, all), of.2))

-- the runs of all patterns have each ride of a scope whose queries take more than one
pub all_boards : (feed : FeedRows) (sought : Seeking) (window : ℕ) (spans old new : List (Option Secs)) (patterns : PatternsOf) →
    HoldsRuns feed sought patterns → AreMarks feed sought → 1 < sought.scope.rides →
    AddsBoards feed window spans (IsOfPatterns patterns.patterns (length patterns.patterns)) old new →
    (query : Query) → FitsScope sought.scope window query → AreBoardSpans feed query spans new
all_boards feed sought window spans old new patterns holds marks more adds query fits until by ride facts is since in_time early =
    adds.all until ride facts
    (record { is = is; early = early; few = left until query.departure.0 facts.departure.0 query.window by since fits.few })
    (holds.all ride facts (record {
      some = omega (arith, more);
      is = is;
      boards = marks.all more facts.from.0;
      since = onward sought.scope.span.from.0 query.departure.0 facts.departure.0 fits.inside.since since;
      until = onward facts.arrival.0 (deadline query) sought.scope.span.until.0 in_time fits.inside.until;
    }))
  where
    left : (u q d : ℤ) (w : ℕ) → u ≤ℤ (q +ℤ pos w) → q ≤ℤ d → w ≤ window → (u -ℤ d) ≤ℤ pos window
    left u q d w by since few = omega (arith, ints)

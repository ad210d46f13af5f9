-- How the patterns of a window's runs give the departures from stops.
use Rattle.std.proofs.Common.{◌≡◌, refl, sym, ◌∙◌, ap, subst, ℕ, zero, suc, set, ◌+◌, ◌++◌, ◌∷◌, ◌<◌, ◌≤◌, ◌⊎◌, inl, inr, ⊎_elim, Bool, true, false, List, length, get_or, arith, ℤ, pos, ◌≤ℤ◌}
use Rattle.std.specs.Prelude.{◌==◌, ◌&&◌, ◌≢◌, Result, Ok, Err, IfOk, [], Option, Some, None, slice_get, slice_index_or, option_map, unwrap_or, All, Contains, map}
use Rattle.std.specs.Option.{option_map_or}
use Rattle.std.proofs.lemmas.Option.{same_Some, slice_get_within, slice_get-get_or, slice_get-map}
use Rattle.std.proofs.lemmas.List.{get_or_default, get_or-map, get_or-set_other, get_or-set_same, length-map, length-replicate}
use Rattle.std.proofs.Math.ListN.{replicate}
use Rattle.std.proofs.lemmas.Bool.{cases_eq, cases_lt, and_from, and_parts}
use Rattle.std.proofs.lemmas.Bool.Decides.{nat_tests}
use mathlib.Core.Bool.{true≢false}
use Rattle.std.proofs.lemmas.List.Elements.{All-append, All-push, All-cons, All-nil, All-contains, Contains-append_left, Contains-push}
use Rattle.transit_base.specs.declared.numbers.StopId.{StopId}
use Rattle.transit_base.specs.declared.numbers.TripId.{TripId}
use Rattle.feed_rows.specs.Calls.{calls_of}
use Rattle.feed_rows.specs.FeedRows.{FeedRows}
use Rattle.feed_rows.specs.Rides.{ride_facts}
use Rattle.feed_rows.specs.Shifts.{shifts_of}
use Rattle.feed_rows.specs.SoundFeed.{IsSoundFeed}
use Rattle.feed_rows.specs.declared.journeys.Call.{Call}
use Rattle.feed_rows.specs.declared.journeys.Ride.{Ride}
use Rattle.feed_rows.specs.declared.journeys.RideFacts.{RideFacts}
use Rattle.feed_rows.specs.declared.rows.StopTimeRow.{StopTimeRow}
use Rattle.feed_laws.proofs.CallLaws.{calls_of_row}
use Rattle.feed_laws.proofs.RideLaws.{IsRideWith, ride_facts_tells}
use Rattle.feed_laws.proofs.ShiftLaws.{Contains_from_found, list_any-shifts_of}
use Rattle.feed_laws.proofs.SoundTrips.{row_at, sound_trip}
use Rattle.plain_laws.specs.Plain.{picks_below}
use Rattle.plain_laws.proofs.Laws.{All-from, AllPairs-append, Contains-cons_cases, All-slice_get, Contains-map, Contains-slice_get, slice_get-Contains, Contains-flat_map, flat_map-tells, Contains-joined_below, joined_below-tells, Contains-picks_below, picks_below-tells}
use Rattle.plan_patterns.specs.declared.halts.Halt.{Halt}
use Rattle.plan_patterns.specs.declared.pattern.Boarding.{Boarding}
use Rattle.plan_patterns.specs.declared.runs.Run.{Run}
use Rattle.plan_patterns.specs.declared.span.Span.{Span}
use Rattle.plan_patterns.specs.declared.serving.Serving.{Serving}
use Rattle.plan_patterns.specs.Columns.{AreBoardable, IsBoarding}
use Rattle.plan_patterns.specs.Grouping.{ArePatterns, PatternOf, PatternsOf, all_runs, halts_at, halts_by_pattern, runs_at}
use Rattle.plan_patterns.specs.Halts.{halt_of, halts_of}
use Rattle.plan_patterns.specs.Runs.{IsHeld, IsHeldOf, IsKnown, IsNear, moment_of}
use Rattle.plan_patterns.specs.Servings.{boards_at, list_at, serving_of, servings_at}
use Rattle.plan_rides.specs.declared.departures.Departure.{Departure}
use Rattle.plan_rides.specs.Boarding.{Seeking, is_boarding, is_marked}
use Rattle.plan_rides.specs.Departures.{IsSpanned, AddsTrip, AreBoarded, AreListed, departure_with, IsDeparture, IsFromStop, AreDepartures, AreSince, HoldsRuns, IsRunOf, Serves, StopsAt, TakesOneOf, TakesServing, run_by, no_run, departure_by, departure_at}
use Rattle.plan_rides.specs.Runs.{run_of, IsRun}

-- the trip of a number
abbrev pub trip_id : ℕ → TripId
trip_id n = record { 0 = n }

-- the stop of a number
abbrev stop_id : ℕ → StopId
stop_id n = record { 0 = n }

-- the trips are of the feed, those that are marked are among them, and of the first n stop times those at which riders
-- may board at a stop that is marked
pub record ListsBoarded (feed : FeedRows) (sought : Seeking) (n : ℕ) (marks : List Bool)
    (trips : List TripId) : Type 0 where
  pub many : length marks ≡ length feed.trips
  pub listed : AreListed marks trips
  pub inside : All (λ (trip : TripId). trip.0 < length feed.trips) trips
  pub all : (k : ℕ) (d : StopTimeRow) → k < n → is_boarding sought (get_or feed.stop_times k d) ≡ true →
      Contains trips (get_or feed.stop_times k d).trip

-- no stop time is looked at yet
pub none_boarded : (feed : FeedRows) (sought : Seeking) (marks : List Bool) (trips : List TripId) →
    marks ≡ replicate (length feed.trips) false → trips ≡ [] → ListsBoarded feed sought 0 marks trips
none_boarded feed sought marks trips unmarked empty = rw (unmarked, empty) (record {
  many = length-replicate (length feed.trips) false;
  listed = record {
    all = λ trip marked. absurd (true≢false (sym marked ∙ none (length feed.trips) trip.0));
    marked = All-nil (λ (t : TripId). slice_index_or (replicate (length feed.trips) false) t.0 false ≡ true);
    once = λ i j d lt within. absurd (omega (arith, within));
  };
  inside = All-nil (λ (t : TripId). t.0 < length feed.trips);
  all = λ k d below boards. absurd (omega (arith, below));
})
  where
    none : (n i : ℕ) → get_or (replicate n false) i false ≡ false
    none zero i = refl
    none (suc n) zero = refl
    none (suc n) (suc i) = none n i

-- the trip of a stop time is one of the feed
pub row_trip : (feed : FeedRows) (rows : List StopTimeRow) (n : ℕ) (d : StopTimeRow) → IsSoundFeed feed →
    rows ≡ feed.stop_times → n < length rows → (get_or rows n d).trip.0 < length feed.trips
row_trip feed rows n d sound same lt =
    subst (λ (rs : List StopTimeRow). (get_or rs n d).trip.0 < length feed.trips) (sym same)
    (sound.stop_times.trips n d (subst (λ (rs : List StopTimeRow). n < length rs) same lt))

-- a trip that wasn't marked is listed with its mark
pub listed_more : (marks more : List Bool) (old new : List TripId) (trip : TripId) → trip.0 < length marks →
    slice_index_or marks trip.0 false ≡ false → AreListed marks old → more ≡ set marks trip.0 true →
    new ≡ old ++ trip ∷ [] → AreListed more new
listed_more marks more old new trip lt never before marked pushed = rw (marked, pushed) (record {
  all = λ t is. ⊎_elim
      (λ (same : t.0 ≡ trip.0). subst (Contains (old ++ trip ∷ [])) (ap trip_id (sym same)) (Contains-push old trip))
      (λ (other : t.0 ≡ trip.0 → ⊥).
      Contains-append_left old (trip ∷ []) t (before.all t (sym (get_or-set_other marks trip.0 t.0 true false other) ∙ is)))
      (cases_eq t.0 trip.0);
  marked = All-append IsMarked old (trip ∷ [])
      (λ k d within. still (get_or old k d) (before.marked k d within))
      (All-cons IsMarked trip [] (get_or-set_same marks trip.0 true false lt) (All-nil IsMarked));
  once = AllPairs-append (λ (a : TripId) (b : TripId). a ≢ b) old (trip ∷ []) before.once
      (λ i j d earlier within. absurd (omega (arith, earlier, within)))
      (λ a b has one same.
      let is : b ≡ trip = single b one in
      true≢false (sym (All-contains (λ (t : TripId). slice_index_or marks t.0 false ≡ true) old a before.marked has)
      ∙ ap (λ (t : TripId). slice_index_or marks t.0 false) (same ∙ is) ∙ never));
})
  where
    IsMarked : TripId → Type 0
    IsMarked t = slice_index_or (set marks trip.0 true) t.0 false ≡ true

    still : (t : TripId) → slice_index_or marks t.0 false ≡ true → IsMarked t
    still t is = ⊎_elim
        (λ (same : t.0 ≡ trip.0). absurd (true≢false (sym is ∙ ap (λ n. slice_index_or marks n false) same ∙ never)))
        (λ (other : t.0 ≡ trip.0 → ⊥). get_or-set_other marks trip.0 t.0 true false other ∙ is)
        (cases_eq t.0 trip.0)

    single : (b : TripId) → Contains (trip ∷ []) b → b ≡ trip
    single b one = ⊎_elim (λ (here : trip ≡ b). sym here) (λ (none : Contains [] b). let lt = none.1 in absurd (omega (arith, lt))) (Contains-cons_cases trip [] b one)

-- one stop time more, whose trip is listed, or at which riders may not board
pub boarded_more : (feed : FeedRows) (sought : Seeking) (rows : List StopTimeRow) (n : ℕ) (d : StopTimeRow)
    (marks more : List Bool) (old new : List TripId) → IsSoundFeed feed → rows ≡ feed.stop_times → n < length rows →
    length more ≡ length marks → AreListed more new → AddsTrip (get_or rows n d).trip old new →
    ListsBoarded feed sought n marks old → ListsBoarded feed sought (n + 1) more new
boarded_more feed sought rows n d marks more old new sound same lt many listed adds before = record {
  many = many ∙ before.many;
  listed = listed;
  inside = adds.right (length feed.trips) (row_trip feed rows n d sound same lt) before.inside;
  all = λ k e below boards. step k e boards (cases_lt k n) below;
}
  where
    step : (k : ℕ) (e : StopTimeRow) → is_boarding sought (get_or feed.stop_times k e) ≡ true →
        (k < n) ⊎ (n ≤ k) → k < n + 1 → Contains new (get_or feed.stop_times k e).trip
    step k e boards (inl lower) below = adds.still (get_or feed.stop_times k e).trip (before.all k e lower boards)
    step k e boards (inr upper) below =
        let last : k ≡ n = omega (arith, upper, below) in
        let here = get_or_default rows n d e lt ∙ ap (λ (rs : List StopTimeRow). get_or rs n e) same in
        rw last (subst (λ (r : StopTimeRow). Contains new r.trip) here (adds.all (get_or rows n d).trip refl))

pub boarded_past : (feed : FeedRows) (sought : Seeking) (rows : List StopTimeRow) (n : ℕ) (d : StopTimeRow)
    (marks : List Bool) (trips : List TripId) → rows ≡ feed.stop_times → n < length rows →
    false ≡ is_boarding sought (get_or rows n d) → ListsBoarded feed sought n marks trips →
    ListsBoarded feed sought (n + 1) marks trips
boarded_past feed sought rows n d marks trips same lt never before = record {
  many = before.many;
  listed = before.listed;
  inside = before.inside;
  all = λ k e below boards. step k e boards (cases_lt k n) below;
}
  where
    step : (k : ℕ) (e : StopTimeRow) → is_boarding sought (get_or feed.stop_times k e) ≡ true →
        (k < n) ⊎ (n ≤ k) → k < n + 1 → Contains trips (get_or feed.stop_times k e).trip
    step k e boards (inl lower) below = before.all k e lower boards
    step k e boards (inr upper) below =
        let last : k ≡ n = omega (arith, upper, below) in
        let here = get_or_default rows n d e lt ∙ ap (λ (rs : List StopTimeRow). get_or rs n e) same in
        let may : is_boarding sought (get_or feed.stop_times n e) ≡ true = rw last at boards in
        absurd (true≢false (sym may ∙ sym (ap (is_boarding sought) here) ∙ sym never))

-- all stop times: a ride that may be caught boards at one of them
pub boarded_all : (feed : FeedRows) (sought : Seeking) (n : ℕ) (marks : List Bool) (trips : List TripId) →
    IsSoundFeed feed → length feed.stop_times ≤ n → ListsBoarded feed sought n marks trips →
    AreBoarded feed sought trips
boarded_all feed sought n marks trips sound whole lists = record {
  of = record { inside = lists.inside; once = lists.listed.once };
  all = λ ride facts e. boards ride facts e;
}
  where
    boards : (ride : Ride) (facts : RideFacts) → IsSpanned feed sought ride facts → Contains trips ride.trip
    boards ride facts e =
        let r = ride_facts_tells feed ride facts e.is in
        let found = calls_of_row feed ride.trip ride.from r.boarding (sound_trip feed ride.trip sound).ends r.boards in
        let row = found.0 in
        let at = row_at feed ride.trip ride.from row found.1 in
        let stop = ap (λ (f : RideFacts). f.from.0) (sym r.facts_are) ∙ ap (λ (s : StopId). s.0) found.2.stop in
        let marked = subst (λ (m : ℕ). is_marked sought.marks m ≡ true) stop e.boards in
        let may = and_from row.pickup (is_marked sought.marks row.stop.0) (sym found.2.pickup ∙ r.pickup) marked in
        let lt = at.member.1 in
        let there = at.member.2 in
        let listed = lists.all at.member.0 row (omega (arith, lt, whole)) (ap (is_boarding sought) there ∙ may) in
        subst (Contains trips) (ap (λ (x : StopTimeRow). x.trip) there ∙ ap trip_id at.own) listed

-- a trip calls at stops of the feed
pub call_stop : (feed : FeedRows) (trip : TripId) (m : ℕ) (call : Call) → IsSoundFeed feed →
    slice_get (calls_of feed trip) m ≡ Some call → call.stop.0 < length feed.stops
call_stop feed trip m call sound is =
    let row = calls_of_row feed trip m call (sound_trip feed trip sound).ends is in
    let within = All-contains (λ (s : StopTimeRow). s.stop.0 < length feed.stops) feed.stop_times row.0 sound.stop_times.stops (row_at feed trip m row.0 row.1).member in
    subst (λ (s : StopId). s.0 < length feed.stops) (sym row.2.stop) within

-- a ride departs from a stop of the feed
pub ride_stop : (feed : FeedRows) (ride : Ride) (facts : RideFacts) → IsSoundFeed feed →
    ride_facts feed ride ≡ Some facts → facts.from.0 < length feed.stops
ride_stop feed ride facts sound is =
    let r = ride_facts_tells feed ride facts is in
    subst (λ (f : RideFacts). f.from.0 < length feed.stops) r.facts_are (call_stop feed ride.trip ride.from r.boarding sound r.boards)

-- and arrives at one
pub ride_end : (feed : FeedRows) (ride : Ride) (facts : RideFacts) → IsSoundFeed feed →
    ride_facts feed ride ≡ Some facts → facts.to.0 < length feed.stops
ride_end feed ride facts sound is =
    let r = ride_facts_tells feed ride facts is in
    subst (λ (f : RideFacts). f.to.0 < length feed.stops) r.facts_are (call_stop feed ride.trip ride.to r.alighting sound r.alights)

-- ---- the runs of patterns, and where they serve stops

-- a run of the feed lies within the bounds of days and shifts
pub run_near : (feed : FeedRows) (run : Run) → IsRunOf feed run → IsNear run
run_near feed run is =
    record { day_low = is.served.low; day_high = is.served.high; shift_low = is.low; shift_high = is.high }

-- the halts of a pattern, by its number
list_at-halts : (patterns : List PatternOf) (p : ℕ) → list_at (halts_by_pattern patterns) p ≡ halts_at patterns p
list_at-halts patterns p = rw (slice_get-map (λ (x : PatternOf). x.halts) patterns p) (step (slice_get patterns p))
  where
    step : (o : Option PatternOf) →
        unwrap_or (option_map (λ (x : PatternOf). x.halts) o) [] ≡ option_map_or (λ (x : PatternOf). x.halts) o []
    step None = refl
    step (Some x) = refl

-- a run of a pattern is one of all runs
in_all : (patterns : List PatternOf) (p : ℕ) (run : Run) → Contains (runs_at patterns p) run → Contains (all_runs patterns) run
in_all patterns p run at = step (slice_get patterns p) refl at
  where
    step : (o : Option PatternOf) → slice_get patterns p ≡ o →
        Contains (option_map_or (λ (x : PatternOf). x.runs) o []) run → Contains (all_runs patterns) run
    step None is none = let lt = none.1 in absurd (omega (arith, lt))
    step (Some x) is here = Contains-flat_map (λ (x : PatternOf). x.runs) patterns x run (Contains-slice_get patterns p x is) here

-- and each of these is of a pattern
record IsOfPattern (patterns : List PatternOf) (run : Run) : Type 0 where
  pub number : ℕ
  pub within : number < length patterns
  pub has : Contains (runs_at patterns number) run

of_pattern : (patterns : List PatternOf) (run : Run) → Contains (all_runs patterns) run → IsOfPattern patterns run
of_pattern patterns run at =
    let found = flat_map-tells (λ (x : PatternOf). x.runs) patterns run at in
    let place = slice_get-Contains patterns found.0 found.1 in
    record {
      number = place.0;
      within = slice_get_within patterns place.0 found.0 place.1;
      has = subst (λ o. Contains (option_map_or (λ (x : PatternOf). x.runs) o []) run) (sym place.1) found.2;
    }

-- a run has the halts of its pattern
has_halts : (feed : FeedRows) (span : Span) (trips : List TripId) (patterns : List PatternOf) (p : ℕ) (run : Run) →
    ArePatterns feed span trips patterns → Contains (runs_at patterns p) run → halts_of feed run.trip ≡ halts_at patterns p
has_halts feed span trips patterns p run are at = step (slice_get patterns p) refl at
  where
    step : (o : Option PatternOf) → slice_get patterns p ≡ o →
        Contains (option_map_or (λ (x : PatternOf). x.runs) o []) run →
        halts_of feed run.trip ≡ option_map_or (λ (x : PatternOf). x.halts) o []
    step None is none = let lt = none.1 in absurd (omega (arith, lt))
    step (Some x) is here =
        All-contains (λ (r : Run). halts_of feed r.trip ≡ x.halts) x.runs run
        (All-slice_get (λ (y : PatternOf). All (λ (r : Run). halts_of feed r.trip ≡ y.halts) y.runs) patterns p x is are.halts)
        here

-- riders may board at a call exactly where its halt says so
boards_at-call : (feed : FeedRows) (trip : TripId) (position : ℕ) (call : Call) →
    slice_get (calls_of feed trip) position ≡ Some call →
    (stop : ℕ) → boards_at (halts_of feed trip) stop position ≡ (call.pickup && call.stop.0 == stop)
boards_at-call feed trip position call is stop =
    rw (slice_get-map halt_of (calls_of feed trip) position, is) refl

-- a position of a pattern at which riders may board at a stop is one of those of the stop
serving_there : (patterns : List PatternOf) (stop p q : ℕ) → p < length patterns → q < length (halts_at patterns p) →
    boards_at (halts_at patterns p) stop q ≡ true →
    Contains (servings_at (halts_by_pattern patterns) stop) (serving_of p q)
serving_there patterns stop p q within inside boards =
    let all = halts_by_pattern patterns in
    let same = list_at-halts patterns p in
    Contains-joined_below (length all)
    (λ pattern. picks_below (length (list_at all pattern)) (boards_at (list_at all pattern) stop) (serving_of pattern)) p
    (serving_of p q)
    (subst (λ n. p < n) (sym (length-map patterns (λ (x : PatternOf). x.halts))) within)
    (subst (λ hs. Contains (picks_below (length hs) (boards_at hs stop) (serving_of p)) (serving_of p q)) (sym same)
    (Contains-picks_below (length (halts_at patterns p)) (boards_at (halts_at patterns p) stop) (serving_of p) q inside boards))

-- and there are no others
record IsServing (patterns : List PatternOf) (stop : ℕ) (serving : Serving) : Type 0 where
  pub within : serving.pattern < length patterns
  pub inside : serving.position < length (halts_at patterns serving.pattern)
  pub boards : boards_at (halts_at patterns serving.pattern) stop serving.position ≡ true

is_serving : (patterns : List PatternOf) (stop : ℕ) (serving : Serving) →
    Contains (servings_at (halts_by_pattern patterns) stop) serving → IsServing patterns stop serving
is_serving patterns stop serving at =
    let all = halts_by_pattern patterns in
    let found = joined_below-tells (length all)
    (λ pattern. picks_below (length (list_at all pattern)) (boards_at (list_at all pattern) stop) (serving_of pattern))
    serving at in
    let picked = picks_below-tells (length (halts_at patterns found.0)) (boards_at (halts_at patterns found.0) stop) (serving_of found.0) serving
    (subst (λ hs. Contains (picks_below (length hs) (boards_at hs stop) (serving_of found.0)) serving) (list_at-halts patterns found.0) found.2) in
    subst (IsServing patterns stop) picked.is (record {
      within = subst (λ n. found.0 < n) (length-map patterns (λ (x : PatternOf). x.halts)) found.1;
      inside = picked.within;
      boards = picked.passes;
    })

-- a run that is held is one of the feed
run_held : (feed : FeedRows) (span : Span) (run : Run) → IsHeld feed span run → IsKnown feed run →
    IsRun (run_of feed run.trip run.day run.shift)
run_held feed span run held known =
    let r = ride_facts_tells feed (record { trip = run.trip; day = run.day; shift = run.shift; from = held.from; to = held.to }) held.facts held.is in
    record {
      served = record { inside = known.inside; low = known.near.day_low; high = known.near.day_high; runs = r.runs };
      runs_so = Contains_from_found (shifts_of feed run.trip) run.shift (list_any-shifts_of feed run.trip run.shift ∙ r.shift);
      low = known.near.shift_low;
      high = known.near.shift_high;
    }

-- two numbers that are tested to be the same are so
told : (m n : ℕ) → (m == n) ≡ true → m ≡ n
told m n same = grind (arith, nat_tests)

same_number : (n : ℕ) → (n == n) ≡ true
same_number n = grind (arith, nat_tests)

-- riders may board a run of a pattern where that serves a stop
stops_at : (feed : FeedRows) (span : Span) (trips : List TripId) (patterns : List PatternOf) (stop : ℕ) (serving : Serving) (run : Run) →
    ArePatterns feed span trips patterns → IsServing patterns stop serving →
    Contains (runs_at patterns serving.pattern) run → StopsAt feed stop serving.position run
stops_at feed span trips patterns stop serving run are serves at =
    let all = in_all patterns serving.pattern run at in
    let halts = has_halts feed span trips patterns serving.pattern run are at in
    let boards : boards_at (halts_of feed run.trip) stop serving.position ≡ true =
    subst (λ hs. boards_at hs stop serving.position ≡ true) (sym halts) serves.boards in
    step (slice_get (calls_of feed run.trip) serving.position) refl boards
    (run_held feed span run (All-contains (IsHeldOf feed span trips) (all_runs patterns) run are.right all).held
    (All-contains (IsKnown feed) (all_runs patterns) run are.known all))
  where
    step : (o : Option Call) → slice_get (calls_of feed run.trip) serving.position ≡ o →
        boards_at (halts_of feed run.trip) stop serving.position ≡ true →
        IsRun (run_of feed run.trip run.day run.shift) → StopsAt feed stop serving.position run
    step None is boards runs =
        absurd (true≢false (sym boards ∙ rw (slice_get-map halt_of (calls_of feed run.trip) serving.position, is) refl))
    step (Some call) is boards runs =
        let parts = and_parts _ _ (sym (boards_at-call feed run.trip serving.position call is stop) ∙ boards) in
        record { goes = runs; call = call; is = is; pickup = parts.0; at = told call.stop.0 stop parts.1 }

-- each position at which patterns let riders board at a stop serves it
serves_stop : (feed : FeedRows) (span : Span) (trips : List TripId) (patterns : List PatternOf) (stop : ℕ) → ArePatterns feed span trips patterns →
    All (Serves feed patterns stop) (servings_at (halts_by_pattern patterns) stop)
serves_stop feed span trips patterns stop are = All-from (Serves feed patterns stop) (servings_at (halts_by_pattern patterns) stop)
    (λ serving at.
    let serves = is_serving patterns stop serving at in
    record {
      pattern = serves.within;
      position = serves.inside;
      runs = All-from (StopsAt feed stop serving.position) (runs_at patterns serving.pattern)
          (λ run has. stops_at feed span trips patterns stop serving run are serves has);
    })

-- each ride that may be caught boards at one of them
takes_one : (feed : FeedRows) (sought : Seeking) (trips : List TripId) (patterns : List PatternOf) (ride : Ride)
    (facts : RideFacts) → AreBoarded feed sought trips →
    ArePatterns feed sought.scope.span trips patterns → IsSpanned feed sought ride facts →
    TakesOneOf patterns (servings_at (halts_by_pattern patterns) facts.from.0)
    (length (servings_at (halts_by_pattern patterns) facts.from.0)) ride
takes_one feed sought trips patterns ride facts boarded are e =
    let held : IsHeld feed sought.scope.span (run_by ride) =
    record { from = ride.from; to = ride.to; facts = facts; is = e.is; since = e.since; until = e.until } in
    let of = of_pattern patterns (run_by ride) (are.held (run_by ride) (record { trip = boarded.all ride facts e; held = held })) in
    let r = ride_facts_tells feed ride facts e.is in
    let from : r.boarding.stop.0 ≡ facts.from.0 = ap (λ (f : RideFacts). f.from.0) r.facts_are in
    let halts : halts_of feed ride.trip ≡ halts_at patterns of.number = has_halts feed sought.scope.span trips patterns of.number (run_by ride) are of.has in
    let boards : boards_at (halts_at patterns of.number) facts.from.0 ride.from ≡ true =
    subst (λ hs. boards_at hs facts.from.0 ride.from ≡ true) halts
    (boards_at-call feed ride.trip ride.from r.boarding r.boards facts.from.0
    ∙ and_from _ _ r.pickup (subst (λ n. (r.boarding.stop.0 == n) ≡ true) from (same_number r.boarding.stop.0))) in
    let inside : ride.from < length (halts_at patterns of.number) =
    subst (λ (hs : List Halt). ride.from < length hs) halts
    (subst (λ n. ride.from < n) (sym (length-map (calls_of feed ride.trip) halt_of))
    (slice_get_within (calls_of feed ride.trip) ride.from r.boarding r.boards)) in
    let there = serving_there patterns facts.from.0 of.number ride.from of.within inside boards in
    let place = slice_get-Contains (servings_at (halts_by_pattern patterns) facts.from.0) (serving_of of.number ride.from) there in (
      place.0,
      slice_get_within (servings_at (halts_by_pattern patterns) facts.from.0) place.0 (serving_of of.number ride.from) place.1,
      serving_of of.number ride.from,
      place.1,
      record { run = of.has; from = refl },
    )

-- so patterns of the runs of a span hold them
pub holds_runs : (feed : FeedRows) (sought : Seeking) (trips : List TripId) (patterns : PatternsOf) →
    AreBoarded feed sought trips → patterns.feed ≡ feed → ArePatterns feed sought.scope.span trips patterns.patterns →
    HoldsRuns feed sought patterns
holds_runs feed sought trips patterns boarded of are = record {
  of = of;
  runs = λ p. All-from (IsRunOf feed) (runs_at patterns.patterns p)
      (λ run has.
      let all = in_all patterns.patterns p run has in
      run_held feed sought.scope.span run
      (All-contains (IsHeldOf feed sought.scope.span trips) (all_runs patterns.patterns) run are.right all).held
      (All-contains (IsKnown feed) (all_runs patterns.patterns) run are.known all));
  all = λ ride facts e.
      let held : IsHeld feed sought.scope.span (run_by ride) =
      record { from = ride.from; to = ride.to; facts = facts; is = e.is; since = e.since; until = e.until } in
      let found = of_pattern patterns.patterns (run_by ride)
      (are.held (run_by ride) (record { trip = boarded.all ride facts e; held = held })) in
      (found.number, found.within, found.has);
}

-- and they give its departures
pub are_departures : (feed : FeedRows) (sought : Seeking) (trips : List TripId) (patterns : PatternsOf) →
    AreBoarded feed sought trips → patterns.feed ≡ feed → ArePatterns feed sought.scope.span trips patterns.patterns →
    AreDepartures feed sought patterns
are_departures feed sought trips patterns boarded of are = record {
  of = of;
  each = λ stop lt. record {
    all = λ ride facts e from.
        subst (λ s. TakesOneOf patterns.patterns (servings_at (halts_by_pattern patterns.patterns) s)
        (length (servings_at (halts_by_pattern patterns.patterns) s)) ride) from
        (takes_one feed sought trips patterns.patterns ride facts boarded are e);
    right = serves_stop feed sought.scope.span trips patterns.patterns stop are;
  };
}

-- one position more
pub takes_more : (patterns : List PatternOf) (servings : List Serving) (k : ℕ) (x : Serving) (ride : Ride) →
    k < length servings → TakesOneOf patterns servings (k + 1) ride →
    TakesOneOf patterns servings k ride ⊎ TakesServing patterns (get_or servings k x) ride
takes_more patterns servings k x ride lt takes =
    let below = takes.1 in
    ⊎_elim (λ lower. inl (takes.0, lower, takes.2, takes.3, takes.4))
    (λ upper.
    let same : takes.0 ≡ k = omega (arith, below, upper) in
    inr (subst (λ s. TakesServing patterns s ride)
    (same_Some _ _ (sym takes.3 ∙ ap (slice_get servings) same ∙ slice_get-get_or servings k x lt)) takes.4))
    (cases_lt takes.0 k)

-- ---- the departures at one position

-- a ride that boards at a position that serves a stop boards at the stop
pub taken_stop : (feed : FeedRows) (patterns : List PatternOf) (stop : ℕ) (serving : Serving) (ride : Ride)
    (facts : RideFacts) → Serves feed patterns stop serving → TakesServing patterns serving ride →
    ride_facts feed ride ≡ Some facts → facts.from.0 ≡ stop
taken_stop feed patterns stop serving ride facts serves takes is =
    let r = ride_facts_tells feed ride facts is in
    let stops = All-contains (StopsAt feed stop serving.position) (runs_at patterns serving.pattern) (run_by ride) serves.runs takes.run in
    let same : r.boarding ≡ stops.call =
    same_Some _ _ (sym r.boards ∙ ap (slice_get (calls_of feed ride.trip)) takes.from ∙ stops.is) in
    ap (λ (f : RideFacts). f.from.0) (sym r.facts_are) ∙ ap (λ (c : Call). c.stop.0) same ∙ stops.at

-- where a run that is boarded departs is where one of the feed departs from the stop
from_stop : (feed : FeedRows) (patterns : List PatternOf) (stop : StopId) (serving : Serving) (b : Boarding) →
    Serves feed patterns stop.0 serving → IsBoarding feed (runs_at patterns serving.pattern) serving.position b →
    IsFromStop feed stop.0 (departure_at feed stop serving.position (runs_at patterns serving.pattern) b)
from_stop feed patterns stop serving b serves boards =
    subst (λ (r : Run). IsFromStop feed stop.0 (departure_by feed stop serving.position r b.at)) (sym run) (departs, refl)
  where
    runs : List Run
    runs = runs_at patterns serving.pattern

    run : get_or runs b.run no_run ≡ boards.run
    run = same_Some _ _ (sym (slice_get-get_or runs b.run no_run (slice_get_within runs b.run boards.run boards.run_is)) ∙ boards.run_is)

    stops : StopsAt feed stop.0 serving.position boards.run
    stops = All-slice_get (StopsAt feed stop.0 serving.position) runs b.run boards.run boards.run_is serves.runs

    call : stops.call ≡ boards.call
    call = same_Some _ _ (sym stops.is ∙ boards.call_is)

    there : boards.call.stop ≡ stop
    there = ap stop_id (ap (λ (c : Call). c.stop.0) (sym call) ∙ stops.at)

    departs : IsDeparture feed (departure_by feed stop serving.position boards.run b.at)
    departs = record {
      run = stops.goes;
      call = boards.call;
      is = boards.call_is;
      pickup = ap (λ (c : Call). c.pickup) (sym call) ∙ stops.pickup;
      made = ap (λ (s : StopId). departure_by feed s serving.position boards.run (record { 0 = moment_of boards.run boards.call.departure })) there
          ∙ ap (λ z. departure_by feed stop serving.position boards.run (record { 0 = z })) (sym boards.at);
    }

-- the departure of a ride among those of the runs that depart from its position
pub boarding_for : (feed : FeedRows) (patterns : List PatternOf) (serving : Serving) (ride : Ride) (facts : RideFacts)
    (listed : List Boarding) (from : ℤ) →
    AreBoardable feed (runs_at patterns serving.pattern) serving.position from listed →
    ride_facts feed ride ≡ Some facts → TakesServing patterns serving ride → from ≤ℤ facts.departure.0 →
    (b : Boarding) × Contains listed b × (b.at ≡ facts.departure)
boarding_for feed patterns serving ride facts listed from are is takes since =
    let runs = runs_at patterns serving.pattern in
    let r = ride_facts_tells feed ride facts is in
    let place = slice_get-Contains runs (run_by ride) takes.run in
    let boarding : Boarding = record { run = place.0; at = facts.departure } in
    let boards : IsBoarding feed runs serving.position boarding =
    record {
      run = run_by ride;
      run_is = place.1;
      call = r.boarding;
      call_is = ap (slice_get (calls_of feed ride.trip)) (sym takes.from) ∙ r.boards;
      at = ap (λ (f : RideFacts). f.departure.0) (sym r.facts_are);
    } in
    (boarding, are.all boarding boards since, refl)

-- where a run is boarded for a ride, the ride departs
departs_with : (feed : FeedRows) (patterns : List PatternOf) (stop : StopId) (serving : Serving) (ride : Ride)
    (facts : RideFacts) (listed : List Boarding) (from : ℤ) → Serves feed patterns stop.0 serving →
    AreBoardable feed (runs_at patterns serving.pattern) serving.position from listed →
    ride_facts feed ride ≡ Some facts → TakesServing patterns serving ride → from ≤ℤ facts.departure.0 →
    Contains (map (departure_at feed stop serving.position (runs_at patterns serving.pattern)) listed) (departure_with ride facts)
departs_with feed patterns stop serving ride facts listed from serves are is takes since =
    subst (Contains (map (departure_at feed stop serving.position runs) listed)) same
    (Contains-map (departure_at feed stop serving.position runs) listed boarding (are.all boarding boards since))
  where
    runs : List Run
    runs = runs_at patterns serving.pattern

    r : IsRideWith feed ride facts
    r = ride_facts_tells feed ride facts is

    place : (i : ℕ) × (slice_get runs i ≡ Some (run_by ride))
    place = slice_get-Contains runs (run_by ride) takes.run

    boarding : Boarding
    boarding = record { run = place.0; at = facts.departure }

    boards : IsBoarding feed runs serving.position boarding
    boards = record {
      run = run_by ride;
      run_is = place.1;
      call = r.boarding;
      call_is = ap (slice_get (calls_of feed ride.trip)) (sym takes.from) ∙ r.boards;
      at = ap (λ (f : RideFacts). f.departure.0) (sym r.facts_are);
    }

    run : get_or runs place.0 no_run ≡ run_by ride
    run = same_Some _ _ (sym (slice_get-get_or runs place.0 no_run (slice_get_within runs place.0 (run_by ride) place.1)) ∙ place.1)

    there : stop ≡ r.boarding.stop
    there = ap stop_id (sym (taken_stop feed patterns stop.0 serving ride facts serves takes is) ∙ ap (λ (f : RideFacts). f.from.0) (sym r.facts_are))

    same : departure_at feed stop serving.position runs boarding ≡ departure_with ride facts
    same = ap (λ (x : Run). departure_by feed stop serving.position x facts.departure) run
        ∙ ap (λ (s : StopId). departure_by feed s serving.position (run_by ride) facts.departure) there
        ∙ ap (λ q. departure_by feed r.boarding.stop q (run_by ride) facts.departure) (sym takes.from)
        ∙ ap (λ (f : RideFacts). departure_by feed r.boarding.stop ride.from (run_by ride) f.departure) (sym r.facts_are)
        ∙ ap (departure_with ride) r.facts_are

-- no boarding at all
abbrev pub no_boarding : Boarding
no_boarding = record { run = 0; at = record { 0 = pos 0 } }

-- the runs that can be boarded at a position, as departures
pub are_since : (feed : FeedRows) (patterns : List PatternOf) (stop : StopId) (serving : Serving) (from : ℤ)
    (listed : List Boarding) → Serves feed patterns stop.0 serving →
    AreBoardable feed (runs_at patterns serving.pattern) serving.position from listed →
    AreSince feed patterns serving stop.0 from
    (map (departure_at feed stop serving.position (runs_at patterns serving.pattern)) listed)
are_since feed patterns stop serving from listed serves are = record {
  all = λ ride facts is takes since. departs_with feed patterns stop serving ride facts listed from serves are is takes since;
  right = λ k d lt. subst (IsFromStop feed stop.0) (sym (here k d lt))
      (from_stop feed patterns stop serving (get_or listed k no_boarding) serves (are.right k no_boarding (below k lt)));
  since = λ k d lt. subst (λ (x : Departure). from ≤ℤ x.at.0) (sym (here k d lt)) (are.since k no_boarding (below k lt));
}
  where
    make : Boarding → Departure
    make = departure_at feed stop serving.position (runs_at patterns serving.pattern)

    below : (k : ℕ) → k < length (map make listed) → k < length listed
    below k lt = subst (λ n. k < n) (length-map listed make) lt

    here : (k : ℕ) (d : Departure) → k < length (map make listed) → get_or (map make listed) k d ≡ make (get_or listed k no_boarding)
    here k d lt = get_or-map make listed k no_boarding d (below k lt)

-- the same of patterns of the feed, whose runs these are
pub since_of : (feed : FeedRows) (patterns : PatternsOf) (stop : StopId) (serving : Serving) (from : ℤ) (runs : List Run)
    (listed : List Boarding) → Serves feed patterns.patterns stop.0 serving → patterns.feed ≡ feed →
    runs ≡ runs_at patterns.patterns serving.pattern →
    AreBoardable patterns.feed (runs_at patterns.patterns serving.pattern) serving.position from listed →
    AreSince feed patterns.patterns serving stop.0 from (map (departure_at feed stop serving.position runs) listed)
since_of feed patterns stop serving from runs listed serves of are boardable =
    subst (λ (rs : List Run). AreSince feed patterns.patterns serving stop.0 from (map (departure_at feed stop serving.position rs) listed))
    (sym are)
    (are_since feed patterns.patterns stop serving from listed serves
    (subst (λ f. AreBoardable f (runs_at patterns.patterns serving.pattern) serving.position from listed) of boardable))

-- a trip that is marked is listed already
pub trip_there : (marks : List Bool) (trips : List TripId) (trip : TripId) → AreListed marks trips → slice_index_or marks trip.0 false ≡ true → AddsTrip trip trips trips
trip_there marks trips trip listed marked = record {
  still = λ other has. has;
  all = λ t same. subst (Contains trips) (sym same) (listed.all trip marked);
  right = λ n lt all. all;
}

-- a trip that is listed last
pub trip_added : (trip : TripId) (old new : List TripId) → new ≡ old ++ trip ∷ [] → AddsTrip trip old new
trip_added trip old new pushed = subst (AddsTrip trip old) (sym pushed) (record {
  still = λ other has. Contains-append_left old (trip ∷ []) other has;
  all = λ t same. subst (Contains (old ++ trip ∷ [])) (sym same) (Contains-push old trip);
  right = λ n lt all. All-push (λ (t : TripId). t.0 < n) old trip all lt;
})

-- what follows of two facts of what is there without an error
pub of_both : {X Y : Type 0} (r : Result X Y) (P Q R : X → Type 0) → ((x : X) → P x → Q x → R x) → IfOk r P → IfOk r Q → IfOk r R
of_both (Ok x) P Q R then p q = then x p q
of_both (Err y) P Q R then p q = tt

-- The runs that have a ride within a span: each is listed, once, and no other.
use Rattle.std.proofs.Common.{◌≡◌, refl, sym, ◌∙◌, ap, subst, ℕ, ◌+◌, ◌-◌, ◌<◌, ◌≤◌, ◌⊎◌, inl, inr, Bool, true, false, List, [], ◌∷◌, ◌++◌, length, get_or, append-nil, arith, add-one, ℤ, pos, negsuc, ◌+ℤ◌, ◌-ℤ◌, ◌≤ℤ◌, ◌<ℤ◌, Contains, AllPairs}
use Rattle.std.specs.Prelude.{if◌then◌else◌, ◌&&◌, ◌==◌, nat_abs, nat_lt, int_le, int_lt, Some, slice_get, unwrap_or}
use Rattle.std.proofs.lemmas.Bool.{and_from, and_parts, cases_lt}
use Rattle.std.proofs.lemmas.Bool.Decides.{nat_tests}
use Rattle.std.proofs.lemmas.Int.{ints}
use Rattle.std.proofs.lemmas.List.{append_assoc, get_or_default}
use Rattle.std.proofs.lemmas.List.Elements.{Contains-get_or}
use Rattle.std.proofs.lemmas.Option.{same_Some, slice_get_within}
use Rattle.transit_base.specs.Limits.{most_time}
use Rattle.transit_base.specs.Moments.{moment_at}
use Rattle.transit_base.specs.declared.calendar.Day.{Day}
use Rattle.transit_base.specs.declared.numbers.TripId.{TripId}
use Rattle.feed_rows.specs.Calls.{calls_of}
use Rattle.feed_rows.specs.FeedRows.{FeedRows}
use Rattle.feed_rows.specs.Rides.{facts_between, is_ride, ride_facts, runs_on}
use Rattle.feed_rows.specs.Shifts.{is_shift, shifts_of}
use Rattle.feed_rows.specs.SoundFeed.{IsSoundFeed}
use Rattle.feed_rows.specs.declared.journeys.Call.{Call}
use Rattle.plan_patterns.specs.declared.span.Span.{Span}
use Rattle.feed_rows.specs.declared.journeys.Ride.{Ride}
use Rattle.feed_rows.specs.declared.journeys.RideFacts.{RideFacts}
use Rattle.feed_timetable.specs.ServicesOn.{services_on}
use Rattle.feed_laws.proofs.CallTimes.{calls_of_rise, calls_of_stays, first_departure_most}
use Rattle.feed_laws.proofs.MomentLaws.{time_of_day_bound, moment_at-parts}
use Rattle.feed_laws.proofs.RideLaws.{is_ride_by_shift, ride_facts_tells, ride_facts_timed}
use Rattle.feed_laws.proofs.ShiftLaws.{Contains_from_found, found_from_Contains, is_shift_bounds, list_any-shifts_of, shifts_of_strict}
use Rattle.feed_laws.proofs.SoundTrips.{sound_trip}
use Rattle.plain_laws.specs.Plain.{at_and, filled_and, int_same, picks_below}
use Rattle.plain_laws.proofs.Laws.{Filled, AllPairs-joined_below, AllPairs-picks_below, All-from, Contains-joined_below, Contains-picks_below, any_below_hit, any_below_tells, filled_and-true, int_le-true, int_lt-true, int_same-true, joined_below-tells, le-int_le, picks_below-none, picks_below-tells, slice_get-list_below}
use Rattle.plan_patterns.specs.declared.runs.Run.{Run}
use Rattle.plan_patterns.specs.HeldRuns.{active_days, day_after_first, days_of, ends_before, first_day, has_ended, held_before, held_of_trip, held_of_trips, held_on_day, held_on_days, run_with, trip_at}
use Rattle.plan_patterns.specs.Runs.{AreHeld, AreTripsOf, IsHeld, IsHeldOf, IsKnown, alights_in_time, boards_in_time, has_ride, is_boarded, moment_of, ride_by, same_run}
use Rattle.plan_patterns.specs.Spans.{IsUsualSpan}

-- one number more is looked at
pub picks_more : {X : Type 0} (n : ℕ) (test : ℕ → Bool) (f : ℕ → X) (old now next : List X) (x : X) (passes : Bool) →
    now ≡ old ++ picks_below n test f → x ≡ f n → passes ≡ test n → next ≡ (if passes then now ++ x ∷ [] else now) →
    next ≡ old ++ picks_below (n + 1) test f
picks_more n test f old now next x true was is e here =
    rw (add-one, ← e, ← is, here, was) (append_assoc old (picks_below n test f) (x ∷ []))
picks_more n test f old now next x false was is e here =
    rw (add-one, ← e, here, was) (ap (λ xs. old ++ xs) (sym (append-nil (picks_below n test f))))

-- one day more is looked at
pub days_more : (feed : FeedRows) (span : Span) (trip : TripId) (n : ℕ) (old now here next : List Run) → now ≡ old ++ held_on_days feed span trip n →
    here ≡ held_on_day feed span trip (day_after_first (first_day span) n) → next ≡ now ++ here → next ≡ old ++ held_on_days feed span trip (n + 1)
days_more feed span trip n old now here next was is e = rw (add-one, ← is, e, was) (append_assoc old (held_on_days feed span trip n) here)

-- and none on which the trip doesn't run
pub day_without : (feed : FeedRows) (span : Span) (trip : TripId) (day : Day) → runs_on feed trip day.0 ≡ false → held_on_day feed span trip day ≡ []
unfolding held_on_day
day_without feed span trip day idle = rw idle refl

-- which services are active on a day, by its number
pub active_at : (feed : FeedRows) (span : Span) (active : List (List Bool)) (n : ℕ) → active ≡ active_days feed span → n < days_of span →
    unwrap_or (slice_get active n) [] ≡ services_on feed (day_after_first (first_day span) n).0
active_at feed span active n is lt =
    ap (λ days. unwrap_or (slice_get days n) []) is
    ∙ ap (λ o. unwrap_or o []) (slice_get-list_below (days_of span) (λ days. services_on feed (day_after_first (first_day span) days).0) n lt)

-- a ride is told by its parts
ride_is : (feed : FeedRows) (ride : Ride) (a b : Call) → runs_on feed ride.trip ride.day.0 ≡ true → Contains (shifts_of feed ride.trip) ride.shift → ride.from < ride.to →
    slice_get (calls_of feed ride.trip) ride.from ≡ Some a → slice_get (calls_of feed ride.trip) ride.to ≡ Some b → a.pickup ≡ true → b.drop_off ≡ true →
    ride_facts feed ride ≡ Some (facts_between feed ride a b)
unfolding ride_facts
ride_is feed ride a b runs shift lt boards alights pickup drop_off =
    let is : is_ride feed ride ≡ true = is_ride_by_shift feed ride
    ∙ and_from _ _ (and_from _ _ (and_from _ _ (and_from _ _ runs (sym (list_any-shifts_of feed ride.trip ride.shift) ∙ found_from_Contains (shifts_of feed ride.trip) ride.shift shift)) (less ride.from ride.to lt))
    (ap (λ o. filled_and o (λ (c : Call). c.pickup)) boards ∙ pickup)) (ap (λ o. filled_and o (λ (c : Call). c.drop_off)) alights ∙ drop_off) in
    rw (is, boards, alights) refl
  where
    less : (m n : ℕ) → m < n → nat_lt m n ≡ true
    less m n lt = grind (arith, nat_tests)

-- a run with a ride in time has one that the definitions know
held_from_ride : (feed : FeedRows) (span : Span) (run : Run) → runs_on feed run.trip run.day.0 ≡ true → Contains (shifts_of feed run.trip) run.shift →
    has_ride span run (calls_of feed run.trip) ≡ true → IsHeld feed span run
unfolding boards_in_time alights_in_time
held_from_ride feed span run runs shift e =
    let calls = calls_of feed run.trip in
    let end = any_below_tells (λ to. is_boarded span run calls to && at_and calls to (alights_in_time span run)) (length calls) e in
    let both = and_parts _ _ end.2 in
    let begin = any_below_tells (λ from. at_and calls from (boards_in_time span run)) end.0 both.0 in
    let boards = filled_and-true (slice_get calls begin.0) _ begin.2 in
    let alights = filled_and-true (slice_get calls end.0) _ both.1 in
    let board = and_parts _ _ boards.passes in
    let alight = and_parts _ _ alights.passes in
    record {
      from = begin.0;
      to = end.0;
      facts = facts_between feed (ride_by run begin.0 end.0) boards.value alights.value;
      is = ride_is feed (ride_by run begin.0 end.0) boards.value alights.value runs shift begin.1 boards.is alights.is board.0 alight.0;
      since = int_le-true _ _ board.1;
      until = int_le-true _ _ alight.1;
    }

-- what a held run is
record IsHeldRun (feed : FeedRows) (span : Span) (run : Run) : Type 0 where
  runs : runs_on feed run.trip run.day.0 ≡ true
  shift : is_shift feed run.trip run.shift ≡ true
  has : has_ride span run (calls_of feed run.trip) ≡ true

held_tells : (feed : FeedRows) (span : Span) (run : Run) → IsHeld feed span run → IsHeldRun feed span run
unfolding boards_in_time alights_in_time
held_tells feed span run held =
    let calls = calls_of feed run.trip in
    let ride = ride_by run held.from held.to in
    let r = ride_facts_tells feed ride held.facts held.is in
    let since : span.from.0 ≤ℤ moment_of run r.boarding.departure = subst (λ (f : RideFacts). span.from.0 ≤ℤ f.departure.0) (sym r.facts_are) held.since in
    let until : moment_of run r.alighting.arrival ≤ℤ span.until.0 = subst (λ (f : RideFacts). f.arrival.0 ≤ℤ span.until.0) (sym r.facts_are) held.until in
    let boards : at_and calls held.from (boards_in_time span run) ≡ true = ap (λ o. filled_and o (boards_in_time span run)) r.boards ∙ and_from _ _ r.pickup (le-int_le _ _ since) in
    let alights : at_and calls held.to (alights_in_time span run) ≡ true = ap (λ o. filled_and o (alights_in_time span run)) r.alights ∙ and_from _ _ r.drop_off (le-int_le _ _ until) in
    let boarded = any_below_hit (λ from. at_and calls from (boards_in_time span run)) held.to held.from r.forward boards in
    record {
      runs = r.runs;
      shift = r.shift;
      has = any_below_hit (λ to. is_boarded span run calls to && at_and calls to (alights_in_time span run)) (length calls) held.to (slice_get_within calls held.to r.alighting r.alights) (and_from _ _ boarded alights);
    }

-- a number that is not below another is so many above it
above : (first day : ℤ) → first ≤ℤ day → (k : ℕ) × (first +ℤ pos k ≡ day)
above first day low = step (day -ℤ first) refl
  where
    step : (z : ℤ) → day -ℤ first ≡ z → (k : ℕ) × (first +ℤ pos k ≡ day)
    step (pos k) e = (k, omega (arith, ints))
    step (negsuc k) e = absurd (omega (arith, ints))

-- the seconds from a moment to one that is no earlier
seconds_is : (from until : ℤ) → from ≤ℤ until → pos (nat_abs (until -ℤ from)) ≡ until -ℤ from
seconds_is from until forward = step (until -ℤ from) refl
  where
    step : (z : ℤ) → until -ℤ from ≡ z → pos (nat_abs z) ≡ z
    step (pos k) e = refl
    step (negsuc k) e = absurd (omega (arith, ints))

-- it runs on one of the days that are looked at
held_day : (feed : FeedRows) (span : Span) (run : Run) → IsSoundFeed feed → IsHeld feed span run → (k : ℕ) × (k < days_of span) × (first_day span +ℤ pos k ≡ run.day.0)
held_day feed span run sound held =
    let t = ride_facts_timed feed (ride_by run held.from held.to) held.facts most_time (sound_trip feed run.trip sound) held.is in
    let parts = moment_at-parts span.from.0 in
    let bound = time_of_day_bound span.from.0 in
    let since = held.since in
    let until = held.until in
    let departs = t.departs in
    let forward = t.forward in
    let arrives = t.arrives in
    let from = above (first_day span) run.day.0 (omega (arith, ints)) in
    let is = from.1 in
    let long = seconds_is span.from.0 span.until.0 (omega (arith, ints)) in
    (from.0, omega (arith, ints), from.1)

-- the run by its parts
same_parts : (run : Run) (trip : ℕ) (day shift : ℤ) → run.trip.0 ≡ trip → run.day.0 ≡ day → run.shift ≡ shift → run ≡ record { trip = record { 0 = trip }; day = record { 0 = day }; shift = shift }
same_parts run trip day shift a b c =
    ap (λ t. the t run.day.0 run.shift) a ∙ ap (λ d. the trip d run.shift) b ∙ ap (λ z. the trip day z) c
  where
    the : ℕ → ℤ → ℤ → Run
    the t d z = record { trip = record { 0 = t }; day = record { 0 = d }; shift = z }

-- a held run is listed with those of its trip and day
on_day : (feed : FeedRows) (span : Span) (run : Run) → IsHeldRun feed span run → Contains (held_on_day feed span run.trip run.day) run
unfolding held_on_day
on_day feed span run is =
    let shifts = shifts_of feed run.trip in
    let at = Contains_from_found shifts run.shift (list_any-shifts_of feed run.trip run.shift ∙ is.shift) in
    let place = at.0 in
    let same : run_with run.trip run.day shifts place ≡ run = sym (same_parts run run.trip.0 run.day.0 (get_or shifts place (pos 0)) refl refl (sym at.2 ∙ get_or_default shifts place run.shift (pos 0) at.1)) in
    let has : has_ride span (run_with run.trip run.day shifts place) (calls_of feed run.trip) ≡ true = ap (λ r. has_ride span r (calls_of feed run.trip)) same ∙ is.has in
    rw is.runs (subst (λ r. Contains (held_before feed span run.trip run.day shifts (length shifts)) r) same
    (Contains-picks_below (length shifts) (λ p. has_ride span (run_with run.trip run.day shifts p) (calls_of feed run.trip)) (run_with run.trip run.day shifts) place at.1 has))

-- a trip that runs is one of the feed
known_trip : (feed : FeedRows) (trip : TripId) (day : ℤ) → runs_on feed trip day ≡ true → trip.0 < length feed.trips
known_trip feed trip day runs =
    let row = filled_and-true (slice_get feed.trips trip.0) _ runs in
    slice_get_within feed.trips trip.0 row.value row.is

-- so it is listed, where its trip is given
held_listed : (feed : FeedRows) (span : Span) (trips : List TripId) (run : Run) → IsSoundFeed feed → IsHeldOf feed span trips run → Contains (held_of_trips feed span trips (length trips)) run
unfolding held_of_trip
held_listed feed span trips run sound held =
    let is = held_tells feed span run held.held in
    let day = held_day feed span run sound held.held in
    let same : day_after_first (first_day span) day.0 ≡ run.day = ap (λ (d : ℤ). the_day d) day.2 in
    let at = held.trip in
    let here : run.trip ≡ trip_at trips at.0 = sym at.2 ∙ get_or_default trips at.0 run.trip (record { 0 = 0 }) at.1 in
    Contains-joined_below (length trips) (λ place. held_of_trip feed span (trip_at trips place)) at.0 run at.1
    (subst (λ t. Contains (held_of_trip feed span t) run) here
    (Contains-joined_below (days_of span) (λ days. held_on_day feed span run.trip (day_after_first (first_day span) days)) day.0 run day.1
    (subst (λ d. Contains (held_on_day feed span run.trip d) run) (sym same) (on_day feed span run is))))
  where
    the_day : ℤ → Day
    the_day d = record { 0 = d }

-- what is listed of a trip on a day
record IsListed (feed : FeedRows) (span : Span) (trip : TripId) (day : Day) (run : Run) : Type 0 where
  runs : runs_on feed trip day.0 ≡ true
  place : ℕ
  within : place < length (shifts_of feed trip)
  is : run_with trip day (shifts_of feed trip) place ≡ run
  has : has_ride span run (calls_of feed trip) ≡ true

day_tells : (feed : FeedRows) (span : Span) (trip : TripId) (day : Day) (run : Run) → Contains (held_on_day feed span trip day) run → IsListed feed span trip day run
unfolding held_on_day
day_tells feed span trip day run at = step (runs_on feed trip day.0) refl at
  where
    shifts : List ℤ
    shifts = shifts_of feed trip

    step : (b : Bool) → runs_on feed trip day.0 ≡ b → Contains (if b then held_before feed span trip day shifts (length shifts) else []) run → IsListed feed span trip day run
    step false e at = let lt = at.1 in absurd (omega arith)
    step true e at =
        let p = picks_below-tells (length shifts) (λ place. has_ride span (run_with trip day shifts place) (calls_of feed trip)) (run_with trip day shifts) run at in
        record { runs = e; place = p.number; within = p.within; is = p.is; has = ap (λ r. has_ride span r (calls_of feed trip)) (sym p.is) ∙ p.passes }

-- its trip and day are these
listed_trip : (feed : FeedRows) (span : Span) (trip : TripId) (day : Day) (run : Run) → IsListed feed span trip day run → (run.trip ≡ trip) × (run.day ≡ day)
listed_trip feed span trip day run is = (ap (λ (r : Run). r.trip) (sym is.is), ap (λ (r : Run). r.day) (sym is.is))

-- what is listed of a trip
trip_tells : (feed : FeedRows) (span : Span) (trip : TripId) (run : Run) → Contains (held_of_trip feed span trip) run →
    (k : ℕ) × (k < days_of span) × IsListed feed span trip (day_after_first (first_day span) k) run
unfolding held_of_trip
trip_tells feed span trip run at =
    let found = joined_below-tells (days_of span) (λ days. held_on_day feed span trip (day_after_first (first_day span) days)) run at in
    (found.0, found.1, day_tells feed span trip (day_after_first (first_day span) found.0) run found.2)

-- a run that is listed is held
listed_held : (feed : FeedRows) (span : Span) (trip : TripId) (day : Day) (run : Run) → IsListed feed span trip day run → IsHeld feed span run
listed_held feed span trip day run is =
    let own = listed_trip feed span trip day run is in
    let shift : get_or (shifts_of feed trip) is.place (pos 0) ≡ run.shift = ap (λ (r : Run). r.shift) is.is in
    held_from_ride feed span run
    (subst (λ t. runs_on feed t run.day.0 ≡ true) (sym own.0) (subst (λ (d : Day). runs_on feed trip d.0 ≡ true) (sym own.1) is.runs))
    (subst (λ t. Contains (shifts_of feed t) run.shift) (sym own.0) (is.place, is.within, get_or_default (shifts_of feed trip) is.place run.shift (pos 0) is.within ∙ shift))
    (subst (λ t. has_ride span run (calls_of feed t) ≡ true) (sym own.0) is.has)

-- and lies within its bounds
held_known : (feed : FeedRows) (span : Span) (run : Run) → IsSoundFeed feed → IsUsualSpan span → IsHeld feed span run → IsKnown feed run
held_known feed span run sound usual held =
    let is = held_tells feed span run held in
    let timed = sound_trip feed run.trip sound in
    let begins = first_departure_most feed run.trip most_time timed.ends timed.times in
    let shifts = is_shift_bounds feed run.trip run.shift most_time (omega arith) timed.runs begins is.shift in
    let low = shifts.0 in
    let high = shifts.1 in
    let day = held_day feed span run sound held in
    let few = day.1 in
    let at = day.2 in
    let parts = moment_at-parts span.from.0 in
    let bound = time_of_day_bound span.from.0 in
    let early = usual.early in
    let late = usual.late in
    let most = usual.few in
    let long = seconds_is span.from.0 span.until.0 usual.forward in
    record {
      inside = known_trip feed run.trip run.day.0 is.runs;
      near = record { day_low = omega (arith, ints); day_high = omega (arith, ints); shift_low = omega (arith, ints); shift_high = omega (arith, ints) };
    }

-- runs that differ in a part are not one
other_trip : (a b : Run) → (a.trip.0 ≡ b.trip.0 → ⊥) → same_run a b ≡ false
other_trip a b apart = let no : (a.trip.0 == b.trip.0) ≡ false = grind (arith, nat_tests) in rw no refl

other_day : (a b : Run) → (a.day.0 ≡ b.day.0 → ⊥) → same_run a b ≡ false
other_day a b apart = step (a.trip.0 == b.trip.0) (int_same a.day.0 b.day.0) refl
  where
    step : (t d : Bool) → int_same a.day.0 b.day.0 ≡ d → (t && d && int_same a.shift b.shift) ≡ false
    step t true e = absurd (apart (int_same-true a.day.0 b.day.0 e))
    step true false e = refl
    step false false e = refl

other_shift : (a b : Run) → (a.shift ≡ b.shift → ⊥) → same_run a b ≡ false
other_shift a b apart = step ((a.trip.0 == b.trip.0) && int_same a.day.0 b.day.0) (int_same a.shift b.shift) refl
  where
    step : (t z : Bool) → int_same a.shift b.shift ≡ z → (t && z) ≡ false
    step t true e = absurd (apart (int_same-true a.shift b.shift e))
    step true false e = refl
    step false false e = refl

abbrev AreOther : Run → Run → Type 0
AreOther a b = same_run a b ≡ false

none_other : AllPairs AreOther []
none_other i j d lt within = absurd (omega arith)

-- those of a trip on a day differ in their shifts
day_once : (feed : FeedRows) (span : Span) (trip : TripId) (day : Day) → AllPairs AreOther (held_on_day feed span trip day)
unfolding held_on_day
day_once feed span trip day = step (runs_on feed trip day.0)
  where
    shifts : List ℤ
    shifts = shifts_of feed trip

    below : (x y : ℤ) → x <ℤ y → x ≡ y → ⊥
    below x y lt e = omega (arith, ints)

    step : (b : Bool) → AllPairs AreOther (if b then held_before feed span trip day shifts (length shifts) else [])
    step false = none_other
    step true = AllPairs-picks_below AreOther (length shifts) (λ place. has_ride span (run_with trip day shifts place) (calls_of feed trip)) (run_with trip day shifts)
        (λ i j lt within. other_shift (run_with trip day shifts i) (run_with trip day shifts j) (below _ _ (shifts_of_strict feed trip i j (pos 0) lt within)))

-- those of a trip on two days in their days
trip_once : (feed : FeedRows) (span : Span) (trip : TripId) → AllPairs AreOther (held_of_trip feed span trip)
unfolding held_of_trip
trip_once feed span trip =
    AllPairs-joined_below AreOther (days_of span) (λ days. held_on_day feed span trip (day_after_first (first_day span) days))
    (λ i lt. day_once feed span trip (day_after_first (first_day span) i))
    (λ i j a b lt within at also.
    let one = (listed_trip feed span trip (day_after_first (first_day span) i) a (day_tells feed span trip (day_after_first (first_day span) i) a at)).1 in
    let other = (listed_trip feed span trip (day_after_first (first_day span) j) b (day_tells feed span trip (day_after_first (first_day span) j) b also)).1 in
    other_day a b (λ e. later (first_day span) i j lt (ap (λ (d : Day). d.0) (sym one) ∙ e ∙ ap (λ (d : Day). d.0) other)))
  where
    later : (first : ℤ) (i j : ℕ) → i < j → first +ℤ pos i ≡ first +ℤ pos j → ⊥
    later first i j lt e = omega (arith, ints)

-- the runs of all these trips
pub held_all : (feed : FeedRows) (span : Span) (trips : List TripId) (runs : List Run) (n : ℕ) → IsSoundFeed feed → IsUsualSpan span → AreTripsOf feed trips → n ≡ length trips → runs ≡ held_of_trips feed span trips n → AreHeld feed span trips runs
held_all feed span trips runs n sound usual of all is =
    subst (AreHeld feed span trips) (sym is) (record {
      all = λ run held. subst (λ m. Contains (held_of_trips feed span trips m) run) (sym all) (held_listed feed span trips run sound held);
      right = All-from (IsHeldOf feed span trips) (held_of_trips feed span trips n) right;
      known = All-from (IsKnown feed) (held_of_trips feed span trips n) (λ run at. held_known feed span run sound usual (right run at).held);
      once = AllPairs-joined_below AreOther n (λ place. held_of_trip feed span (trip_at trips place))
          (λ i lt. trip_once feed span (trip_at trips i))
          (λ i j a b lt within at also. other_trip a b (λ e. of.once i j (record { 0 = 0 }) lt (omega arith)
          (sym (own i a at) ∙ same_trip a.trip b.trip e ∙ own j b also)));
    })
  where
    own : (place : ℕ) (run : Run) → Contains (held_of_trip feed span (trip_at trips place)) run → run.trip ≡ trip_at trips place
    own place run at =
        let listed = trip_tells feed span (trip_at trips place) run at in
        (listed_trip feed span (trip_at trips place) (day_after_first (first_day span) listed.0) run listed.2).0

    same_trip : (a b : TripId) → a.0 ≡ b.0 → a ≡ b
    same_trip a b e = ap (λ (k : ℕ). the_trip k) e
      where
        the_trip : ℕ → TripId
        the_trip k = record { 0 = k }

    right : (run : Run) → Contains (held_of_trips feed span trips n) run → IsHeldOf feed span trips run
    right run at =
        let found = joined_below-tells n (λ place. held_of_trip feed span (trip_at trips place)) run at in
        let below = found.1 in
        let listed = trip_tells feed span (trip_at trips found.0) run found.2 in
        record {
          trip = subst (Contains trips) (sym (own found.0 run found.2)) (Contains-get_or trips found.0 (record { 0 = 0 }) (omega arith));
          held = listed_held feed span (trip_at trips found.0) (day_after_first (first_day span) listed.0) run listed.2;
        }

-- runs of a trip that has ended have no ride
pub none_held : (feed : FeedRows) (span : Span) (trip : TripId) (day : Day) → IsSoundFeed feed → has_ended span trip day (shifts_of feed trip) (calls_of feed trip) ≡ true → held_on_day feed span trip day ≡ []
unfolding held_on_day boards_in_time alights_in_time
none_held feed span trip day sound ended = step (runs_on feed trip day.0)
  where
    shifts : List ℤ
    shifts = shifts_of feed trip

    calls : List Call
    calls = calls_of feed trip

    parts : (nat_lt 0 (length shifts) ≡ true) × (ends_before span (run_with trip day shifts (length shifts - 1)) calls ≡ true)
    parts = and_parts (nat_lt 0 (length shifts)) (ends_before span (run_with trip day shifts (length shifts - 1)) calls) ended

    last : Filled (slice_get calls (length calls - 1)) (λ (call : Call). int_lt (moment_of (run_with trip day shifts (length shifts - 1)) call.arrival) span.from.0)
    last = filled_and-true (slice_get calls (length calls - 1)) (λ (call : Call). int_lt (moment_of (run_with trip day shifts (length shifts - 1)) call.arrival) span.from.0) parts.1

    later_shift : (place : ℕ) → place < length shifts → (place < length shifts - 1) ⊎ (length shifts - 1 ≤ place) → get_or shifts place (pos 0) ≤ℤ get_or shifts (length shifts - 1) (pos 0)
    later_shift place lt (inl before) = below (get_or shifts place (pos 0)) (get_or shifts (length shifts - 1) (pos 0)) (shifts_of_strict feed trip place (length shifts - 1) (pos 0) before (omega arith))
      where
        below : (x y : ℤ) → x <ℤ y → x ≤ℤ y
        below x y lt = omega (arith, ints)
    later_shift place lt (inr past) = let same : place ≡ length shifts - 1 = omega arith in equal (get_or shifts place (pos 0)) (get_or shifts (length shifts - 1) (pos 0)) (ap (λ k. get_or shifts k (pos 0)) same)
      where
        equal : (x y : ℤ) → x ≡ y → x ≤ℤ y
        equal x y e = omega (arith, ints)

    later_call : (to : ℕ) (call : Call) → slice_get calls to ≡ Some call → (to < length calls - 1) ⊎ (length calls - 1 ≤ to) → call.arrival ≤ last.value.arrival
    later_call to call is (inl before) =
        let timed = sound_trip feed trip sound in
        let stays = calls_of_stays feed trip to call timed.ends timed.rise is in
        let rises = calls_of_rise feed trip to (length calls - 1) call last.value timed.ends timed.rise before is last.is in
        omega arith
    later_call to call is (inr past) =
        let lt = slice_get_within calls to call is in
        let same : to ≡ length calls - 1 = omega arith in
        let here : call ≡ last.value = same_Some call last.value (sym is ∙ ap (slice_get calls) same ∙ last.is) in
        let arrives = ap (λ (c : Call). c.arrival) here in
        omega arith

    over : (day since shift most : ℤ) (departs arrives end : ℕ) → since ≤ℤ moment_at day (shift +ℤ pos departs) → departs ≤ arrives → arrives ≤ end → shift ≤ℤ most → moment_at day (most +ℤ pos end) <ℤ since → ⊥
    over day since shift most departs arrives end a b c d e = omega (arith, ints)

    fails : (place : ℕ) → place < length shifts → has_ride span (run_with trip day shifts place) calls ≡ true → ⊥
    fails place lt e =
        let run = run_with trip day shifts place in
        let end = any_below_tells (λ to. is_boarded span run calls to && at_and calls to (alights_in_time span run)) (length calls) e in
        let both = and_parts (is_boarded span run calls end.0) (at_and calls end.0 (alights_in_time span run)) end.2 in
        let begin = any_below_tells (λ from. at_and calls from (boards_in_time span run)) end.0 both.0 in
        let boards = filled_and-true (slice_get calls begin.0) (boards_in_time span run) begin.2 in
        let alights = filled_and-true (slice_get calls end.0) (alights_in_time span run) both.1 in
        let board = and_parts boards.value.pickup (int_le span.from.0 (moment_of run boards.value.departure)) boards.passes in
        let timed = sound_trip feed trip sound in
        over day.0 span.from.0 run.shift (get_or shifts (length shifts - 1) (pos 0)) boards.value.departure alights.value.arrival last.value.arrival
        (int_le-true span.from.0 (moment_of run boards.value.departure) board.1)
        (calls_of_rise feed trip begin.0 end.0 boards.value alights.value timed.ends timed.rise begin.1 boards.is alights.is)
        (later_call end.0 alights.value alights.is (cases_lt end.0 (length calls - 1)))
        (later_shift place lt (cases_lt place (length shifts - 1)))
        (int_lt-true (moment_of (run_with trip day shifts (length shifts - 1)) last.value.arrival) span.from.0 last.passes)

    none : (b : Bool) → (b ≡ true → ⊥) → b ≡ false
    none true never = absurd (never refl)
    none false never = refl

    step : (b : Bool) → (if b then held_before feed span trip day shifts (length shifts) else []) ≡ []
    step false = refl
    step true = picks_below-none (length shifts) (λ place. has_ride span (run_with trip day shifts place) calls) (run_with trip day shifts) (λ place lt. none (has_ride span (run_with trip day shifts place) calls) (fails place lt))

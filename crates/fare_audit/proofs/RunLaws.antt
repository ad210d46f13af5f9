-- The rides of runs, and which of them are covered.
use Rattle.std.proofs.Common.{◌≡◌, refl, sym, ◌∙◌, ap, subst, ℕ, ◌+◌, ◌<◌, ◌≤◌, ◌⊎◌, ⊎_elim, true, false, List, length, Contains, ℤ, pos, ◌+ℤ◌, ◌-ℤ◌, ◌≤ℤ◌, ◌<ℤ◌, ◌++◌, ◌∷◌, [], All, get_or, take, negsuc, arith}
use Rattle.std.specs.Prelude.{Option, Some, slice_get, nat_lt}
use Rattle.std.proofs.lemmas.Bool.{and_from, cases_lt, false≢true}
use Rattle.std.proofs.lemmas.Bool.Decides.{nat_tests}
use Rattle.std.proofs.lemmas.Int.{ints}
use Rattle.std.proofs.lemmas.Option.{get_or_from_slice_get, same_Some, slice_get-get_or, slice_get_within}
use Rattle.std.proofs.lemmas.List.Elements.{All-contains, All-push, Contains-get_or, Contains-push_cases}
use Rattle.transit_base.specs.declared.numbers.TripId.{TripId}
use Rattle.transit_base.specs.declared.numbers.NetworkId.{NetworkId}
use Rattle.transit_base.specs.declared.numbers.ServiceId.{ServiceId}
use Rattle.transit_base.specs.declared.numbers.StopId.{StopId}
use Rattle.transit_base.specs.Limits.{most_time}
use Rattle.feed_rows.specs.declared.rows.StopTimeRow.{StopTimeRow}
use Rattle.feed_rows.specs.declared.rows.TripRow.{TripRow}
use Rattle.feed_rows.specs.Limits.{least_shift, most_shift}
use Rattle.feed_rows.specs.ServiceDays.{is_active}
use Rattle.feed_rows.specs.SoundFeed.{IsSoundFeed}
use Rattle.feed_laws.proofs.CallLaws.{calls_of_row}
use Rattle.feed_laws.proofs.CallTimes.{first_departure_most}
use Rattle.feed_laws.proofs.SoundTrips.{row_at, sound_trip}
use Rattle.feed_rows.specs.declared.journeys.Call.{Call}
use Rattle.feed_rows.specs.declared.journeys.Ride.{Ride}
use Rattle.feed_rows.specs.declared.journeys.RideFacts.{RideFacts}
use Rattle.feed_rows.specs.Calls.{calls_of}
use Rattle.feed_rows.specs.FeedRows.{FeedRows}
use Rattle.feed_rows.specs.Rides.{facts_between, is_ride, moment_of, ride_facts, runs_on, trip_network}
use Rattle.feed_rows.specs.Legs.{frames_at}
use Rattle.transit_base.specs.Moments.{moment_at}
use Rattle.feed_rows.specs.Shifts.{is_shift, shifts_of}
use Rattle.feed_laws.proofs.RideLaws.{is_ride_by_shift, ride_facts_tells}
use Rattle.feed_laws.proofs.ShiftLaws.{Contains_from_found, found_from_Contains, is_shift_bounds, list_any-shifts_of}
use Rattle.plain_laws.specs.Plain.{filled_and}
use Rattle.plain_laws.proofs.Laws.{Contains-slice_get, slice_get-new_item, slice_get-old_item}
use Rattle.std.proofs.lemmas.List.{length_push, take_more}
use Rattle.fare_audit.specs.declared.days.Reach.{Reach}
use Rattle.fare_audit.specs.declared.ends.End.{End}
use Rattle.fare_audit.specs.declared.found.Found.{Found}
use Rattle.fare_audit.specs.declared.walk.Run.{Run}
use Rattle.fare_audit.specs.Days.{AreAlike, AreDaysLike, AreWithin, IsWithin}
use Rattle.fare_timeframes.specs.Cuts.{AreLike}
use Rattle.fare_audit.specs.Found.{AuditOf, CoversEnds, CoversPair, GrowsTo, HasRide, IsAudited, IsCovered, StandsFor}
use Rattle.fare_audit.specs.Runs.{AreEndsOf, CoversRun, CoversShift, CoversTrip, IsAuditedRun, IsEndOf, IsNearRun, ride_by}
use Rattle.fare_audit.proofs.DayLaws.{frames_alike}
use Rattle.fare_audit.proofs.FoundLaws.{covered_later, covered_like, item_at}
use Rattle.fare_audit.proofs.GapLaws.{runs_within}

-- a ride is told by its parts
pub ride_is : (feed : FeedRows) (ride : Ride) (a b : Call) → runs_on feed ride.trip ride.day.0 ≡ true → is_shift feed ride.trip ride.shift ≡ true → ride.from < ride.to →
    slice_get (calls_of feed ride.trip) ride.from ≡ Some a → slice_get (calls_of feed ride.trip) ride.to ≡ Some b → a.pickup ≡ true → b.drop_off ≡ true →
    ride_facts feed ride ≡ Some (facts_between feed ride a b)
unfolding ride_facts
ride_is feed ride a b runs shift lt boards alights pickup drop_off =
    let is : is_ride feed ride ≡ true = is_ride_by_shift feed ride
    ∙ and_from _ _ (and_from _ _ (and_from _ _ (and_from _ _ runs shift) (less ride.from ride.to lt))
    (ap (λ o. filled_and o (λ (c : Call). c.pickup)) boards ∙ pickup)) (ap (λ o. filled_and o (λ (c : Call). c.drop_off)) alights ∙ drop_off) in
    rw (is, boards, alights) refl
  where
    less : (m n : ℕ) → m < n → nat_lt m n ≡ true
    less m n lt = grind (arith, nat_tests)

module _ (audit : AuditOf) (run : Run) (ends : List End) (is : IsAuditedRun audit run) (are : AreEndsOf audit.feed run (calls_of audit.feed run.trip) ends) where
  -- a ride of the run stands between its ends
  pub ride_stands : (from to : ℕ) (facts : RideFacts) (e f : End) → ride_facts audit.feed (ride_by run from to) ≡ Some facts →
      slice_get ends from ≡ Some e → slice_get ends to ≡ Some f → StandsFor audit run.network e f facts
  ride_stands from to facts e f ride at on =
      let r = ride_facts_tells audit.feed (ride_by run from to) facts ride in
      let a = are.each from e at in
      let b = are.each to f on in
      let boards : a.0 ≡ r.boarding = same_Some _ _ (sym a.1 ∙ r.boards) in
      let alights : b.0 ≡ r.alighting = same_Some _ _ (sym b.1 ∙ r.alights) in
      let begin : IsEndOf audit.feed run r.boarding e = subst (λ (c : Call). IsEndOf audit.feed run c e) boards a.2 in
      let end : IsEndOf audit.feed run r.alighting f = subst (λ (c : Call). IsEndOf audit.feed run c f) alights b.2 in
      subst (StandsFor audit run.network e f) r.facts_are (record {
        audited = record { ride = ride_by run from to; number = is.number; within = is.within; day = is.day; is = ride ∙ ap Some (sym r.facts_are) };
        from_stop = begin.stop;
        to_stop = end.stop;
        like = record { network = is.network; from_areas = begin.areas; to_areas = end.areas; from_frames = begin.departs; to_frames = end.arrives };
      })

  -- and there is one where riders may board and alight
  pub ride_there : (from to : ℕ) (e f : End) → from < to → slice_get ends from ≡ Some e → slice_get ends to ≡ Some f → e.pickup ≡ true → f.drop_off ≡ true →
      HasRide audit run.network e f
  ride_there from to e f lt at on pickup drop_off =
      let a = are.each from e at in
      let b = are.each to f on in
      let ride = ride_by run from to in
      let shift = sym (list_any-shifts_of audit.feed run.trip run.shift) ∙ found_from_Contains _ run.shift is.shift in
      let there = ride_is audit.feed ride a.0 b.0 is.runs shift lt a.1 b.1 (sym a.2.pickup ∙ pickup) (sym b.2.drop_off ∙ drop_off) in
      (facts_between audit.feed ride a.0 b.0, ride_stands from to _ e f there at on)

  -- where a ride stands, both ends are there, in order, and riders may board and alight
  pub record HasEnds (from to : ℕ) : Type 0 where
    pub lt : from < to
    pub within : to < length ends
    pub e : End
    pub f : End
    pub at : slice_get ends from ≡ Some e
    pub on : slice_get ends to ≡ Some f
    pub pickup : e.pickup ≡ true
    pub drop_off : f.drop_off ≡ true

  pub ends_there : (from to : ℕ) (facts : RideFacts) → ride_facts audit.feed (ride_by run from to) ≡ Some facts → HasEnds from to
  ends_there from to facts ride =
      let r = ride_facts_tells audit.feed (ride_by run from to) facts ride in
      let many = are.many in
      let low = slice_get_within _ from _ r.boards in
      let high = slice_get_within _ to _ r.alights in
      let e = item_at ends from (omega (arith, many, low)) in
      let f = item_at ends to (omega (arith, many, high)) in
      let a = are.each from e.0 e.1 in
      let b = are.each to f.0 f.1 in
      let boards : a.0 ≡ r.boarding = same_Some _ _ (sym a.1 ∙ r.boards) in
      let alights : b.0 ≡ r.alighting = same_Some _ _ (sym b.1 ∙ r.alights) in
      record {
        lt = r.forward;
        within = omega (arith, many, high);
        e = e.0;
        f = f.0;
        at = e.1;
        on = f.1;
        pickup = a.2.pickup ∙ ap (λ (c : Call). c.pickup) boards ∙ r.pickup;
        drop_off = b.2.drop_off ∙ ap (λ (c : Call). c.drop_off) alights ∙ r.drop_off;
      }

-- the same ride on a day that is alike
pub covered_by_day : (audit : AuditOf) (found : Found) (run : Run) (reach : Reach) (facts : RideFacts) (is : IsAudited audit facts) →
    AreWithin reach run.shift (calls_of audit.feed run.trip) → AreAlike audit.feed reach run.day.0 is.ride.day.0 →
    runs_on audit.feed run.trip run.day.0 ≡ true → is.ride.trip ≡ run.trip → is.ride.shift ≡ run.shift →
    CoversRun audit found run → IsCovered audit found facts
covered_by_day audit found run reach facts is within alike runs trip shift covers =
    let ride = is.ride in
    let r = ride_facts_tells audit.feed ride facts is.is in
    let there = ride_by run ride.from ride.to in
    let calls = λ (t : TripId). calls_of audit.feed t in
    let boards : slice_get (calls_of audit.feed run.trip) ride.from ≡ Some r.boarding = subst (λ (t : TripId). slice_get (calls t) ride.from ≡ Some r.boarding) trip r.boards in
    let alights : slice_get (calls_of audit.feed run.trip) ride.to ≡ Some r.alighting = subst (λ (t : TripId). slice_get (calls t) ride.to ≡ Some r.alighting) trip r.alights in
    let offered : is_shift audit.feed run.trip run.shift ≡ true = rw (← trip, ← shift) r.shift in
    let other = ride_is audit.feed there r.boarding r.alighting runs offered r.forward boards alights r.pickup r.drop_off in
    let covered = covers ride.from ride.to (facts_between audit.feed there r.boarding r.alighting) other in
    let board = All-contains (λ (c : Call). IsWithin reach (run.shift +ℤ pos c.arrival) × IsWithin reach (run.shift +ℤ pos c.departure)) (calls_of audit.feed run.trip) r.boarding within (Contains-slice_get _ ride.from _ boards) in
    let alight = All-contains (λ (c : Call). IsWithin reach (run.shift +ℤ pos c.arrival) × IsWithin reach (run.shift +ℤ pos c.departure)) (calls_of audit.feed run.trip) r.alighting within (Contains-slice_get _ ride.to _ alights) in
    let like : AreLike audit.feed (facts_between audit.feed there r.boarding r.alighting) (facts_between audit.feed ride r.boarding r.alighting) = record {
      network = ap (λ (t : TripId). trip_network audit.feed t) (sym trip);
      from_areas = refl;
      to_areas = refl;
      from_frames = frames r.boarding.departure board.1;
      to_frames = frames r.alighting.arrival alight.0;
    } in
    subst (IsCovered audit found) r.facts_are
    (covered_like audit found (facts_between audit.feed there r.boarding r.alighting) (facts_between audit.feed ride r.boarding r.alighting) like refl refl covered)
  where
    frames : (s : ℕ) → IsWithin reach (run.shift +ℤ pos s) → frames_at audit.feed (moment_of (ride_by run is.ride.from is.ride.to) s) ≡ frames_at audit.feed (moment_of is.ride s)
    frames s in_reach =
        frames_alike audit.feed reach run.day.0 is.ride.day.0 (run.shift +ℤ pos s) alike in_reach
        ∙ ap (λ (z : ℤ). frames_at audit.feed (record { 0 = moment_at is.ride.day.0 (z +ℤ pos s) })) (sym shift)

-- one number more
pub below_more : (C D : ℕ → Type 0) (n m : ℕ) → ((k : ℕ) → C k → D k) → ((k : ℕ) → k < n → C k) → D n → m ≡ n + 1 → (k : ℕ) → k < m → D k
below_more C D n m later were here next k lt = ⊎_elim
    (λ (old : k < n). later k (were k old))
    (λ (past : n ≤ k). let same : n ≡ k = omega (arith, lt, past, next) in subst D same here)
    (cases_lt k n)

-- one item more
pub among_more : {X : Type 0} (C D : X → Type 0) (xs ys : List X) (x : X) → ((k : X) → C k → D k) → ((k : X) → Contains xs k → C k) → D x → ys ≡ xs ++ x ∷ [] →
    (k : X) → Contains ys k → D k
among_more C D xs ys x later were here e k at = ⊎_elim
    (λ (old : Contains xs k). later k (were k old))
    (λ (new : x ≡ k). subst D new here)
    (Contains-push_cases xs x k (subst (λ zs. Contains zs k) e at))

module _ (audit : AuditOf) (old new : Found) (grows : GrowsTo old new) where
  pub trip_later : (trip : TripId) → CoversTrip audit old trip → CoversTrip audit new trip
  trip_later trip covers facts is same = covered_later audit old new facts grows (covers facts is same)

  pub shift_later : (trip : TripId) (shift : ℤ) → CoversShift audit old trip shift → CoversShift audit new trip shift
  shift_later trip shift covers facts is same by = covered_later audit old new facts grows (covers facts is same by)

  pub run_later : (run : Run) → CoversRun audit old run → CoversRun audit new run
  run_later run covers from to facts is = covered_later audit old new facts grows (covers from to facts is)

module _ (audit : AuditOf) (found : Found) (network : Option NetworkId) (ends : List End) (from to : ℕ) (a b : End) (at : slice_get ends from ≡ Some a) (on : slice_get ends to ≡ Some b) where
  -- what stands between two ends is covered where these are those at the positions
  pub pair_covered : ((facts : RideFacts) → StandsFor audit network a b facts → IsCovered audit found facts) → CoversPair audit found network ends from to
  pair_covered covers e f got have pickup drop_off facts is =
      covers facts (subst (λ x. StandsFor audit network x b facts) (same_Some _ _ (sym got ∙ at))
      (subst (λ y. StandsFor audit network e y facts) (same_Some _ _ (sym have ∙ on)) is))

  -- or where riders may not board at the one, or not alight at the other
  pub none_boards : a.pickup ≡ false → CoversPair audit found network ends from to
  none_boards off e f got have pickup drop_off facts is =
      absurd (false≢true (sym off ∙ ap (λ (x : End). x.pickup) (same_Some _ _ (sym at ∙ got)) ∙ pickup))

  pub none_alights : b.drop_off ≡ false → CoversPair audit found network ends from to
  none_alights off e f got have pickup drop_off facts is =
      absurd (false≢true (sym off ∙ ap (λ (x : End). x.drop_off) (same_Some _ _ (sym on ∙ have)) ∙ drop_off))

-- between all ends
pub ends_covered : (audit : AuditOf) (found : Found) (network : Option NetworkId) (ends : List End) (n : ℕ) → length ends ≤ n →
    ((to : ℕ) → to < n → (from : ℕ) → from < to → CoversPair audit found network ends from to) → CoversEnds audit found network ends
ends_covered audit found network ends n all covers from to lt e f got have =
    let within = slice_get_within ends to f have in
    covers to (omega (arith, within, all)) from lt e f got have

-- so are the rides of a run with these ends
pub run_covered : (audit : AuditOf) (found : Found) (run : Run) (ends : List End) → IsAuditedRun audit run → AreEndsOf audit.feed run (calls_of audit.feed run.trip) ends →
    CoversEnds audit found run.network ends → CoversRun audit found run
run_covered audit found run ends is are covers from to facts ride =
    let has = ends_there audit run ends is are from to facts ride in
    covers from to has.lt has.e has.f has.at has.on has.pickup has.drop_off facts (ride_stands audit run ends is are from to facts has.e has.f ride has.at has.on)

-- no end at all
abbrev pub no_end : End
no_end =
    record {
      stop = record { 0 = 0 };
      like = record { 0 = 0 };
      arrival = record { 0 = pos 0 };
      departure = record { 0 = pos 0 };
      pickup = false;
      drop_off = false;
    }

-- one end more
pub ends_more : (feed : FeedRows) (run : Run) (calls : List Call) (ends new : List End) (n : ℕ) (call : Call) (end : End) → length ends ≡ n →
    ((k : ℕ) (e : End) → slice_get ends k ≡ Some e → (c : Call) × (slice_get calls k ≡ Some c) × IsEndOf feed run c e) →
    slice_get calls n ≡ Some call → IsEndOf feed run call end → new ≡ ends ++ end ∷ [] →
    (k : ℕ) (e : End) → slice_get new k ≡ Some e → (c : Call) × (slice_get calls k ≡ Some c) × IsEndOf feed run c e
ends_more feed run calls ends new n call end many were at is made k e got = ⊎_elim
    (λ (old : k < n). were k e (slice_get-old_item ends new end k made (omega (arith, old, many)) ∙ got))
    (λ (past : n ≤ k).
    let within = slice_get_within new k e got in
    let long : length new ≡ length ends + 1 = ap length made ∙ length_push ends end in
    let here : n ≡ k = omega (arith, past, within, long, many) in
    let same : end ≡ e = same_Some _ _ (sym (slice_get-new_item ends new end n many made) ∙ ap (slice_get new) here ∙ got) in
    (call, ap (slice_get calls) (sym here) ∙ at, subst (IsEndOf feed run call) same is))
    (cases_lt k n)

-- the runs of a trip with a shift, on days to which all others are alike
module _ (audit : AuditOf) (found : Found) (trip : TripId) (shift : ℤ) (network : Option NetworkId) where
  abbrev pub run_on : ℕ → Run
  run_on n = record { trip = trip; day = record { 0 = audit.first +ℤ pos n }; shift = shift; network = network }

  pub shift_covered : (reach : Reach) (service : ServiceId) (days : List ℕ) → AreDaysLike audit.feed audit.first audit.count service reach days →
      ((day : ℤ) → runs_on audit.feed trip day ≡ is_active audit.feed service day) → AreWithin reach shift (calls_of audit.feed trip) →
      ((n : ℕ) → Contains days n → CoversRun audit found (run_on n)) → CoversShift audit found trip shift
  shift_covered reach service days like runs within covers facts is same by =
      let r = ride_facts_tells audit.feed is.ride facts is.is in
      let on : is_active audit.feed service (audit.first +ℤ pos is.number) ≡ true =
      sym (runs (audit.first +ℤ pos is.number)) ∙ ap (runs_on audit.feed trip) (sym is.day) ∙ subst (λ (t : TripId). runs_on audit.feed t is.ride.day.0 ≡ true) same r.runs in
      let k = like.covers is.number is.within on in
      let there = All-contains (λ n. (n < audit.count) × (is_active audit.feed service (audit.first +ℤ pos n) ≡ true)) days k.0 like.within k.1 in
      covered_by_day audit found (run_on k.0) reach facts is within
      (subst (AreAlike audit.feed reach (audit.first +ℤ pos k.0)) (sym is.day) k.2)
      (runs (audit.first +ℤ pos k.0) ∙ there.1) same by (covers k.0 k.1)

-- the shift of each ride is one of its trip's
pub trip_covered : (audit : AuditOf) (found : Found) (trip : TripId) →
    ((shift : ℤ) → Contains (shifts_of audit.feed trip) shift → CoversShift audit found trip shift) → CoversTrip audit found trip
trip_covered audit found trip covers facts is same =
    let ride = is.ride in
    let r = ride_facts_tells audit.feed ride facts is.is in
    let offered = Contains_from_found (shifts_of audit.feed ride.trip) ride.shift (list_any-shifts_of audit.feed ride.trip ride.shift ∙ r.shift) in
    covers ride.shift (subst (λ (t : TripId). Contains (shifts_of audit.feed t) ride.shift) same offered) facts is same refl

-- the trips cover all rides
pub all_covered : (audit : AuditOf) (found : Found) → ((trip : ℕ) → trip < length audit.feed.trips → CoversTrip audit found (record { 0 = trip })) →
    (facts : RideFacts) → IsAudited audit facts → IsCovered audit found facts
all_covered audit found covers facts is =
    let r = ride_facts_tells audit.feed is.ride facts is.is in
    covers is.ride.trip.0 (runs_within audit.feed is.ride.trip is.ride.day.0 r.runs) facts is refl

-- the shifts of a trip lie within bounds
pub shift_near : (feed : FeedRows) (trip : TripId) (shift : ℤ) → IsSoundFeed feed → Contains (shifts_of feed trip) shift → (least_shift ≤ℤ shift) × (shift ≤ℤ most_shift)
shift_near feed trip shift sound at =
    let timed = sound_trip feed trip sound in
    let is : is_shift feed trip shift ≡ true = sym (list_any-shifts_of feed trip shift) ∙ found_from_Contains (shifts_of feed trip) shift at in
    let begins = first_departure_most feed trip most_time timed.ends timed.times in
    let bounds = is_shift_bounds feed trip shift most_time (omega arith) timed.runs begins is in
    within shift bounds.0 bounds.1
  where
    within : (z : ℤ) → (pos 0 -ℤ pos most_time) ≤ℤ z → z <ℤ pos most_time → (least_shift ≤ℤ z) × (z ≤ℤ most_shift)
    within z low high = (omega (arith, ints), omega (arith, ints))

-- a trip runs on the days of its service
pub runs_by_service : (feed : FeedRows) (trip : TripId) (row : TripRow) → row ≡ get_or feed.trips trip.0 row → trip.0 < length feed.trips →
    (day : ℤ) → runs_on feed trip day ≡ is_active feed row.service day
runs_by_service feed trip row is lt day =
    ap (λ o. filled_and o (λ (r : TripRow). is_active feed r.service day)) (slice_get-get_or feed.trips trip.0 row lt)
    ∙ ap (λ (r : TripRow). is_active feed r.service day) (sym is)

-- and its service has a name
pub trip_service : (feed : FeedRows) (trip : TripId) (row : TripRow) → IsSoundFeed feed → row ≡ get_or feed.trips trip.0 row → trip.0 < length feed.trips →
    row.service.0 < length feed.service_names
trip_service feed trip row sound is lt =
    subst (λ (r : TripRow). r.service.0 < length feed.service_names) (sym is) (sound.trips.services trip.0 row lt)

-- the service is active on each of its days
pub active_at : (audit : AuditOf) (service : ServiceId) (days : List ℕ) (i : ℕ) →
    All (λ n. (n < audit.count) × (is_active audit.feed service (audit.first +ℤ pos n) ≡ true)) days → i < length days →
    (get_or days i 0 < audit.count) × (is_active audit.feed service (audit.first +ℤ pos (get_or days i 0)) ≡ true)
active_at audit service days i within lt =
    All-contains (λ n. (n < audit.count) × (is_active audit.feed service (audit.first +ℤ pos n) ≡ true)) days (get_or days i 0) within (Contains-get_or days i 0 lt)

-- a run of such a day lies within bounds
pub near_run : (run : Run) (first : ℤ) (n count : ℕ) → run.day.0 ≡ first +ℤ pos n → negsuc 799_999 ≤ℤ first → first ≤ℤ pos 2_000_000 → n < count → count ≤ 366 →
    (least_shift ≤ℤ run.shift) × (run.shift ≤ℤ most_shift) → IsNearRun run
near_run run first n count day low high lt few shift =
    record { day_low = omega (arith, ints, day, low); day_high = omega (arith, ints, day, high, lt, few); shift_low = shift.0; shift_high = shift.1 }

-- one call more
pub all_more : (P : Call → Type 0) (calls : List Call) (i : ℕ) (call : Call) → slice_get calls i ≡ Some call → All P (take i calls) → P call → All P (take (i + 1) calls)
all_more P calls i call at before here =
    subst (All P) (sym (take_more calls i call (slice_get_within calls i call at) ∙ ap (λ (x : Call). take i calls ++ x ∷ []) (get_or_from_slice_get calls i call call at)))
    (All-push P (take i calls) call before here)

-- one end more that is the same
pub same_more : (xs ys : List End) (i : ℕ) (x y : End) → i < length xs → i < length ys → take i xs ≡ take i ys → get_or xs i x ≡ get_or ys i y →
    take (i + 1) xs ≡ take (i + 1) ys
same_more xs ys i x y lt within before same =
    take_more xs i x lt ∙ ap (λ (zs : List End). zs ++ get_or xs i x ∷ []) before ∙ ap (λ (z : End). take i ys ++ z ∷ []) same ∙ sym (take_more ys i y within)

-- the stops of a ride are stops of the feed
call_stop : (feed : FeedRows) (trip : TripId) (m : ℕ) (call : Call) → IsSoundFeed feed → slice_get (calls_of feed trip) m ≡ Some call → call.stop.0 < length feed.stops
call_stop feed trip m call sound is =
    let row = calls_of_row feed trip m call (sound_trip feed trip sound).ends is in
    let within = All-contains (λ (s : StopTimeRow). s.stop.0 < length feed.stops) feed.stop_times row.0 sound.stop_times.stops (row_at feed trip m row.0 row.1).member in
    subst (λ (s : StopId). s.0 < length feed.stops) (sym row.2.stop) within

pub ride_stops : (audit : AuditOf) (facts : RideFacts) → IsSoundFeed audit.feed → IsAudited audit facts → (facts.from.0 < length audit.feed.stops) × (facts.to.0 < length audit.feed.stops)
ride_stops audit facts sound is =
    let ride = is.ride in
    let r = ride_facts_tells audit.feed ride facts is.is in
    subst (λ (f : RideFacts). (f.from.0 < length audit.feed.stops) × (f.to.0 < length audit.feed.stops)) r.facts_are
    (call_stop audit.feed ride.trip ride.from r.boarding sound r.boards, call_stop audit.feed ride.trip ride.to r.alighting sound r.alights)

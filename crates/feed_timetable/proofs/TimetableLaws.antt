-- Bounds that a feed without faults keeps, and on which days its trips run.
use Rattle.std.proofs.Common.{◌≡◌, sym, ◌∙◌, ap, subst, get_or, filter, ℕ, ◌^◌, ◌<◌, Bool, List, length, true, false, arith, ℤ, pos, ◌≤ℤ◌, ◌<ℤ◌, ◌-ℤ◌}
use Rattle.std.specs.Prelude.{◌==◌, Some, slice_get}
use Rattle.std.proofs.lemmas.Option.{get_or_from_slice_get, slice_get-get_or}
use Rattle.std.proofs.lemmas.List.Sums.{length-filter, count_by-le-length}
use Rattle.feed_rows.specs.declared.rows.StopTimeRow.{StopTimeRow}
use Rattle.feed_laws.proofs.SequenceLaws.{length-in_sequence}
use Rattle.std.proofs.lemmas.Int.{ints}
use Rattle.std.proofs.lemmas.List.Elements.{Contains-get_or}
use Rattle.feed_rows.specs.Limits.{least_shift, most_shift}
use Rattle.transit_base.specs.Limits.{most_time}
use Rattle.transit_base.specs.declared.numbers.TripId.{TripId}
use Rattle.feed_rows.specs.declared.rows.TripRow.{TripRow}
use Rattle.feed_rows.specs.FeedRows.{FeedRows}
use Rattle.feed_rows.specs.SoundFeed.{IsSoundFeed}
use Rattle.feed_rows.specs.Calls.{calls_of}
use Rattle.feed_rows.specs.Shifts.{is_shift, shifts_of}
use Rattle.feed_rows.specs.Rides.{runs_on}
use Rattle.feed_rows.specs.ServiceDays.{is_active}
use Rattle.plain_laws.proofs.Laws.{slice_get-list_below}
use Rattle.feed_laws.proofs.CallLaws.{length-calls_of}
use Rattle.feed_laws.proofs.CallTimes.{first_departure_most}
use Rattle.feed_laws.proofs.ShiftLaws.{found_from_Contains, list_any-shifts_of, is_shift_bounds}
use Rattle.feed_laws.proofs.SoundTrips.{sound_trip}
use Rattle.feed_timetable.specs.ServicesOn.{services_on}
use Rattle.feed_timetable.specs.Standings.{AreShifts}

-- a trip has no more calls than there are stop times
pub few_calls : (feed : FeedRows) (trip : TripId) → IsSoundFeed feed → length (calls_of feed trip) < 2 ^ 32
few_calls feed trip sound =
    let calls = length-calls_of feed trip (sound_trip feed trip sound).ends in
    let rows = filter (λ (r : StopTimeRow). r.trip.0 == trip.0) feed.stop_times in
    let sorted = length-in_sequence rows in
    let counted = length-filter (λ (r : StopTimeRow). r.trip.0 == trip.0) feed.stop_times in
    let few = count_by-le-length (λ (r : StopTimeRow). r.trip.0 == trip.0) feed.stop_times in
    let most = sound.stop_times.few in
    omega arith

-- the shifts of a trip lie within the greatest time of a service day
pub shift_bounds : (feed : FeedRows) (trip : TripId) → IsSoundFeed feed → AreShifts (shifts_of feed trip)
shift_bounds feed trip sound k d lt =
    let timed = sound_trip feed trip sound in
    let z = get_or (shifts_of feed trip) k d in
    let is : is_shift feed trip z ≡ true = sym (list_any-shifts_of feed trip z) ∙ found_from_Contains (shifts_of feed trip) z (Contains-get_or (shifts_of feed trip) k d lt) in
    let begins = first_departure_most feed trip most_time timed.ends timed.times in
    let bounds = is_shift_bounds feed trip z most_time (omega arith) timed.runs begins is in
    within z bounds.0 bounds.1
  where
    within : (z : ℤ) → (pos 0 -ℤ pos most_time) ≤ℤ z → z <ℤ pos most_time → (least_shift ≤ℤ z) × (z ≤ℤ most_shift)
    within z low high = (omega (arith, ints), omega (arith, ints))

-- the service of a trip has a name
trip_service : (feed : FeedRows) (i : ℕ) (row : TripRow) → IsSoundFeed feed → row ≡ get_or feed.trips i row → i < length feed.trips → row.service.0 < length feed.service_names
trip_service feed i row sound is lt = subst (λ (r : TripRow). r.service.0 < length feed.service_names) (sym is) (sound.trips.services i row lt)

-- a trip runs on the days of its service
pub trip_runs : (feed : FeedRows) (day : ℤ) (active : List Bool) (trips : List TripRow) (i : ℕ) (row : TripRow) →
    IsSoundFeed feed → trips ≡ feed.trips → active ≡ services_on feed day → row ≡ get_or trips i row →
    i < length trips →
    get_or active (get_or trips i row).service.0 false ≡ runs_on feed (record { 0 = i }) day
trip_runs feed day active trips i row sound rows all is lt =
    let row_is = is ∙ ap (λ (ts : List TripRow). get_or ts i row) rows in
    let within = subst (λ (ts : List TripRow). i < length ts) rows lt in
    let service = trip_service feed i row sound row_is within in
    let on : ℕ → Bool = λ s. is_active feed (record { 0 = s }) day in
    let got = slice_get-list_below (length feed.service_names) on row.service.0 service in
    let one : slice_get feed.trips i ≡ Some row = slice_get-get_or feed.trips i row within ∙ ap Some (sym row_is) in
    let found =
    get_or_from_slice_get (services_on feed day) row.service.0 (is_active feed row.service day) false got in
    rw one
    (ap (λ (r : TripRow). get_or active r.service.0 false) (sym is)
    ∙ ap (λ (xs : List Bool). get_or xs row.service.0 false) all ∙ found)

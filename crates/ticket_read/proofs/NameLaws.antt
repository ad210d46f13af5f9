-- The trip and the calls that names tell.
use Rattle.std.proofs.Common.{◌≡◌, refl, sym, ◌∙◌, ap, subst, ℕ, ◌<◌, ◌≤◌, ◌⊎◌, inl, inr, Bool, true, false, ◌==◌, List, length, Option, Some, None, arith}
use Rattle.std.specs.Prelude.{slice_get, option_map, bytes_eq, codes, ℤ, pos, ◌+ℤ◌, ◌-ℤ◌}
use Rattle.std.proofs.lemmas.Bool.{eq-eqb, cases_Bool}
use Rattle.std.proofs.lemmas.Bool.Decides.{nat_tests}
use Rattle.std.proofs.lemmas.Int.{ints}
use Rattle.std.proofs.lemmas.List.Elements.{All-contains}
use Rattle.std.proofs.lemmas.Option.{none-some, same_Some, slice_get_within}
use Rattle.transit_base.specs.DateTexts.{time_text}
use Rattle.transit_base.specs.Limits.{most_time}
use Rattle.transit_base.specs.declared.numbers.StopId.{StopId}
use Rattle.transit_base.specs.declared.numbers.TripId.{TripId}
use Rattle.feed_rows.specs.FeedRows.{FeedRows}
use Rattle.feed_rows.specs.Calls.{calls_of, trip_stop_times, first_departure}
use Rattle.feed_rows.specs.EntryText.{stop_text, start_text}
use Rattle.feed_rows.specs.RowsById.{call_position}
use Rattle.feed_rows.specs.RowsById.{find_stop, has_stop_id, find_trip, has_trip_id}
use Rattle.feed_rows.specs.RideWords.{start_value}
use Rattle.feed_rows.specs.Shifts.{has_frequencies, is_shift}
use Rattle.feed_rows.specs.SoundFeed.{IsSoundFeed}
use Rattle.feed_rows.specs.TimeGrammar.{time_value}
use Rattle.feed_rows.specs.declared.journeys.Call.{Call}
use Rattle.feed_rows.specs.declared.journeys.Ride.{Ride}
use Rattle.feed_rows.specs.declared.rows.StopRow.{StopRow}
use Rattle.feed_rows.specs.declared.rows.StopTimeRow.{StopTimeRow}
use Rattle.feed_rows.specs.declared.rows.TripRow.{TripRow}
use Rattle.plain_laws.specs.Plain.{find_below, at_and}
use Rattle.plain_laws.proofs.Laws.{find_below_some, filled_and-true, bytes_eq-true, eq-bytes_eq, same-key}
use Rattle.feed_laws.proofs.CallLaws.{calls_of_row}
use Rattle.feed_laws.proofs.CallTimes.{first_departure_most}
use Rattle.feed_laws.proofs.FeedReadings.{same_stop, same_trip}
use Rattle.feed_laws.proofs.SequenceLaws.{trip_stop_times_strict}
use Rattle.feed_laws.proofs.ShiftLaws.{is_shift_none, is_shift_leads}
use Rattle.feed_laws.proofs.SoundTrips.{sound_trip, calls_apart, row_at}
use Rattle.ticket_read.specs.Items.{shift_by}
use Rattle.ticket_read.proofs.NumberLaws.{time_value-time_text}

-- ---- names that are read back

-- what one number alone passes is found there
find_only : (test : ℕ → Bool) (n k : ℕ) → k < n → test k ≡ true → ((i : ℕ) → test i ≡ true → i ≡ k) → find_below n test ≡ Some k
find_only test n k lt here only = let found = find_below_some test n k lt here in found.1 ∙ ap Some (only found.0 found.2.passes)

-- a stop is found by its id
pub found_stop : (feed : FeedRows) (stop : StopId) (id : List ℕ) → IsSoundFeed feed → stop_text feed stop ≡ Some id → find_stop feed id ≡ Some stop
unfolding has_stop_id
found_stop feed stop id sound e = by (slice_get feed.stops stop.0) refl
  where
    by : (o : Option StopRow) → slice_get feed.stops stop.0 ≡ o → find_stop feed id ≡ Some stop
    by None got = absurd (none-some id (let no : None ≡ Some id = rw got at e in no))
    by (Some row) got =
        let same : row.id ≡ id = same_Some row.id id (rw got at e) in
        let here : has_stop_id feed id stop.0 ≡ true = rw got (eq-bytes_eq row.id id same) in
        let only : (i : ℕ) → has_stop_id feed id i ≡ true → i ≡ stop.0 = λ i passes.
        let there = filled_and-true (slice_get feed.stops i) (λ (s : StopRow). bytes_eq s.id id) passes in
        same_stop feed i stop.0 there.value row sound.stops there.is got (bytes_eq-true there.value.id id there.passes ∙ sym same) in
        ap (option_map (λ i. record { 0 = i })) (find_only (has_stop_id feed id) (length feed.stops) stop.0 (slice_get_within feed.stops stop.0 row got) here only)

-- a trip is found by its id
pub found_trip : (feed : FeedRows) (trip : TripId) (row : TripRow) → IsSoundFeed feed → slice_get feed.trips trip.0 ≡ Some row → find_trip feed row.id ≡ Some trip
unfolding has_trip_id
found_trip feed trip row sound got =
    let here : has_trip_id feed row.id trip.0 ≡ true = rw got (eq-bytes_eq row.id row.id refl) in
    let only : (i : ℕ) → has_trip_id feed row.id i ≡ true → i ≡ trip.0 = λ i passes.
    let there = filled_and-true (slice_get feed.trips i) (λ (t : TripRow). bytes_eq t.id row.id) passes in
    same_trip feed i trip.0 there.value row sound.trips there.is got (bytes_eq-true there.value.id row.id there.passes) in
    ap (option_map (λ i. record { 0 = i })) (find_only (has_trip_id feed row.id) (length feed.trips) trip.0 (slice_get_within feed.trips trip.0 row got) here only)

-- two calls of a trip with one sequence are one
same_call : (feed : FeedRows) (trip : TripId) (i j : ℕ) (a b : Call) → IsSoundFeed feed → slice_get (calls_of feed trip) i ≡ Some a → slice_get (calls_of feed trip) j ≡ Some b
    → a.sequence ≡ b.sequence → i ≡ j
same_call feed trip i j a b sound at also same =
    let ends = (sound_trip feed trip sound).ends in
    let first = calls_of_row feed trip i a ends at in
    let second = calls_of_row feed trip j b ends also in
    let strict = trip_stop_times_strict feed trip (calls_apart feed sound.calls) in
    same-key (λ (r : StopTimeRow). r.sequence) (trip_stop_times feed trip) i j first.0 second.0
    (λ k l d lt within e. let less = strict k l d lt within in omega (arith, less, e)) first.1 second.1
    (sym first.2.sequence ∙ same ∙ second.2.sequence)

-- a call is found by its sequence
pub found_call : (feed : FeedRows) (trip : TripId) (place : ℕ) (call : Call) → IsSoundFeed feed → slice_get (calls_of feed trip) place ≡ Some call
    → call_position feed trip call.sequence ≡ Some place
found_call feed trip place call sound at =
    let here : at_and (calls_of feed trip) place (λ c. c.sequence == call.sequence) ≡ true = rw at (eq-eqb call.sequence call.sequence refl) in
    let only : (i : ℕ) → at_and (calls_of feed trip) i (λ c. c.sequence == call.sequence) ≡ true → i ≡ place = λ i passes.
    let there = filled_and-true (slice_get (calls_of feed trip) i) (λ (c : Call). c.sequence == call.sequence) passes in
    same_call feed trip i place there.value call sound there.is at (told there.value.sequence call.sequence there.passes) in
    find_only _ (length (calls_of feed trip)) place (slice_get_within (calls_of feed trip) place call at) here only
  where
    told : (a b : ℕ) → (a == b) ≡ true → a ≡ b
    told a b e = grind (arith, nat_tests)

-- sequences are at most 2^31 - 1
pub small_sequence : (feed : FeedRows) (trip : TripId) (place : ℕ) (call : Call) → IsSoundFeed feed → slice_get (calls_of feed trip) place ≡ Some call
    → call.sequence ≤ 2_147_483_647
small_sequence feed trip place call sound at =
    let row = calls_of_row feed trip place call (sound_trip feed trip sound).ends at in
    let member = (row_at feed trip place row.0 row.1).member in
    let small = All-contains (λ (r : StopTimeRow). r.sequence ≤ 2_147_483_647) feed.stop_times row.0 sound.stop_times.sequences member in
    subst (λ n. n ≤ 2_147_483_647) (sym row.2.sequence) small

-- ---- starts

dash_is_no_time : time_value most_time (codes "-") ≡ None
unfolding time_value
dash_is_no_time = refl

time_is_no_dash : (s : ℕ) → s ≤ most_time → bytes_eq (time_text s) (codes "-") ≡ false
time_is_no_dash s le = step (cases_Bool (bytes_eq (time_text s) (codes "-")))
  where
    step : (bytes_eq (time_text s) (codes "-") ≡ true) ⊎ (bytes_eq (time_text s) (codes "-") ≡ false) → bytes_eq (time_text s) (codes "-") ≡ false
    step (inr differ) = differ
    step (inl alike) =
        let same = bytes_eq-true (time_text s) (codes "-") alike in
        absurd (none-some s (sym dash_is_no_time ∙ ap (time_value most_time) (sym same) ∙ time_value-time_text s le))

-- the shift of a ride is told by its start
pub found_start : (feed : FeedRows) (ride : Ride) → IsSoundFeed feed → is_shift feed ride.trip ride.shift ≡ true
    → (start : Option ℕ) × (start_value (start_text feed ride) ≡ Some start) × (shift_by feed ride.trip start ≡ ride.shift)
unfolding shift_by
found_start feed ride sound shifted = by (cases_Bool (has_frequencies feed ride.trip))
  where
    first : ℕ
    first = first_departure feed ride.trip

    back : (z : ℤ) (s : ℕ) → z +ℤ pos first ≡ pos s → (pos s -ℤ pos first) ≡ z
    back z s leads = omega (arith, ints, leads)

    by : (has_frequencies feed ride.trip ≡ true) ⊎ (has_frequencies feed ride.trip ≡ false)
        → (start : Option ℕ) × (start_value (start_text feed ride) ≡ Some start) × (shift_by feed ride.trip start ≡ ride.shift)
    by (inr bare) = (None, rw bare refl, sym (is_shift_none feed ride.trip ride.shift bare shifted))
    by (inl frequent) =
        let timed = sound_trip feed ride.trip sound in
        let begins = first_departure_most feed ride.trip most_time timed.ends timed.times in
        let leads = is_shift_leads feed ride.trip ride.shift most_time timed.runs begins shifted in
        let dash = time_is_no_dash leads.0 leads.2 in
        let read = time_value-time_text leads.0 leads.2 in
        (Some leads.0, rw (frequent, leads.1, dash, read) refl, back ride.shift leads.0 leads.1)

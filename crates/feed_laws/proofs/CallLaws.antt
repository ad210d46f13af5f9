-- The calls of a trip: where the first and the last row have times each row has its call, and one pass over the rows
-- gives them.
use Rattle.std.proofs.Common.{◌≡◌, refl, sym, ◌∙◌, ap, subst, ℕ, zero, suc, ◌+◌, ◌<◌, ◌≤◌, ◌⊎◌, inl, inr, Bool, true, false, List, [], length, get_or, arith}
use Rattle.std.specs.Prelude.{Some, None, slice_get, unwrap_or}
use Rattle.std.proofs.lemmas.Bool.{cases_Bool}
use Rattle.std.proofs.lemmas.Option.{same_Some, none-some, slice_get_within, slice_get_cases}
use Rattle.transit_base.specs.declared.numbers.TripId.{TripId}
use Rattle.feed_rows.specs.declared.rows.StopTimeRow.{StopTimeRow}
use Rattle.feed_rows.specs.declared.journeys.Call.{Call}
use Rattle.feed_rows.specs.FeedRows.{FeedRows}
use Rattle.plain_laws.specs.Plain.{collect_below}
use Rattle.feed_rows.specs.Calls.{first_time, last_time, is_timed, timed_before, time_between, filled_time, call_at, calls_of, trip_stop_times}
use Rattle.feed_rows.specs.CallPass.{TimedGap, gap_after, gap_at, time_in, call_in, pass_below, pass}
use Rattle.plain_laws.proofs.Laws.{collect_below_tells, IsCollected}
use Rattle.feed_rows.specs.TimedTrips.{first_at, last_at, is_timed_at, HasTimedEnds}
use Rattle.feed_laws.proofs.TimedLaws.{IsInGap, in_gap, timed_before_hit, timed_after_hit, timed_after_gap, timed_at, timed_row, untimed_row}

pub gap_at_untimed : (rows : List StopTimeRow) (m : ℕ) → is_timed_at rows m ≡ false → gap_at rows (m + 1) ≡ gap_at rows m
gap_at_untimed rows m untimed = let e : m + 1 ≡ suc m = omega arith in rw (e, untimed) refl

-- the gap that is carried begins at the nearest timed position before
pub gap_at_before : (rows : List StopTimeRow) (m p : ℕ) → timed_before rows m ≡ Some p → gap_at rows m ≡ gap_after rows p
gap_at_before rows zero p e = absurd (none-some p e)
gap_at_before rows (suc m) p e = step (is_timed_at rows m) refl (gap_at_before rows m p)
  where
    step : (b : Bool) → is_timed_at rows m ≡ b → (timed_before rows m ≡ Some p → gap_at rows m ≡ gap_after rows p) → gap_at rows (suc m) ≡ gap_after rows p
    step true timed before = let here : m ≡ p = same_Some m p (rw timed at e) in rw timed (ap (gap_after rows) here)
    step false untimed before = rw untimed (before (rw untimed at e))

-- the gap of a row without times
pub gap_at_in : (rows : List StopTimeRow) (m p q left reached : ℕ) → IsInGap rows m p q → last_at rows p ≡ Some left → first_at rows q ≡ Some reached
    → gap_at rows m ≡ record { from = p; left = left; to = q; reached = reached }
gap_at_in rows m p q left reached gap leaves reaches =
    let before = timed_before_hit rows m p gap.before in
    let after = timed_after_hit rows p q (timed_after_gap rows m p q gap.before gap.untimed gap.after) in
    rw (gap_at_before rows m p before, after, leaves, reaches) refl

-- the call of a timed row, and of one without times
pub call_in_timed : (gap : TimedGap) (m : ℕ) (row : StopTimeRow) → is_timed row ≡ true
    → call_in gap m row ≡ record { stop = row.stop; sequence = row.sequence; arrival = unwrap_or (first_time row) 0; departure = unwrap_or (last_time row) 0; pickup = row.pickup; drop_off = row.drop_off }
call_in_timed gap m row timed = let times = timed_row row timed in rw (times.2, times.3) refl

pub call_in_untimed : (gap : TimedGap) (m : ℕ) (row : StopTimeRow) → is_timed row ≡ false
    → call_in gap m row ≡ record { stop = row.stop; sequence = row.sequence; arrival = time_in gap m; departure = time_in gap m; pickup = row.pickup; drop_off = row.drop_off }
call_in_untimed gap m row untimed = let none = untimed_row row untimed in rw (none.0, none.1) refl

-- the time that is filled in
pub filled_time_in : (rows : List StopTimeRow) (m p q left reached : ℕ) → IsInGap rows m p q → last_at rows p ≡ Some left → first_at rows q ≡ Some reached
    → filled_time rows m ≡ Some (time_between p m q left reached)
filled_time_in rows m p q left reached gap leaves reaches =
    let before = timed_before_hit rows m p gap.before in
    let after = timed_after_hit rows m q gap.after in
    rw (before, after, leaves, reaches) refl

-- a call has the times of its row
pub record HasOwnTimes (rows : List StopTimeRow) (m : ℕ) (call : Call) : Type 0 where
  pub first : first_at rows m ≡ Some call.arrival
  pub last : last_at rows m ≡ Some call.departure

-- a call has one time, which is spread between the nearest timed rows
pub record HasFilledTime (rows : List StopTimeRow) (m : ℕ) (call : Call) : Type 0 where
  pub from : ℕ
  pub to : ℕ
  pub left : ℕ
  pub reached : ℕ
  pub gap : IsInGap rows m from to
  pub left_is : last_at rows from ≡ Some left
  pub reached_is : first_at rows to ≡ Some reached
  pub arrival : call.arrival ≡ time_between from m to left reached
  pub departure : call.departure ≡ time_between from m to left reached

-- what a call has of its row
pub record IsCallOf (rows : List StopTimeRow) (m : ℕ) (row : StopTimeRow) (call : Call) : Type 0 where
  pub stop : call.stop ≡ row.stop
  pub sequence : call.sequence ≡ row.sequence
  pub pickup : call.pickup ≡ row.pickup
  pub drop_off : call.drop_off ≡ row.drop_off
  pub times : HasOwnTimes rows m call ⊎ HasFilledTime rows m call

-- the call that the pass makes of a row is that of the definition
pub record IsPassed (rows : List StopTimeRow) (m : ℕ) (row : StopTimeRow) : Type 0 where
  pub made : call_at rows m ≡ Some (call_in (gap_at rows m) m row)
  pub call_of : IsCallOf rows m row (call_in (gap_at rows m) m row)

call_at_own : (rows : List StopTimeRow) (m : ℕ) (row : StopTimeRow) (first last : ℕ) → slice_get rows m ≡ Some row → first_time row ≡ Some first → last_time row ≡ Some last
    → call_at rows m ≡ Some (record { stop = row.stop; sequence = row.sequence; arrival = first; departure = last; pickup = row.pickup; drop_off = row.drop_off })
unfolding call_at
call_at_own rows m row first last at a d = rw (at, a, d) refl

call_at_filled : (rows : List StopTimeRow) (m : ℕ) (row : StopTimeRow) (time : ℕ) → slice_get rows m ≡ Some row → first_time row ≡ None → last_time row ≡ None → filled_time rows m ≡ Some time
    → call_at rows m ≡ Some (record { stop = row.stop; sequence = row.sequence; arrival = time; departure = time; pickup = row.pickup; drop_off = row.drop_off })
unfolding call_at
call_at_filled rows m row time at a d filled = rw (at, a, d, filled) refl

call_at_none : (rows : List StopTimeRow) (m : ℕ) → slice_get rows m ≡ None → call_at rows m ≡ None
unfolding call_at
call_at_none rows m none = rw none refl

pub passed : (rows : List StopTimeRow) (m : ℕ) (row : StopTimeRow) → HasTimedEnds rows → slice_get rows m ≡ Some row → IsPassed rows m row
passed rows m row ends at = step (cases_Bool (is_timed row))
  where
    step : (is_timed row ≡ true) ⊎ (is_timed row ≡ false) → IsPassed rows m row
    step (inl timed) =
        let times = timed_row row timed in
        let call : Call = record { stop = row.stop; sequence = row.sequence; arrival = times.0; departure = times.1; pickup = row.pickup; drop_off = row.drop_off } in
        let is : call_in (gap_at rows m) m row ≡ call = rw (times.2, times.3) refl in
        record {
          made = rw is (call_at_own rows m row times.0 times.1 at times.2 times.3);
          call_of = rw is (record { stop = refl; sequence = refl; pickup = refl; drop_off = refl; times = inl (record { first = rw at times.2; last = rw at times.3 }) });
        }
    step (inr untimed) =
        let here : is_timed_at rows m ≡ false = rw at untimed in
        let found = in_gap rows m ends (slice_get_within rows m row at) here in
        let gap = found.2 in
        let before = timed_at rows found.0 gap.before.timed in
        let after = timed_at rows found.1 gap.after.timed in
        let carried = gap_at_in rows m found.0 found.1 before.1 after.0 gap before.3 after.2 in
        let time = time_between found.0 m found.1 before.1 after.0 in
        let none = untimed_row row untimed in
        let call : Call = record { stop = row.stop; sequence = row.sequence; arrival = time; departure = time; pickup = row.pickup; drop_off = row.drop_off } in
        let is : call_in (gap_at rows m) m row ≡ call = rw (carried, none.0, none.1) refl in
        record {
          made = rw is (call_at_filled rows m row time at none.0 none.1 (filled_time_in rows m found.0 found.1 before.1 after.0 gap before.3 after.2));
          call_of = rw is (record {
            stop = refl;
            sequence = refl;
            pickup = refl;
            drop_off = refl;
            times = inr (record { from = found.0; to = found.1; left = before.1; reached = after.0; gap = gap; left_is = before.3; reached_is = after.2; arrival = refl; departure = refl });
          });
        }

-- the row of a call
pub call_at_row : (rows : List StopTimeRow) (m : ℕ) (call : Call) → HasTimedEnds rows → call_at rows m ≡ Some call → (row : StopTimeRow) × (slice_get rows m ≡ Some row) × IsCallOf rows m row call
call_at_row rows m call ends e = step (slice_get_cases rows m).1
  where
    step : ((row : StopTimeRow) × (m < length rows) × (slice_get rows m ≡ Some row) × (get_or rows m row ≡ row)) ⊎ ((length rows ≤ m) × (slice_get rows m ≡ None)) → (row : StopTimeRow) × (slice_get rows m ≡ Some row) × IsCallOf rows m row call
    step (inl found) =
        let made = passed rows m found.0 ends found.2 in
        (found.0, found.2, subst (IsCallOf rows m found.0) (same_Some _ _ (sym made.made ∙ e)) made.call_of)
    step (inr past) = absurd (none-some call (sym (call_at_none rows m past.1) ∙ e))

-- it gives the calls of the rows
pub pass_below_calls : (rows : List StopTimeRow) (m : ℕ) → HasTimedEnds rows → m ≤ length rows → collect_below m (call_at rows) ≡ Some (pass_below rows m)
pass_below_calls rows zero ends le = refl
pass_below_calls rows (suc m) ends le = step (pass_below_calls rows m ends (omega arith)) (slice_get_cases rows m).1
  where
    step : collect_below m (call_at rows) ≡ Some (pass_below rows m) → ((row : StopTimeRow) × (m < length rows) × (slice_get rows m ≡ Some row) × (get_or rows m row ≡ row)) ⊎ ((length rows ≤ m) × (slice_get rows m ≡ None))
        → collect_below (suc m) (call_at rows) ≡ Some (pass_below rows (suc m))
    step before (inl found) = rw (before, (passed rows m found.0 ends found.2).made, found.2) refl
    step before (inr past) = let out = past.0 in absurd (omega arith)

pub pass_calls : (rows : List StopTimeRow) → HasTimedEnds rows → collect_below (length rows) (call_at rows) ≡ Some (pass rows)
pass_calls rows ends = pass_below_calls rows (length rows) ends (omega arith)

-- the calls of a trip are those of the pass
pub calls_of-pass : (feed : FeedRows) (trip : TripId) → HasTimedEnds (trip_stop_times feed trip) → calls_of feed trip ≡ pass (trip_stop_times feed trip)
unfolding calls_of
calls_of-pass feed trip ends = rw (pass_calls (trip_stop_times feed trip) ends) refl

calls_of_collected : (feed : FeedRows) (trip : TripId) → HasTimedEnds (trip_stop_times feed trip) → IsCollected (length (trip_stop_times feed trip)) (call_at (trip_stop_times feed trip)) (calls_of feed trip)
calls_of_collected feed trip ends =
    let rows = trip_stop_times feed trip in
    rw (calls_of-pass feed trip ends) (collect_below_tells (length rows) (call_at rows) (pass rows) (pass_calls rows ends))

-- they are as many as the rows
pub length-calls_of : (feed : FeedRows) (trip : TripId) → HasTimedEnds (trip_stop_times feed trip) → length (calls_of feed trip) ≡ length (trip_stop_times feed trip)
length-calls_of feed trip ends = (calls_of_collected feed trip ends).length_is

-- each is that of its row
pub slice_get-calls_of : (feed : FeedRows) (trip : TripId) (m : ℕ) → HasTimedEnds (trip_stop_times feed trip) → m < length (trip_stop_times feed trip)
    → slice_get (calls_of feed trip) m ≡ call_at (trip_stop_times feed trip) m
slice_get-calls_of feed trip m ends lt = (calls_of_collected feed trip ends).items m lt

-- the row of a call of a trip
pub calls_of_row : (feed : FeedRows) (trip : TripId) (m : ℕ) (call : Call) → HasTimedEnds (trip_stop_times feed trip) → slice_get (calls_of feed trip) m ≡ Some call
    → (row : StopTimeRow) × (slice_get (trip_stop_times feed trip) m ≡ Some row) × IsCallOf (trip_stop_times feed trip) m row call
calls_of_row feed trip m call ends at =
    let rows = trip_stop_times feed trip in
    let lt = slice_get_within (calls_of feed trip) m call at in
    let long = length-calls_of feed trip ends in
    call_at_row rows m call ends (sym (slice_get-calls_of feed trip m ends (omega arith)) ∙ at)

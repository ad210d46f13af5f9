-- The calls of a trip in one pass over its rows, which carries the gap between timed rows that it is in: the timed
-- position that it passed last, with the time at which that is left, and the next one, with the time at which that is
-- reached. It looks ahead for the next timed row only where it meets a timed one. This is what a body carries, and no rule of
-- its own: the calls are defined in `Calls`, and `CallLaws` proves that the pass gives them.
use Rattle.std.specs.Prelude.{ℕ, zero, suc, if◌then◌else◌, List, [], ◌∷◌, ◌++◌, length, slice_get, Option, unwrap_or, option_and_then}
use Rattle.std.specs.Option.{option_map_or}
use Rattle.feed_rows.specs.declared.rows.StopTimeRow.{StopTimeRow}
use Rattle.feed_rows.specs.declared.journeys.Call.{Call}
use Rattle.feed_rows.specs.Calls.{first_time, last_time, is_timed, timed_after, time_between}
use Rattle.plain_laws.specs.Plain.{at_and}

-- two timed positions with none between them: the one is left and the other reached at these times
pub record TimedGap : Type 0 where
  pub from : ℕ
  pub left : ℕ
  pub to : ℕ
  pub reached : ℕ

-- a time of the row at a position, and 0 where it has none
abbrev pub time_or_zero : (StopTimeRow → Option ℕ) → List StopTimeRow → ℕ → ℕ
time_or_zero time rows p = unwrap_or (option_and_then time (slice_get rows p)) 0

-- the next timed position after position p, and the number of rows where there is none
abbrev pub next_timed : List StopTimeRow → ℕ → ℕ
next_timed rows p = unwrap_or (timed_after rows p) (length rows)

-- the gap that begins at position p
abbrev pub gap_after : List StopTimeRow → ℕ → TimedGap
gap_after rows p =
    record {
      from = p;
      left = time_or_zero last_time rows p;
      to = next_timed rows p;
      reached = time_or_zero first_time rows (next_timed rows p);
    }

-- the gap that is carried to position m; none has begun before position 0
abbrev pub gap_at : List StopTimeRow → ℕ → TimedGap
gap_at rows zero = record { from = 0; left = 0; to = 0; reached = 0 }
gap_at rows (suc m) = if at_and rows m is_timed then gap_after rows m else gap_at rows m

-- the time at position m of a gap
abbrev pub time_in : TimedGap → ℕ → ℕ
time_in gap m = time_between gap.from m gap.to gap.left gap.reached

-- the call of a row at position m of a gap
abbrev pub call_in : TimedGap → ℕ → StopTimeRow → Call
call_in gap m row =
    record {
      stop = row.stop;
      sequence = row.sequence;
      arrival = unwrap_or (first_time row) (time_in gap m);
      departure = unwrap_or (last_time row) (time_in gap m);
      pickup = row.pickup;
      drop_off = row.drop_off;
    }

-- the calls at the positions below m
abbrev pub pass_below : List StopTimeRow → ℕ → List Call
pass_below rows zero = []
pass_below rows (suc m) = option_map_or (λ row. pass_below rows m ++ call_in (gap_at rows m) m row ∷ []) (slice_get rows m) (pass_below rows m)

-- the calls of the rows
abbrev pub pass : List StopTimeRow → List Call
pass rows = pass_below rows (length rows)

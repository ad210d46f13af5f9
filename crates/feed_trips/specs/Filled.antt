-- The times that are filled in at rows that have none, kept beside the rows.
use Rattle.std.specs.Prelude.{◌≡◌, ℕ, ◌+◌, ◌<◌, ◌≤◌, ◌⊎◌, true, false, List, [], length, Some, slice_get, slice_index_or, slice_range}
use Rattle.std.specs.List.{list_all}
use Rattle.feed_rows.specs.declared.journeys.Call.{Call}
use Rattle.feed_rows.specs.declared.rows.StopTimeRow.{StopTimeRow}
use Rattle.feed_rows.specs.CallPass.{gap_at, time_in}
use Rattle.feed_rows.specs.Calls.{is_timed}
use Rattle.feed_rows.specs.TimedTrips.{is_timed_at}
use Rattle.feed_trips.specs.declared.together.Stretch.{Stretch}
use Rattle.feed_trips.specs.Stretches.{no_stretch, rows_at, times_at}

-- the call of a row that is reached and left at these times
abbrev pub call_of : StopTimeRow → ℕ → ℕ → Call
call_of row arrival departure =
    record {
      stop = row.stop;
      sequence = row.sequence;
      arrival = arrival;
      departure = departure;
      pickup = row.pickup;
      drop_off = row.drop_off;
    }

-- beside each row without a time stands the time that is filled in
abbrev pub AreFilled : List StopTimeRow → List ℕ → Type 0
AreFilled rows times =
    (m : ℕ) → m < length rows → is_timed_at rows m ≡ false → slice_get times m ≡ Some (time_in (gap_at rows m) m)

-- the same where the times of the rows begin at a place
abbrev pub AreFilledFrom : ℕ → List StopTimeRow → List ℕ → Type 0
AreFilledFrom from rows times =
    (m : ℕ) → m < length rows → is_timed_at rows m ≡ false → slice_get times (from + m) ≡ Some (time_in (gap_at rows m) m)

-- no time is lost
abbrev pub Keeps : List ℕ → List ℕ → Type 0
Keeps old new = (k time : ℕ) → slice_get old k ≡ Some time → slice_get new k ≡ Some time

-- the times of the rows from a place and up to another were laid behind others; none where each of these rows has one
pub record IsLaid (rows : List StopTimeRow) (from to : ℕ) (old new : List ℕ) : Type 0 where
  pub short : length new ≤ to
  pub keeps : Keeps old new
  pub filled : AreFilledFrom from (slice_range rows from to) new
  pub none : list_all is_timed (slice_range rows from to) ≡ true → new ≡ old

-- the times of each stretch are laid beside its rows, which are of the first n; none where each row has one. They may end
-- before these rows do, where the rows behind have times
pub record AreLaid (rows : List StopTimeRow) (n : ℕ) (stretches : List Stretch) (times : List ℕ) : Type 0 where
  pub short : length times ≤ n
  pub filled : (t : ℕ) → t < length stretches →
      AreFilledFrom (slice_index_or stretches t no_stretch).from (rows_at rows stretches t) times
  pub none : list_all is_timed rows ≡ true → times ≡ []

-- the times were filled up to n, where there are any
pub record AreFilledUp (n : ℕ) (old new : List ℕ) : Type 0 where
  pub many : (length new ≡ 0) ⊎ (length new ≡ n)
  pub keeps : Keeps old new
  pub none : old ≡ [] → new ≡ []

-- the stretches lie within the rows; no times are kept, or one for each row; and they stand so at the rows of each
-- stretch
pub record AreKept (rows : List StopTimeRow) (stretches : List Stretch) (times : List ℕ) : Type 0 where
  pub forward : (t : ℕ) → t < length stretches →
      (slice_index_or stretches t no_stretch).from ≤ (slice_index_or stretches t no_stretch).to
  pub ends : (t : ℕ) → t < length stretches → (slice_index_or stretches t no_stretch).to ≤ length rows
  pub many : (length times ≡ 0) ⊎ (length times ≡ length rows)
  pub filled : (t : ℕ) → t < length stretches → AreFilled (rows_at rows stretches t) (times_at times stretches t)

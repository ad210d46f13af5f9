-- The frequency rows of a trip, in any order.
use Rattle.std.specs.Prelude.{◌≡◌, ℕ, ◌≤◌, ◌==◌, ◌&&◌, Bool, List, ℤ, pos, ◌-ℤ◌, map}
use Rattle.std.specs.List.{list_any, flat_map}
use Rattle.transit_base.specs.Limits.{most_time}
use Rattle.transit_base.specs.declared.numbers.TripId.{TripId}
use Rattle.feed_rows.specs.declared.rows.FrequencyRow.{FrequencyRow}
use Rattle.feed_rows.specs.FeedRows.{FeedRows}
use Rattle.feed_rows.specs.Shifts.{run_starts}

-- the rows are those of the trip: a test that one of them passes is one that a frequency row of the trip passes
abbrev pub AreRunsOf : FeedRows → TripId → List FrequencyRow → Type 0
AreRunsOf feed trip rows = (p : FrequencyRow → Bool) → list_any p rows ≡ list_any (λ (f : FrequencyRow). f.trip.0 == trip.0 && p f) feed.frequencies

-- the numbers of a frequency row are within their limits
pub record IsSoundRun (row : FrequencyRow) : Type 0 where
  pub start : row.start ≤ most_time
  pub end : row.end ≤ most_time
  pub some : 1 ≤ row.headway
  pub headway : row.headway ≤ 2_147_483_647

-- the shifts of the runs of rows against a first departure
abbrev pub shifts_against : ℕ → List FrequencyRow → List ℤ
shifts_against first rows = map (λ start. pos start -ℤ pos first) (flat_map run_starts rows)

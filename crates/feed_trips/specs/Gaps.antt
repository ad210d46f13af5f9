-- The gap between timed rows that a pass over a trip's rows is in, which is made at the first row without a time.
use Rattle.std.specs.Prelude.{◌≡◌, ℕ, ◌-◌, ◌<◌, false, List}
use Rattle.feed_rows.specs.declared.rows.StopTimeRow.{StopTimeRow}
use Rattle.feed_rows.specs.CallPass.{TimedGap, gap_at}
use Rattle.feed_rows.specs.TimedTrips.{is_timed_at}
use Rattle.feed_trips.specs.declared.passes.Gap.{Gap}

-- the gap, as the pass is defined by it
abbrev pub gap_of : Gap → TimedGap
gap_of gap = record { from = gap.from; left = gap.left; to = gap.to; reached = gap.reached }

-- the gap is the one that is carried to position m, where none begins there
pub record IsCarried (rows : List StopTimeRow) (m : ℕ) (gap : Gap) : Type 0 where
  pub first : m ≡ 0 → gap_of gap ≡ gap_at rows m
  pub later : 0 < m → is_timed_at rows (m - 1) ≡ false → gap_of gap ≡ gap_at rows m

-- a position lies between the ends of a gap that takes some time
pub record IsWithin (gap : Gap) (m : ℕ) : Type 0 where
  pub low : gap.left < gap.reached → gap.from < m
  pub high : gap.left < gap.reached → m < gap.to

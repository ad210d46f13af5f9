-- What holds of the timeframe groups that were built from a feed.
use Rattle.std.specs.Prelude.{◌≡◌, ℕ, Bool, ◌&&◌, ◌==◌, All, length}
use Rattle.std.specs.List.{list_any}
use Rattle.std.specs.List.Sorted.{IsNonDecreasingBy}
use Rattle.feed_calendar.specs.BuiltCalendar.{IsCalendarOf}
use Rattle.fare_areas.specs.BuiltAreas.{AreAreasOf}
use Rattle.fare_areas.specs.LikeStops.{AreLikeStops}
use Rattle.feed_rows.specs.declared.rows.TimeframeRow.{TimeframeRow}
use Rattle.feed_rows.specs.FeedRows.{FeedRows}
use Rattle.fare_timeframes.specs.declared.Timeframes.{Timeframes}
use Rattle.fare_timeframes.specs.Cuts.{AreCutsOf}
use Rattle.fare_timeframes.specs.FrameRows.{rows_at}
use Rattle.fare_timeframes.specs.FrameDays.{IsDayOf}

-- the timeframe groups are those of this feed
pub record AreTimeframesOf (feed : FeedRows) (timeframes : Timeframes) : Type 0 where
  pub calendar : IsCalendarOf feed timeframes.calendar.now
  pub areas : AreAreasOf feed timeframes.areas
  pub likes : AreLikeStops feed timeframes.likes.items
  pub count : timeframes.count ≡ length feed.frame_names
  pub rises : (frame : ℕ) → IsNonDecreasingBy (λ (row : TimeframeRow). row.start) (rows_at timeframes.rows frame)
  pub has : (frame : ℕ) (test : TimeframeRow → Bool) → list_any test (rows_at timeframes.rows frame) ≡ list_any (λ row. (row.frame.0 == frame) && test row) feed.timeframes
  pub cuts : AreCutsOf feed timeframes.cuts.items
  pub days : All (IsDayOf feed) timeframes.days.items

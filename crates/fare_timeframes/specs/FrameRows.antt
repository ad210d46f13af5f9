-- The rows of timeframes.txt by group and start.
use Rattle.std.specs.Prelude.{◌≡◌, ℕ, ◌<◌, ◌≤◌, Bool, ◌&&◌, ◌==◌, nat_lt, ℤ, List, [], slice_get, unwrap_or}
use Rattle.std.specs.List.{list_any}
use Rattle.std.specs.List.Sorted.{IsNonDecreasingBy}
use Rattle.transit_base.specs.declared.numbers.FrameId.{FrameId}
use Rattle.feed_rows.specs.declared.rows.TimeframeRow.{TimeframeRow}
use Rattle.feed_rows.specs.FeedRows.{FeedRows}
use Rattle.feed_rows.specs.ServiceDays.{is_active}
use Rattle.item_groups.specs.declared.groups.Grouped.{Grouped}

-- a row with its timeframe group
abbrev pub by_frame : TimeframeRow → Grouped TimeframeRow
by_frame row = record { group = row.frame.0; item = row }

abbrev pub frame_of : ℕ → FrameId
frame_of i = record { 0 = i }

-- the rows of a timeframe group
abbrev pub rows_at : List (List TimeframeRow) → ℕ → List TimeframeRow
rows_at groups frame = unwrap_or (slice_get groups frame) []

-- the row's service is active on the day, and the row ends after the time
abbrev pub lasts_on : FeedRows → ℤ → ℕ → TimeframeRow → Bool
lasts_on feed day time row = is_active feed row.service day && nat_lt time row.end

-- the rows stand in groups, those of each group by start
pub record AreByStart (rows : List TimeframeRow) (n : ℕ) (groups : List (List TimeframeRow)) : Type 0 where
  pub rises : (frame : ℕ) → IsNonDecreasingBy (λ (row : TimeframeRow). row.start) (rows_at groups frame)
  pub has : (frame : ℕ) → frame < n → (test : TimeframeRow → Bool) → list_any test (rows_at groups frame) ≡ list_any (λ row. (row.frame.0 == frame) && test row) rows
  pub none : (frame : ℕ) → n ≤ frame → rows_at groups frame ≡ []

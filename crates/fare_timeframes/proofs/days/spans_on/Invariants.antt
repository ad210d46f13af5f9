use Rattle.std.proofs.Common.{take}
use Rattle.std.specs.List.Sorted.{IsNonDecreasingBy}
use Rattle.feed_calendar.specs.BuiltCalendar.{IsCalendarOf}
use Rattle.feed_rows.specs.FeedRows.{FeedRows}
use Rattle.feed_rows.specs.declared.rows.TimeframeRow.{TimeframeRow}
use Rattle.fare_timeframes.specs.FrameDays.{AreSpansUpTo}
use Rattle.fare_timeframes.proofs.days.spans_on.Given as goal

abbrev pub invariant-loop-row : goal.invariant-loop-row
invariant-loop-row l =
    IsNonDecreasingBy (λ (row : TimeframeRow). row.start) l.rows → (feed : FeedRows) → IsCalendarOf feed l.calendar
    → AreSpansUpTo feed l.day.0 (take l.row-index l.rows) l.end l.spans.items

use Rattle.feed_rows.specs.FeedRows.{FeedRows}
use Rattle.feed_calendar.specs.BuiltCalendar.{IsCalendarOf}
use Rattle.fare_audit.specs.Days.{AreActiveDays}
use Rattle.fare_audit.proofs.days.active_days.Given as goal

abbrev pub invariant-loop-number : goal.invariant-loop-number
invariant-loop-number l = (feed : FeedRows) → IsCalendarOf feed l.calendar → AreActiveDays feed l.first.0 l.number l.service l.days.items

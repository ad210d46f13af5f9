use Rattle.std.proofs.Common.{subst}
use Rattle.feed_rows.specs.FeedRows.{FeedRows}
use Rattle.feed_calendar.specs.BuiltCalendar.{IsCalendarOf}
use Rattle.feed_timetable.proofs.timetable.Timetable.calendar.Goals as goal

pub returns : goal.returns
returns c = subst (λ (feed : FeedRows). IsCalendarOf feed c.self.inside.calendar) c.self.view_is c.self.invariant.3

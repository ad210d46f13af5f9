use Rattle.std.proofs.Common.{◌∙◌, subst}
use Rattle.feed_rows.specs.FeedRows.{FeedRows}
use Rattle.feed_rows.specs.Shifts.{shifts_of}
use Rattle.feed_timetable.specs.Standings.{AreShifts}
use Rattle.feed_timetable.proofs.TimetableLaws.{shift_bounds}
use Rattle.feed_timetable.proofs.timetable.Timetable.shifts_of.Goals as goal

pub returns-clause-bounds : goal.returns-clause-bounds
returns-clause-bounds c =
    subst (λ (feed : FeedRows). AreShifts (shifts_of feed c.args.trip)) (c.feed.view_is ∙ c.self.view_is) (shift_bounds _ c.args.trip c.feed.invariant)

use Rattle.feed_calendar.proofs.RowLaws.{built}
use Rattle.feed_calendar.proofs.Calendar.build.Goals as goal

pub returns : goal.returns
returns c =
    built _ _ _ _ _ _ c.feed.view_is c.feed.invariant c.items.ensures.value c.items-2.ensures.value c.items-3.ensures.value c.in_ok-rows.ensures c.in_ok-exceptions.ensures.moved c.in_ok-exceptions.ensures.sorted

use Rattle.std.proofs.lemmas.List.Elements.{All-nil}
use Rattle.fare_timeframes.specs.FrameDays.{IsDayOf}
use Rattle.fare_timeframes.proofs.FrameLaws.{group_has}
use Rattle.fare_timeframes.proofs.Timeframes.build.Goals as goal

pub returns : goal.returns
returns c =
    let rows = c.in_ok-rows.ensures in
    record {
      days = rw c.new.ensures.items (All-nil (IsDayOf _));
      calendar = c.requires;
      cuts = c.in_ok-cuts.ensures;
      areas = c.in_ok-areas.ensures;
      likes = c.in_ok-likes.ensures;
      count = rw (← c.feed.view_is) c.items.ensures.len;
      rises = rows.rises;
      has = rw (← c.feed.view_is) (group_has _ _ _ _ c.feed.invariant.timeframes c.items-2.ensures.value c.items.ensures.len rows);
    }

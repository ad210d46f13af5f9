use Rattle.std.proofs.lemmas.List.Elements.{All-push}
use Rattle.fare_timeframes.specs.FrameDays.{IsDayOf}
use Rattle.fare_timeframes.proofs.Timeframes.keep.Goals as goal

pub returns : goal.returns
returns c = λ feed are.
    record {
      calendar = are.calendar;
      cuts = are.cuts;
      areas = are.areas;
      likes = are.likes;
      count = are.count;
      rises = are.rises;
      has = are.has;
      days = rw c.in_ok-push.ensures.items (All-push (IsDayOf feed) c.args.self.now.days.items c.in_ok-kept.kept are.days (c.in_ok-kept.ensures feed are));
    }

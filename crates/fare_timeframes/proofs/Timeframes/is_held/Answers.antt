use Rattle.std.proofs.Common.{◌∙◌}
use Rattle.fare_timeframes.proofs.DayLaws.{holds_from_day}
use Rattle.fare_timeframes.proofs.FrameLaws.{holds_from_rows}
use Rattle.fare_timeframes.proofs.Timeframes.is_held.Goals as goal

pub returns-in-Some : goal.returns-in-Some
returns-in-Some c = λ feed are kept.
    let here = rw c.in-Some.is at kept in
    c.holds.ensures feed here.0
    ∙ rw c.time_of_day-time.ensures (holds_from_day feed c.in-Some.day.now here.0 c.args.frame c.args.at.0 here.1)

pub returns-in-None : goal.returns-in-None
returns-in-None c = λ feed are kept.
    let started = c.started_by-rows.ensures (rw c.get.ensures (are.rises c.args.frame.0)) in
    c.has_active.ensures feed are
    ∙ rw (c.day.ensures, started, c.get.ensures, c.time_of_day-time.ensures) (holds_from_rows feed c.args.self.now are c.args.frame c.args.at.0)

use Rattle.std.proofs.Common.{◌∙◌}
use Rattle.fare_timeframes.proofs.days.FrameDay.holds.Goals as goal

pub returns : goal.returns
returns c = λ feed are.
    c.has_time.ensures (rw c.get.ensures (are.steps c.args.frame.0))
    ∙ rw c.get.ensures (are.has c.args.frame.0 c.args.time)

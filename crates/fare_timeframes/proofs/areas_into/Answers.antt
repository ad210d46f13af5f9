use Rattle.std.proofs.Common.{◌∙◌, take_all}
use Rattle.fare_timeframes.proofs.areas_into.Goals as goal

pub returns : goal.returns
returns c = c.loop-i.invariant ∙ take_all c.loop-i.i c.args.areas.now c.loop-i-test.false

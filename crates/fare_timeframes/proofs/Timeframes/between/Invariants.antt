use Rattle.fare_timeframes.specs.BuiltTimeframes.{AreTimeframesOf}
use Rattle.fare_timeframes.proofs.Timeframes.between.Given as goal

abbrev pub invariant-loop-day : goal.invariant-loop-day
invariant-loop-day l = AreTimeframesOf l.feed l.timeframes

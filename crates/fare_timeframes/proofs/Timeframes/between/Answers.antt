use Rattle.fare_timeframes.proofs.Timeframes.between.Goals as goal
use Rattle.fare_timeframes.proofs.Timeframes.between.Goals.{else-loop-day-test, then-loop-day-test+in_ok-keep+else-day-day-end}

pub returns : goal.returns
returns c = elim c.loop-day-test.branch [
  | else-loop-day-test w ↦ rw w.timeframes-is c.loop-day.invariant
  | then-loop-day-test+in_ok-keep+else-day-day-end w ↦ rw w.timeframes-is (w.in_ok-keep.ensures c.args.feed.now c.loop-day.invariant)
]

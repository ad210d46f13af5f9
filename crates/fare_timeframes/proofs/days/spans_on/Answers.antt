use Rattle.fare_timeframes.proofs.DayLaws.{spans_step}
use Rattle.fare_timeframes.proofs.days.spans_on.Goals as goal

pub loop-row-preserved : goal.loop-row-preserved
loop-row-preserved c = λ up feed are.
    spans_step feed c.args.day.0 c.args.rows.now c.loop-row.row-index _ c.active.result _ _ _ _ c.loop-row-test.true up (c.active.ensures feed are)
    (c.loop-row.invariant up feed are) c.in_ok-end.ensures.end c.in_ok-end.ensures.spans

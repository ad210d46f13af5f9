use Rattle.plan_rides.proofs.SpanLaws.{ends_all, ends_more, ends_none}
use Rattle.plan_rides.proofs.spans.end_span.Goals as goal

pub loop-k-init : goal.loop-k-init
loop-k-init c = λ query goes. ends_none c.args.timetable.now query c.args.window c.args.stop c.members-lasts.result.now _

pub loop-k-preserved : goal.loop-k-preserved
loop-k-preserved c = λ query goes.
    ends_more c.args.timetable.now query c.args.window c.args.stop c.members-lasts.result.now c.loop-k.k _ c.loop-k.span
    c.span_to.result c.shorter-span.result c.loop-k-test.true c.shorter-span.ensures.one c.shorter-span.ensures.other
    (c.span_to.ensures query goes) (c.loop-k.invariant query goes)

pub returns : goal.returns
returns c = λ query goes short.
    ends_all c.args.timetable.now query c.args.to c.args.window c.args.stop c.members-lasts.result.now c.loop-k.k
    c.loop-k.span goes short c.members-lasts.ensures c.loop-k-test.false (c.loop-k.invariant query goes)

use Rattle.std.proofs.Common.{◌≤◌, arith}
use Rattle.plan_rides.proofs.SpanLaws.{span_none, span_shorter}
use Rattle.plan_rides.proofs.spans.shorter.Goals as goal

pub returns-then-b-a-clause-one : goal.returns-then-b-a-clause-one
returns-then-b-a-clause-one c secs =
    let test = c.if-b-a.true in
    let least : c.in-Some-Some.b.0 ≤ c.in-Some-Some.a.0 = omega (arith, test) in
    span_shorter c.args.one c.args.other c.in-Some-Some.a c.in-Some-Some.b secs c.in-Some-Some.is-0
    c.in-Some-Some.is-1 least

pub returns-else-b-a-clause-other : goal.returns-else-b-a-clause-other
returns-else-b-a-clause-other c secs =
    let test = c.if-b-a.false in
    let least : c.in-Some-Some.a.0 ≤ c.in-Some-Some.b.0 = omega (arith, test) in
    span_shorter c.args.other c.args.one c.in-Some-Some.b c.in-Some-Some.a secs c.in-Some-Some.is-1
    c.in-Some-Some.is-0 least

pub returns-in-Some-None-clause-other : goal.returns-in-Some-None-clause-other
returns-in-Some-None-clause-other c secs is = absurd (span_none c.args.other secs c.in-Some-None.is-1 is)

pub returns-in-None-default-clause-one : goal.returns-in-None-default-clause-one
returns-in-None-default-clause-one c secs is = absurd (span_none c.args.one secs c.in-None-default.is-0 is)

use Rattle.std.proofs.Common.{◌≤ℤ◌, ◌+◌, pos, arith}
use Rattle.std.proofs.lemmas.Int.{ints}
use Rattle.plan_rides.proofs.SpanLaws.{span_behind, span_none}
use Rattle.plan_rides.proofs.spans.behind_walk.Goals as goal

pub returns-in_err-span : goal.returns-in_err-span
returns-in_err-span c secs few is = absurd (span_none c.args.span _ c.in_err-span.was is)

pub returns : goal.returns
returns c secs few is =
    let walk = c.from.ensures in
    let rest = c.from-2.ensures in
    let whole = span_behind c.args.span c.in_ok-span.span c.args.walk.0 secs c.in_ok-span.was is in
    let all : pos (c.from.result + c.from-2.result) ≤ℤ secs = omega (arith, ints, walk, rest, whole) in
    c.span_of.ensures secs all few

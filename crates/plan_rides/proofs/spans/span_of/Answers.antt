use Rattle.plan_rides.proofs.SpanLaws.{span_least}
use Rattle.plan_rides.proofs.spans.span_of.Goals as goal

pub returns : goal.returns
returns c secs le few = span_least c.args.seconds secs le

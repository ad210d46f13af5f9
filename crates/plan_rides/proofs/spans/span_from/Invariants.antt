use Rattle.std.proofs.Common.{◌≡◌, true, ℤ}
use Rattle.plan_rides.specs.Cutoffs.{is_span}
use Rattle.plan_rides.specs.Spans.{HasWalkSpans}
use Rattle.plan_rides.proofs.spans.span_from.Given as goal

abbrev pub invariant-loop-k : goal.invariant-loop-k
invariant-loop-k l = record {
  own : (secs : ℤ) → is_span l.fn.own secs ≡ true → is_span l.span secs ≡ true;
  walks : HasWalkSpans l.window l.boards l.walks l.k l.span;
}

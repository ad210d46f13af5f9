use Rattle.std.proofs.Common.{◌≡◌, [], length}
use Rattle.plan_rides.specs.Spans.{AreSpansFor, with_spans}
use Rattle.plan_rides.proofs.spans.Spans.of.Given as goal

abbrev pub invariant-loop-more : goal.invariant-loop-more
invariant-loop-more l = record {
  are : AreSpansFor l.runs.feed l.runs.scope l.fn.to l.window (with_spans l.spans l.stands.items []);
  many : length l.spans.boards ≡ length l.spans.stands;
  stops : length l.stands.items ≡ length l.runs.feed.stops;
}

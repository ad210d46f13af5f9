use Rattle.std.proofs.Common.{◌≡◌, length}
use Rattle.plan_rides.specs.Spans.{AreSpansBefore}
use Rattle.plan_rides.proofs.spans.spans_before.Given as goal

abbrev pub invariant-loop-stop : goal.invariant-loop-stop
invariant-loop-stop l = record {
  are : AreSpansBefore l.timetable l.window l.spans l.boards l.stop l.new.items;
  many : length l.new.items ≡ l.stop;
}

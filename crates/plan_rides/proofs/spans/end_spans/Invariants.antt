use Rattle.std.proofs.Common.{◌≡◌, ◌≤◌, ◌<◌, ℕ, length}
use Rattle.std.specs.Prelude.{None, slice_get, unwrap_or}
use Rattle.feed_rows.specs.declared.journeys.Query.{Query}
use Rattle.plan_rides.specs.Spans.{IsEndSpan}
use Rattle.plan_rides.proofs.spans.end_spans.Given as goal

abbrev pub invariant-loop-stop : goal.invariant-loop-stop
invariant-loop-stop l = record {
  are : (stop : ℕ) → stop < l.stop → (query : Query) → query.to ≡ l.to → query.window ≤ l.window →
      IsEndSpan l.timetable query (record { 0 = stop }) (unwrap_or (slice_get l.spans.items stop) None);
  many : length l.spans.items ≡ l.stop;
}

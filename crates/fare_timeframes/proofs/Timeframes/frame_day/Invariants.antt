use Rattle.std.proofs.Common.{◌≡◌, ℕ, ◌<◌, length}
use Rattle.feed_rows.specs.FeedRows.{FeedRows}
use Rattle.fare_timeframes.specs.BuiltTimeframes.{AreTimeframesOf}
use Rattle.fare_timeframes.specs.FrameDays.{AreSpansOf, spans_at}
use Rattle.fare_timeframes.specs.FrameRows.{rows_at}
use Rattle.fare_timeframes.proofs.Timeframes.frame_day.Given as goal

abbrev pub invariant-loop-number : goal.invariant-loop-number
invariant-loop-number l = record {
  many : length l.spans ≡ l.number;
  each : (feed : FeedRows) → AreTimeframesOf feed l.self → (frame : ℕ) → frame < l.number → AreSpansOf feed l.day.0 (rows_at l.self.rows frame) (spans_at l.spans frame);
}

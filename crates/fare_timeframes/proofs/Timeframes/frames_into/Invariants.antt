use Rattle.std.proofs.Common.{◌≡◌, ◌<◌, All}
use Rattle.feed_rows.specs.FeedRows.{FeedRows}
use Rattle.feed_rows.specs.Legs.{holds_at}
use Rattle.plain_laws.specs.Plain.{picks_below}
use Rattle.fare_timeframes.specs.BuiltTimeframes.{AreTimeframesOf}
use Rattle.fare_timeframes.specs.FrameRows.{frame_of}
use Rattle.fare_timeframes.proofs.Timeframes.frames_into.Given as goal

abbrev pub invariant-loop-number : goal.invariant-loop-number
invariant-loop-number l = record {
  below : All (λ f. f.0 < l.number) l.frames;
  picked : (feed : FeedRows) → AreTimeframesOf feed l.self → l.frames ≡ picks_below l.number (λ i. holds_at feed (frame_of i) l.at.0) frame_of;
}

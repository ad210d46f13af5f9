use Rattle.std.proofs.Common.{◌≡◌, false, take}
use Rattle.std.specs.List.{list_any}
use Rattle.feed_rows.specs.FeedRows.{FeedRows}
use Rattle.fare_timeframes.specs.BuiltTimeframes.{AreTimeframesOf}
use Rattle.fare_timeframes.specs.FrameRows.{lasts_on}
use Rattle.fare_timeframes.proofs.Timeframes.has_active.Given as goal

abbrev pub invariant-loop-row : goal.invariant-loop-row
invariant-loop-row l = (feed : FeedRows) → AreTimeframesOf feed l.self → list_any (lasts_on feed l.day.0 l.time) (take l.row-index l.rows) ≡ false

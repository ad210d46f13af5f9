use Rattle.std.proofs.Common.{ℤ, take}
use Rattle.feed_rows.specs.FeedRows.{FeedRows}
use Rattle.fare_audit.specs.Days.{AreKinds, ArePicked}
use Rattle.fare_audit.proofs.days.unlike_days.Given as goal

abbrev pub invariant-loop-day : goal.invariant-loop-day
invariant-loop-day l = (feed : FeedRows) (first : ℤ) → AreKinds feed first l.kinds → ArePicked feed first l.reach (take l.day-index l.days) l.picked.items

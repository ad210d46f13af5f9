use Rattle.feed_rows.specs.FeedRows.{FeedRows}
use Rattle.fare_timeframes.specs.BuiltTimeframes.{AreTimeframesOf}
use Rattle.command_answers.specs.NamedRides.{AreKnown}
use Rattle.command_answers.proofs.LegLaws.{AreLegsBelow}
use Rattle.command_answers.proofs.ride_prices.prices.legs_by.Given as goal

abbrev pub invariant-loop-k : goal.invariant-loop-k
invariant-loop-k l =
    (feed : FeedRows) → AreTimeframesOf feed l.timeframes → AreKnown feed l.rides → AreLegsBelow feed l.rides l.k l.legs.items

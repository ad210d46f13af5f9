-- All moves of a leg, by the state alone and by the legs before it.
use Rattle.std.specs.Prelude.{◌≡◌, true, List, [], Some, None, ℤ, pos}
use Rattle.feed_rows.specs.declared.journeys.Buyer.{Buyer}
use Rattle.feed_rows.specs.declared.fares.Choice.{Choice}
use Rattle.feed_rows.specs.declared.journeys.LegFacts.{LegFacts}
use Rattle.feed_rows.specs.declared.states.FareState.{FareState}
use Rattle.feed_rows.specs.declared.states.Move.{Move}
use Rattle.feed_rows.specs.FeedRows.{FeedRows}
use Rattle.feed_rows.specs.FareChoices.{is_fare_choice}
use Rattle.feed_rows.specs.FareExtensions.{AreExtensions}
use Rattle.feed_rows.specs.FareStates.{held_amount, fare_state}
use Rattle.feed_rows.specs.FareSteps.{AreMovesAfter}

-- the moves of a first leg are all that there are, each once, and they are exactly what extends the choice for no leg
pub record AreStarts (feed : FeedRows) (buyer : Buyer) (leg : LegFacts) (moves : List Move) : Type 0 where
  pub exact : AreMovesAfter feed buyer None (pos 0) leg moves
  pub extends : (choice : Choice) → is_fare_choice feed [] choice buyer ≡ true → AreExtensions feed buyer [] choice leg moves

-- the moves of a leg after the state are all that there are, each once; and they are exactly what extends each choice
-- that pays legs after which fares are in this state, with so much held
pub record AreSteps (feed : FeedRows) (buyer : Buyer) (state : FareState) (held : ℤ) (leg : LegFacts) (moves : List Move) : Type 0 where
  pub exact : AreMovesAfter feed buyer (Some state) held leg moves
  pub extends : (legs : List LegFacts) (choice : Choice) → is_fare_choice feed legs choice buyer ≡ true
      → fare_state feed legs choice ≡ Some state → held_amount feed choice ≡ held → AreExtensions feed buyer legs choice leg moves

-- The least price of legs, or none.
use Rattle.std.specs.Prelude.{List, Option, Some, None}
use Rattle.feed_rows.specs.declared.journeys.Buyer.{Buyer}
use Rattle.feed_rows.specs.declared.journeys.LegFacts.{LegFacts}
use Rattle.feed_rows.specs.FeedRows.{FeedRows}
use Rattle.feed_rows.specs.LeastPrices.{IsLeastPriceOfLegs, AreUncoveredLegs}
use Rattle.fare_price.specs.declared.Priced.{Priced}

-- the choice and its sum are of least price, or no choice pays the legs for the buyer
abbrev pub IsLeastOrNone : FeedRows → List LegFacts → Buyer → Option Priced → Type 0
IsLeastOrNone feed legs buyer None = AreUncoveredLegs feed legs buyer
IsLeastOrNone feed legs buyer (Some priced) = IsLeastPriceOfLegs feed legs buyer priced.choice priced.sum.0

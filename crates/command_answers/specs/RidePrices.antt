-- The least price of rides.
use Rattle.std.specs.Prelude.{List, Option, Some, None}
use Rattle.feed_rows.specs.declared.journeys.Buyer.{Buyer}
use Rattle.feed_rows.specs.declared.journeys.Ride.{Ride}
use Rattle.feed_rows.specs.FeedRows.{FeedRows}
use Rattle.feed_rows.specs.PriceTexts.{IsLeastPrice, IsUncovered}
use Rattle.fare_price.specs.declared.Priced.{Priced}

-- the choice and its sum are of least price, or no choice pays the rides for the buyer
abbrev pub IsLeastOfRides : FeedRows → List Ride → Buyer → Option Priced → Type 0
IsLeastOfRides feed rides buyer None = IsUncovered feed rides buyer
IsLeastOfRides feed rides buyer (Some priced) = IsLeastPrice feed rides buyer priced.choice priced.sum.0

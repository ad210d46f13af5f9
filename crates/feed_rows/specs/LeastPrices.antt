-- The least price that a choice has, and the least price of legs.
use Rattle.std.specs.Prelude.{◌≡◌, List, Option, Some, None, ℤ, ◌≤ℤ◌}
use Rattle.feed_rows.specs.declared.journeys.Buyer.{Buyer}
use Rattle.feed_rows.specs.declared.journeys.LegFacts.{LegFacts}
use Rattle.feed_rows.specs.declared.fares.Choice.{Choice}
use Rattle.feed_rows.specs.FeedRows.{FeedRows}
use Rattle.feed_rows.specs.FareSums.{fare_price}

-- the choice has this price, and no other choice has a lesser one, where `price_of` gives a choice's price
pub record IsLeastBy (price_of : Choice → Option ℤ) (choice : Choice) (price : ℤ) : Type 0 where
  pub paid : price_of choice ≡ Some price
  pub least : (other : Choice) (sum : ℤ) → price_of other ≡ Some sum → price ≤ℤ sum

-- no choice has a price
abbrev pub HasNoPrice : (Choice → Option ℤ) → Type 0
HasNoPrice price_of = (choice : Choice) → price_of choice ≡ None

-- the choice pays the legs for the buyer at this price, and no other choice pays them at less
abbrev pub IsLeastPriceOfLegs : FeedRows → List LegFacts → Buyer → Choice → ℤ → Type 0
IsLeastPriceOfLegs feed legs buyer choice price = IsLeastBy (λ c. fare_price feed legs c buyer) choice price

-- no choice pays the legs for the buyer
abbrev pub AreUncoveredLegs : FeedRows → List LegFacts → Buyer → Type 0
AreUncoveredLegs feed legs buyer = HasNoPrice (λ c. fare_price feed legs c buyer)

-- The least price of rides is the least price of their legs.
use Rattle.std.proofs.Common.{◌≡◌, sym, ◌∙◌, ap, List}
use Rattle.std.specs.Prelude.{Option, Some, ℤ, option_and_then}
use Rattle.feed_rows.specs.declared.journeys.Buyer.{Buyer}
use Rattle.feed_rows.specs.declared.journeys.LegFacts.{LegFacts}
use Rattle.feed_rows.specs.declared.journeys.Ride.{Ride}
use Rattle.feed_rows.specs.declared.fares.Choice.{Choice}
use Rattle.feed_rows.specs.FeedRows.{FeedRows}
use Rattle.feed_rows.specs.FareSums.{fare_price}
use Rattle.feed_rows.specs.Legs.{legs_of}
use Rattle.feed_rows.specs.JourneyEntries.{rides_price}
use Rattle.feed_rows.specs.LeastPrices.{IsLeastBy, HasNoPrice, IsLeastPriceOfLegs, AreUncoveredLegs}
use Rattle.feed_rows.specs.PriceTexts.{IsLeastPrice, IsUncovered}

-- where each choice has one price by both, the least is the same
IsLeastBy-same : (f g : Choice → Option ℤ) → ((c : Choice) → f c ≡ g c) → (choice : Choice) (price : ℤ) →
    IsLeastBy f choice price → IsLeastBy g choice price
IsLeastBy-same f g same choice price l = record {
  paid = sym (same choice) ∙ l.paid;
  least = λ other sum is. l.least other sum (same other ∙ is);
}

HasNoPrice-same : (f g : Choice → Option ℤ) → ((c : Choice) → f c ≡ g c) → HasNoPrice f → HasNoPrice g
HasNoPrice-same f g same none choice = sym (same choice) ∙ none choice

-- a choice pays rides as it pays their legs
pub rides_price-legs : (feed : FeedRows) (rides : List Ride) (legs : List LegFacts) (buyer : Buyer) →
    legs_of feed rides ≡ Some legs →
    (choice : Choice) → rides_price feed rides choice buyer ≡ fare_price feed legs choice buyer
rides_price-legs feed rides legs buyer is choice = ap
    (λ (o : Option (List LegFacts)). option_and_then (λ ls. fare_price feed ls choice buyer) o) is

pub least_price_of_rides : (feed : FeedRows) (rides : List Ride) (legs : List LegFacts) (buyer : Buyer) →
    legs_of feed rides ≡ Some legs →
    (choice : Choice) (price : ℤ) → IsLeastPriceOfLegs feed legs buyer choice price →
    IsLeastPrice feed rides buyer choice price
least_price_of_rides feed rides legs buyer is = IsLeastBy-same _ _
    (λ c. sym (rides_price-legs feed rides legs buyer is c))

pub uncovered_rides : (feed : FeedRows) (rides : List Ride) (legs : List LegFacts) (buyer : Buyer) →
    legs_of feed rides ≡ Some legs →
    AreUncoveredLegs feed legs buyer → IsUncovered feed rides buyer
uncovered_rides feed rides legs buyer is = HasNoPrice-same _ _ (λ c. sym (rides_price-legs feed rides legs buyer is c))

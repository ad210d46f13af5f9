-- The least price of given rides, and its printed text.
use Rattle.std.specs.Prelude.{◌≡◌, ℕ, ◌+◌, ◌<◌, ◌⊎◌, All, IsTrue, List, [], ◌∷◌, ◌++◌, length, ℤ, codes, decimal}
use Rattle.std.specs.List.{concat}
use Rattle.feed_rows.specs.declared.journeys.Buyer.{Buyer}
use Rattle.feed_rows.specs.declared.journeys.Ride.{Ride}
use Rattle.feed_rows.specs.declared.fares.Choice.{Choice}
use Rattle.feed_rows.specs.FeedRows.{FeedRows}
use Rattle.feed_rows.specs.Rides.{is_ride}
use Rattle.feed_rows.specs.Journeys.{catches_next}
use Rattle.feed_rows.specs.JourneyEntries.{rides_price}
use Rattle.feed_rows.specs.LeastPrices.{IsLeastBy, HasNoPrice}
use Rattle.feed_rows.specs.EntryText.{amount_text, currency_text, fare_lines}
use Rattle.feed_rows.specs.Lines.{line}

-- the rides are rides of the feed, and each next one is caught from the one before
pub record AreJoinedRides (feed : FeedRows) (rides : List Ride) : Type 0 where
  pub are_rides : All (λ ride. IsTrue (is_ride feed ride)) rides
  pub goes_on : (i : ℕ) → i + 1 < length rides → IsTrue (catches_next feed rides i)

-- the choice pays the rides for the buyer at this price, and no other choice pays them at less
abbrev pub IsLeastPrice : FeedRows → List Ride → Buyer → Choice → ℤ → Type 0
IsLeastPrice feed rides buyer choice price = IsLeastBy (λ c. rides_price feed rides c buyer) choice price

-- no choice pays the rides for the buyer
abbrev pub IsUncovered : FeedRows → List Ride → Buyer → Type 0
IsUncovered feed rides buyer = HasNoPrice (λ c. rides_price feed rides c buyer)

-- the line of the price of so many rides, and the fare lines of the choice
unfoldable pub price_text : FeedRows → ℕ → Choice → ℤ → List ℕ
price_text feed rides choice price =
    line (codes "price") (decimal rides ∷ amount_text feed price ∷ currency_text feed ∷ []) ++ concat (fare_lines feed choice)

-- what is printed where no choice pays the rides
abbrev pub uncovered_text : List ℕ
uncovered_text = line (codes "uncovered") []

-- the text is that of a choice of the least price, or tells that no choice pays the rides
abbrev pub IsTextOfLeastPrice : FeedRows → List Ride → Buyer → List ℕ → Type 0
IsTextOfLeastPrice feed rides buyer text =
    ((choice : Choice) × (price : ℤ) × IsLeastPrice feed rides buyer choice price
    × (text ≡ price_text feed (length rides) choice price))
    ⊎ (IsUncovered feed rides buyer × (text ≡ uncovered_text))

-- the rides follow one another, and the text is that of their least price
abbrev pub IsPriceText : FeedRows → List Ride → Buyer → List ℕ → Type 0
IsPriceText feed rides buyer text = AreJoinedRides feed rides × IsTextOfLeastPrice feed rides buyer text

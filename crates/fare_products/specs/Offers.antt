-- The rows of a product as offers: each with its number, its rider category and its amount.
use Rattle.std.specs.Prelude.{ℕ, Bool, ◌&&◌, ◌==◌, if◌then◌else◌, List, [], map, filter, fold, slice_get}
use Rattle.std.specs.Prelude.{pos, int_lt, Option, Some, None, unwrap_or}
use Rattle.std.specs.Option.{option_map_or}
use Rattle.transit_base.specs.declared.numbers.ProductRowId.{ProductRowId}
use Rattle.feed_rows.specs.declared.journeys.Buyer.{Buyer}
use Rattle.feed_rows.specs.declared.rows.ProductRow.{ProductRow}
use Rattle.plain_laws.specs.Plain.{empty_or, filled_and}
use Rattle.fare_products.specs.declared.Priced1.{Priced1}
use Rattle.fare_products.specs.declared.offers.Offer.{Offer}

-- the row with this number, as an offer
abbrev pub offer : ℕ → ProductRow → Offer
offer i row = record { row = record { 0 = i }; rider = row.rider; amount = row.amount }

-- the same of row i; past the end it says nothing
abbrev pub offer_at : List ProductRow → ℕ → Offer
offer_at rows i =
    option_map_or (offer i) (slice_get rows i)
    (record { row = record { 0 = i }; rider = None; amount = record { 0 = pos 0 } })

-- the row is of the product
abbrev pub is_of : ℕ → ProductRow → Bool
is_of product row = row.product.0 == product

-- the rows of a product
abbrev pub offers_at : List (List Offer) → ℕ → List Offer
offers_at groups product = unwrap_or (slice_get groups product) []

-- the row is open to the buyer
abbrev pub opens : Buyer → Offer → Bool
opens buyer row = empty_or row.rider (λ category. filled_and buyer.rider (λ r. r.0 == category.0))

-- the rows that are open to the buyer
abbrev pub opened : Buyer → List Offer → List ProductRowId
opened buyer offers = map (λ o. o.row) (filter (opens buyer) offers)

-- the row, where it is open and cheaper than the least so far; else this
abbrev pub cheaper : Buyer → Option Priced1 → Offer → Option Priced1
cheaper buyer least o =
    if opens buyer o && empty_or least (λ p. int_lt o.amount.0 p.amount.0) then
    Some (record { row = o.row; amount = o.amount })
    else least

-- the first of the open rows of least amount
abbrev pub least_offer : Buyer → List Offer → Option Priced1
least_offer buyer offers = fold (cheaper buyer) None offers

-- Which row of a product is the cheapest that is open to a buyer.
use Rattle.std.specs.Prelude.{Bool, not, ◌&&◌, ◌||◌, int_le, length, Option, option_map}
use Rattle.std.specs.List.{list_all}
use Rattle.transit_base.specs.declared.numbers.ProductId.{ProductId}
use Rattle.transit_base.specs.declared.numbers.ProductRowId.{ProductRowId}
use Rattle.feed_rows.specs.declared.journeys.Buyer.{Buyer}
use Rattle.feed_rows.specs.declared.rows.ProductRow.{ProductRow}
use Rattle.feed_rows.specs.FeedRows.{FeedRows}
use Rattle.feed_rows.specs.FareChoices.{is_open}
use Rattle.plain_laws.specs.Plain.{at_and, find_below}

-- the row is of the product and open to the buyer, and no such row has a lesser amount
unfoldable pub is_least_open : FeedRows → ProductId → Buyer → ProductRow → Bool
is_least_open feed product buyer row =
    is_open product buyer row
    && list_all (λ other. not (is_open product buyer other) || int_le row.amount.0 other.amount.0) feed.products

-- the first in file order of the product's rows of least amount that are open to the buyer; none where no row is open
unfoldable pub least_open_row : FeedRows → ProductId → Buyer → Option ProductRowId
least_open_row feed product buyer =
    option_map
    (λ i. record { 0 = i })
    (find_below (length feed.products) (λ i. at_and feed.products i (is_least_open feed product buyer)))

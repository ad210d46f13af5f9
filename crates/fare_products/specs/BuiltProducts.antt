-- What holds of the products that were built from a feed.
use Rattle.std.specs.Prelude.{◌≡◌, ℕ}
use Rattle.feed_rows.specs.FeedRows.{FeedRows}
use Rattle.plain_laws.specs.Plain.{ids_where}
use Rattle.fare_products.specs.declared.Products.{Products}
use Rattle.fare_products.specs.Offers.{offer_at, is_of, offers_at}

-- the products are those of this feed
pub record AreProductsOf (feed : FeedRows) (products : Products) : Type 0 where
  pub of_product : (product : ℕ)
      → offers_at products.by_product product ≡ ids_where (offer_at feed.products) (is_of product) feed.products
  pub decimals : products.decimals ≡ feed.decimals

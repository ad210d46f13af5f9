use Rattle.std.proofs.Common.{◌≡◌, take}
use Rattle.fare_products.specs.Offers.{opened}
use Rattle.fare_products.proofs.Products.open_rows.Given as goal

abbrev pub invariant-loop-offer : goal.invariant-loop-offer
invariant-loop-offer l = l.rows ≡ opened l.buyer (take l.offer-index l.offer-items)

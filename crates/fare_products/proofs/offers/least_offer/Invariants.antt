use Rattle.std.proofs.Common.{◌≡◌, take}
use Rattle.fare_products.specs.Offers.{least_offer}
use Rattle.fare_products.proofs.offers.least_offer.Given as goal

abbrev pub invariant-loop-offer : goal.invariant-loop-offer
invariant-loop-offer l = l.least ≡ least_offer l.buyer (take l.offer-index l.offers)

use Rattle.std.proofs.Common.{refl}
use Rattle.fare_products.proofs.OfferLaws.{built}
use Rattle.fare_products.proofs.Products.build.Goals as goal

pub returns : goal.returns
returns c =
    built _ _ _ _ _ _ c.feed.view_is c.feed.invariant c.items.ensures.value c.items-count.ensures.len
    c.in_ok-members.ensures c.in_ok-of.ensures refl

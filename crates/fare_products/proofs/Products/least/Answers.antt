use Rattle.std.proofs.Common.{◌∙◌, ap}
use Rattle.fare_products.specs.Offers.{least_offer}
use Rattle.fare_products.proofs.CheapestLaws.{cheapest_of}
use Rattle.fare_products.proofs.Products.least.Goals as goal

pub returns-clause-row : goal.returns-clause-row
returns-clause-row c = λ feed are.
    (cheapest_of feed c.args.product c.args.buyer c.args.self.now are c.least_offer.result
    (c.least_offer.ensures ∙ ap (least_offer c.args.buyer) c.offers.ensures)).row

pub returns-clause-amount : goal.returns-clause-amount
returns-clause-amount c = λ feed are.
    (cheapest_of feed c.args.product c.args.buyer c.args.self.now are c.least_offer.result
    (c.least_offer.ensures ∙ ap (least_offer c.args.buyer) c.offers.ensures)).amount

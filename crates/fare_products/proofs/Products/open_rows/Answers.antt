use Rattle.std.proofs.Common.{◌∙◌, ap}
use Rattle.std.proofs.lemmas.List.{take_all}
use Rattle.fare_products.specs.Offers.{opened}
use Rattle.fare_products.proofs.OfferLaws.{opened_is}
use Rattle.fare_products.proofs.Products.open_rows.Goals as goal

pub returns : goal.returns
returns c = λ feed are.
    let all = take_all c.loop-offer.offer-index c.offers-offer-items.result.now c.loop-offer-test.false in
    c.loop-offer.invariant ∙ ap (opened c.args.buyer) (all ∙ c.offers-offer-items.ensures)
    ∙ opened_is feed c.args.self.now are c.args.product c.args.buyer

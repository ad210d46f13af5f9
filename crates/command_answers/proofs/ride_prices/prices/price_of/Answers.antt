use Rattle.std.proofs.Common.{◌∙◌, ap, subst, List, length, arith}
use Rattle.std.proofs.lemmas.Result.{IfOk-weaker}
use Rattle.feed_rows.specs.FeedRows.{FeedRows}
use Rattle.feed_rows.specs.declared.journeys.LegFacts.{LegFacts}
use Rattle.fare_price.specs.Prices.{IsLeastOrNone}
use Rattle.command_answers.specs.declared.ride_prices.rides.NamedRide.{NamedRide}
use Rattle.command_answers.specs.NamedRides.{rides_of}
use Rattle.command_answers.specs.RidePrices.{IsLeastOfRides}
use Rattle.command_answers.proofs.LegLaws.{least_of_legs, legs_many}
use Rattle.command_answers.proofs.ride_prices.prices.price_of.Goals as goal

pub price-requires : goal.price-requires
price-requires c =
    let many = legs_many c.args.timetable.now c.as_slice.result.now c.in_ok-legs.legs.items c.in_ok-legs.ensures in
    let rides = ap length c.as_slice.ensures.value in
    let legs = ap length c.as_slice-in-Ok.ensures.value in
    let few = c.requires.few in
    record { few = omega (arith, many, rides, legs, few) }

pub returns-in-Ok : goal.returns-in-Ok
returns-in-Ok c =
    let feed = c.args.timetable.now in
    let buyer = c.args.query.now.buyer in
    let named = c.as_slice.result.now in
    let legs = c.in_ok-legs.legs.items in
    IfOk-weaker c.price.result _ _
    (λ priced least.
    let of_feed = subst (λ (f : FeedRows). IsLeastOrNone f c.as_slice-in-Ok.result.now buyer priced) (c.in-Ok.ensures ∙ c.feed.ensures.value) least in
    let of_legs = subst (λ (ls : List LegFacts). IsLeastOrNone feed ls buyer priced) c.as_slice-in-Ok.ensures.value of_feed in
    subst (λ (ns : List NamedRide). IsLeastOfRides feed (rides_of ns) buyer priced) c.as_slice.ensures.value
    (least_of_legs feed (rides_of named) legs buyer priced c.in_ok-legs.ensures of_legs))
    c.price.ensures

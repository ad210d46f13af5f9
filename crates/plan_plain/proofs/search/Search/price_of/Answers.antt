use Rattle.std.proofs.Common.{subst, arith}
use Rattle.std.specs.Prelude.{IfOk}
use Rattle.std.proofs.lemmas.Result.{IfOk-weaker}
use Rattle.fare_automaton.specs.Terms.{FareTerms}
use Rattle.fare_price.specs.Prices.{IsLeastOrNone}
use Rattle.plan_plain.proofs.SearchLaws.{cheapest_of_legs, count_of_legs}
use Rattle.plan_plain.proofs.search.Search.price_of.Goals as goal

pub returns : goal.returns
returns c =
    let path = c.args.path.now in
    IfOk-weaker c.price.result _ _
    (λ priced least. cheapest_of_legs c.args.self.now.feed path.rides path.legs c.args.self.now.query.buyer priced c.requires.legs least)
    (subst (λ (t : FareTerms). IfOk c.price.result (IsLeastOrNone t.feed path.legs t.buyer)) c.requires.terms c.price.ensures)

pub price-requires : goal.price-requires
price-requires c =
    let long = count_of_legs _ _ _ c.requires.legs in
    let few = c.query-query.ensures.usual.rides in
    omega (arith, long, few, c.requires.few)

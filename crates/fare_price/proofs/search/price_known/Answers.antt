use Rattle.std.proofs.Common.{◌≡◌, sym, ◌∙◌, ap, subst, ◌+◌, ◌-◌, List, [], length, arith}
use Rattle.std.specs.Prelude.{pos, ℤ}
use Rattle.std.proofs.lemmas.Bool.{eqb-true}
use Rattle.std.proofs.lemmas.Bool.Decides.{nat_tests}
use Rattle.feed_rows.specs.declared.fares.Choice.{Choice}
use Rattle.feed_rows.specs.declared.journeys.LegFacts.{LegFacts}
use Rattle.feed_rows.specs.LeastPrices.{IsLeastPriceOfLegs}
use Rattle.plain_laws.proofs.Laws.{no_item}
use Rattle.fare_price.specs.declared.ways.Way.{Way}
use Rattle.fare_price.specs.Ways.{cost, choice_of}
use Rattle.fare_price.proofs.LayerLaws.{no_legs, no_way, least_way, bounded_more}
use Rattle.fare_price.proofs.search.price_known.Goals as goal

pub returns-then-is_empty : goal.returns-then-is_empty
returns-then-is_empty c =
    let none : c.args.legs.now ≡ [] = no_item c.args.legs.now (eqb-true _ _ (sym c.if-is_empty.ensures)) in
    let terms = c.args.known.now.terms in
    subst (λ (choice : Choice). IsLeastPriceOfLegs terms.feed c.args.legs.now terms.buyer choice (pos 0)) (sym c.no_choice.ensures)
    (subst (λ (legs : List LegFacts). IsLeastPriceOfLegs terms.feed legs terms.buyer _ (pos 0)) (sym none) (no_legs terms.feed terms.buyer))

pub returns-in-None : goal.returns-in-None
returns-in-None c =
    no_way c.args.known.now.terms.feed c.args.known.now.terms.buyer c.args.legs.now c.ways_to_pay.new.steps.items c.in_ok-ways.ways
    (length c.args.legs.now - 1) c.in_ok-ways.ensures c.in-None.ensures

pub total-requires : goal.total-requires
total-requires c =
    bounded_more (length c.args.legs.now - 1 + 1) 12 c.in-Some.way (grind (arith, nat_tests, c.if-is_empty.ensures))
    (c.in_ok-ways.ensures.real c.in-Some.way c.in-Some.ensures.0).bounded

pub returns : goal.returns
returns c =
    let found = c.in-Some.ensures in
    let terms = c.args.known.now.terms in
    subst (λ (price : ℤ). IsLeastPriceOfLegs terms.feed c.args.legs.now terms.buyer c.in_ok-choice_of-in-Some.field-0 price)
    (sym c.total.ensures)
    (subst (λ (choice : Choice). IsLeastPriceOfLegs terms.feed c.args.legs.now terms.buyer choice (cost c.in-Some.way))
    (sym (c.in_ok-choice_of-in-Some.ensures
    ∙ ap (λ (steps : List Way). choice_of steps (length c.args.legs.now - 1) c.in-Some.way) c.deref.ensures.value))
    (least_way terms.feed terms.buyer c.args.legs.now c.ways_to_pay.new.steps.items c.in_ok-ways.ways
    (length c.args.legs.now - 1) c.in_ok-ways.ensures c.in-Some.way found.0 found.1))

use Rattle.std.proofs.Common.{refl, sym, ◌∙◌, subst, List, [], take_all}
use Rattle.feed_rows.specs.declared.journeys.LegFacts.{LegFacts}
use Rattle.fare_price.specs.Known.{AreKnown}
use Rattle.fare_price.proofs.KnownLaws.{none_known, more_known}
use Rattle.fare_price.proofs.known.know_all.Goals as goal

pub loop-leg-init : goal.loop-leg-init
loop-leg-init c =
    record {
      known = subst (AreKnown c.args.known.now.lists []) (sym c.in_ok-numbers.ensures.items) (none_known c.args.known.now.lists);
      terms = refl;
    }

pub loop-leg-preserved : goal.loop-leg-preserved
loop-leg-preserved c = record {
  known = more_known c.loop-leg.known.lists c.know.new.self.lists c.args.legs.now c.loop-leg.leg-index c.leg-item.result
      c.loop-leg.numbers.items c.push.new.self.items c.in_ok-number.number c.loop-leg-test.true c.leg-item.is
      c.loop-leg.invariant.known c.in_ok-number.ensures.still c.in_ok-number.ensures.known c.in_ok-push.ensures.items;
  terms = c.in_ok-number.ensures.terms ∙ c.loop-leg.invariant.terms;
}

pub returns-clause-numbers : goal.returns-clause-numbers
returns-clause-numbers c =
    subst (λ (legs : List LegFacts). AreKnown c.loop-leg.known.lists legs c.loop-leg.numbers.items)
    (take_all c.loop-leg.leg-index c.args.legs.now c.loop-leg-test.false) c.loop-leg.invariant.known

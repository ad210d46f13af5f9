use Rattle.std.proofs.Common.{sym, subst}
use Rattle.plan_patterns.specs.declared.span.Span.{Span}
use Rattle.plan_rides.specs.Departures.{AreServed}
use Rattle.plan_rides.proofs.ServedLaws.{ListsTimed, are_timed, lists_more, lists_none}
use Rattle.plan_rides.proofs.servings.serve_stop.Goals as goal

pub loop-k-init : goal.loop-k-init
loop-k-init c =
    subst
    (ListsTimed c.args.patterns.now.feed c.span-span.result.now c.args.patterns.now.patterns c.args.stop.0
    c.serving-servings.result.now 0)
    (sym c.clear.ensures.items) (lists_none _ _ _ _ _)

pub add_serving-requires : goal.add_serving-requires
add_serving-requires c =
    let patterns = c.args.patterns.now in
    let are = subst (AreServed patterns.feed c.args.sought.now patterns.patterns c.args.stop.0) (sym c.serving-servings.ensures)
    (c.requires.departures.each c.args.stop.0 c.requires.inside) in
    are.right c.loop-k.k _ c.loop-k-test.true

pub loop-k-preserved : goal.loop-k-preserved
loop-k-preserved c = lists_more _ _ _ _ _ _ _ _ _ c.loop-k-test.true c.loop-k.invariant c.in_ok-add_serving.ensures

pub returns : goal.returns
returns c =
    let patterns = c.args.patterns.now in
    let are = subst (AreServed patterns.feed c.args.sought.now patterns.patterns c.args.stop.0) (sym c.serving-servings.ensures)
    (c.requires.departures.each c.args.stop.0 c.requires.inside) in
    are_timed _ _ _ _ _ _ _ are c.loop-k-test.false
    (subst (λ (q : Span). ListsTimed patterns.feed q patterns.patterns c.args.stop.0 c.serving-servings.result.now c.loop-k.k c.loop-k.served.items)
    c.span-span.ensures c.loop-k.invariant)

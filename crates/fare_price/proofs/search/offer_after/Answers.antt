use Rattle.std.proofs.Common.{sym, subst, List, All, map}
use Rattle.std.specs.Prelude.{Some}
use Rattle.feed_rows.specs.declared.states.Move.{Move}
use Rattle.label_bag.specs.Bags.{Gathers}
use Rattle.fare_laws.specs.SmallMoves.{IsSmall}
use Rattle.fare_price.specs.Ways.{is_as_good, way_by}
use Rattle.fare_price.proofs.GatherLaws.{OnOk_then}
use Rattle.fare_price.proofs.LayerLaws.{moves_small, adds_by_moves}
use Rattle.fare_price.proofs.search.offer_after.Goals as goal

pub offer_moves-requires-clause-moves : goal.offer_moves-requires-clause-moves
offer_moves-requires-clause-moves c =
    subst (All IsSmall) (sym c.deref.ensures.value)
    (moves_small c.args.automaton.now.feed c.args.automaton.now.buyer (Some c.args.way.now.step.state) c.args.way.now.step.held.0 c.args.leg.now _
    c.feed-feed.ensures.sound c.requires.bounded.held
    (c.in_ok-cheapest_into.ensures c.args.leg.now (sym c.times_of.ensures) c.requires.enough))

pub returns : goal.returns
returns c =
    OnOk_then c.offer_moves.result
    (λ gathers. adds_by_moves c.args.automaton.now.feed c.args.automaton.now.buyer c.args.leg.now (Some c.args.way.now.step.state)
    c.args.way.now.step.held.0 c.args.way.now.paid.0 c.args.number _ _ _
    (c.in_ok-cheapest_into.ensures c.args.leg.now (sym c.times_of.ensures) c.requires.enough)
    (subst (λ (moves : List Move). Gathers is_as_good c.args.next.now (map (way_by c.args.way.now.paid.0 c.args.number) moves) c.offer_moves.new.self)
    c.deref.ensures.value gathers))
    c.offer_moves.ensures

use Rattle.std.proofs.Common.{sym, subst, List, [], All, map, arith}
use Rattle.std.specs.Prelude.{None, pos}
use Rattle.feed_rows.specs.declared.states.Move.{Move}
use Rattle.label_bag.specs.Bags.{Gathers}
use Rattle.fare_price.specs.declared.ways.Way.{Way}
use Rattle.fare_laws.specs.SmallMoves.{IsSmall}
use Rattle.fare_price.specs.Ways.{is_as_good, way_by}
use Rattle.fare_price.proofs.LayerLaws.{moves_small, adds_by_moves}
use Rattle.fare_price.proofs.search.first_ways.Goals as goal

pub offer_moves-requires-clause-moves : goal.offer_moves-requires-clause-moves
offer_moves-requires-clause-moves c =
    subst (All IsSmall) (sym c.deref.ensures.value)
    (moves_small c.args.automaton.now.feed c.args.automaton.now.buyer None (pos 0) c.args.leg.now _ c.feed-feed.ensures.sound (omega arith)
    (c.in_ok-start_into.ensures.enough c.args.leg.now (sym c.times_of.ensures) c.requires.enough))

pub returns : goal.returns
returns c =
    adds_by_moves c.args.automaton.now.feed c.args.automaton.now.buyer c.args.leg.now None (pos 0) (pos 0) 0 _ [] _
    (c.in_ok-start_into.ensures.enough c.args.leg.now (sym c.times_of.ensures) c.requires.enough)
    (subst (λ (moves : List Move). Gathers is_as_good [] (map (way_by (pos 0) 0) moves) c.offer_moves.new.self) c.deref.ensures.value
    (subst (λ (old : List Way). Gathers is_as_good old (map (way_by (pos 0) 0) c.deref.result.now) c.offer_moves.new.self) c.empty-ways.ensures
    c.in_ok-offer_moves.ensures))

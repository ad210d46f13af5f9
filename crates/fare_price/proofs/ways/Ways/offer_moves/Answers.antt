use Rattle.std.proofs.Common.{subst, ◌∷◌, []}
use Rattle.label_bag.specs.Bags.{Gathers}
use Rattle.fare_price.specs.declared.ways.Way.{Way}
use Rattle.fare_price.specs.Ways.{is_as_good, way_by}
use Rattle.label_bag.proofs.BagLaws.{gathers-none}
use Rattle.fare_price.proofs.GatherLaws.{gathers_map, gathers_map-all}
use Rattle.fare_price.proofs.ways.Ways.offer_moves.Goals as goal

pub loop-step-init : goal.loop-step-init
loop-step-init c = gathers-none is_as_good _

pub loop-step-preserved : goal.loop-step-preserved
loop-step-preserved c =
    gathers_map is_as_good (way_by c.args.paid.0 c.args.before) c.args.moves.now c.loop-step.step-index _ _ _ _ c.loop-step-test.true
    c.loop-step.invariant
    (subst (λ (w : Way). Gathers is_as_good c.loop-step.self (w ∷ []) c.offer.new.self) c.way_by.ensures c.in_ok-offer.ensures)

pub returns : goal.returns
returns c =
    gathers_map-all is_as_good (way_by c.args.paid.0 c.args.before) c.args.moves.now c.loop-step.step-index _ _ c.loop-step-test.false
    c.loop-step.invariant

use Rattle.std.proofs.Common.{take, map}
use Rattle.label_bag.specs.Bags.{Gathers}
use Rattle.fare_price.specs.Ways.{is_as_good, way_by}
use Rattle.fare_price.proofs.ways.Ways.offer_moves.Given as goal

abbrev pub invariant-loop-step : goal.invariant-loop-step
invariant-loop-step l = Gathers is_as_good l.initial.self (map (way_by l.paid.0 l.before) (take l.step-index l.moves)) l.self

-- One place more, and past the last place no leg can be paid.
use Rattle.std.proofs.Common.{arith}
use Rattle.fare_bounds.proofs.LevelLaws.{costs_more, costs_all}
use Rattle.fare_bounds.proofs.level.Level.least_costs.Goals as goal

pub loop-place-init : goal.loop-place-init
loop-place-init c = (λ place lt. absurd (omega (arith, lt)), c.never-least.ensures _)

pub loop-place-preserved : goal.loop-place-preserved
loop-place-preserved c = (
  costs_more c.args.amounts.now c.args.self.now c.loop-place.place c.loop-place.least c.leg_costs.result
      c.lesser-least.result
      c.loop-place.invariant.0 c.leg_costs.ensures.costs
      c.lesser-least.ensures.first c.lesser-least.ensures.second,
  c.lesser-least.ensures.amounts _ c.loop-place.invariant.1 c.leg_costs.ensures.amounts,
)

pub returns-clause-costs : goal.returns-clause-costs
returns-clause-costs c =
    costs_all c.args.amounts.now c.args.self.now c.loop-place.place c.loop-place.least
    (omega (arith, c.loop-place-test.false, c.len-place-end.ensures)) c.loop-place.invariant.0

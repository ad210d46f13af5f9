-- The field names the group.
use Rattle.std.proofs.Common.{◌+◌}
use Rattle.fare_bounds.proofs.LevelLaws.{costs_to}
use Rattle.fare_bounds.proofs.level.Level.costs_to.Goals as goal

pub returns-in-Some-clause-costs : goal.returns-in-Some-clause-costs
returns-in-Some-clause-costs c = λ group matches.
    costs_to c.args.amounts.now c.args.self.now c.args.to c.in-Some.field-0 group c.place_of.result
    c.leg_costs.result c.in-Some.is matches c.place_of.ensures c.leg_costs.ensures.costs

pub returns-in-None-clause-costs : goal.returns-in-None-clause-costs
returns-in-None-clause-costs c = λ group matches. c.requires.all (group.0 + 2)

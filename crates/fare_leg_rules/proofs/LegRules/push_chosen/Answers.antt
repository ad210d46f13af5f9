use Rattle.std.proofs.Common.{◌∙◌, ap, ◌++◌, take_all}
use Rattle.fare_leg_rules.specs.Fits.{chosen_among}
use Rattle.fare_leg_rules.proofs.LegRules.push_chosen.Goals as goal

pub returns : goal.returns
returns c =
    c.loop-placed.invariant
    ∙ ap (λ among. c.args.chosen.now.items ++ chosen_among c.args.self.now c.args.leg.now c.args.least among)
    (take_all c.loop-placed.placed-index c.args.among.now c.loop-placed-test.false)

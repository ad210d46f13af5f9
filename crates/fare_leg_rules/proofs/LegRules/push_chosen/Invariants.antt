use Rattle.std.proofs.Common.{◌≡◌, ◌++◌, take}
use Rattle.fare_leg_rules.specs.Fits.{chosen_among}
use Rattle.fare_leg_rules.proofs.LegRules.push_chosen.Given as goal

abbrev pub invariant-loop-placed : goal.invariant-loop-placed
invariant-loop-placed l = l.chosen.items ≡ l.initial.chosen.items ++ chosen_among l.self l.leg l.least (take l.placed-index l.among)

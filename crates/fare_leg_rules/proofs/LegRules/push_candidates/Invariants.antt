use Rattle.std.proofs.Common.{◌≡◌, ◌++◌, take}
use Rattle.std.specs.List.Sorted.{IsNonDecreasingBy}
use Rattle.fare_leg_rules.specs.declared.places.PlacedRule.{PlacedRule}
use Rattle.fare_leg_rules.specs.Fits.{chosen_among}
use Rattle.fare_leg_rules.specs.Places.{candidates}
use Rattle.fare_leg_rules.proofs.LegRules.push_candidates.Given as goal

abbrev pub invariant-loop-i : goal.invariant-loop-i
invariant-loop-i l =
    IsNonDecreasingBy (λ (rule : PlacedRule). rule.place) l.rules
    → l.chosen.items ≡ l.fn.chosen.items ++ chosen_among l.self l.leg l.least (candidates l.rules (take l.i l.areas))

use Rattle.std.proofs.Common.{◌≡◌, ℕ, ◌&&◌, take}
use Rattle.std.specs.Prelude.{nat_le}
use Rattle.std.specs.List.{list_all}
use Rattle.std.specs.List.Sorted.{IsNonDecreasingBy}
use Rattle.fare_leg_rules.specs.declared.places.PlacedRule.{PlacedRule}
use Rattle.fare_leg_rules.specs.Fits.{is_within}
use Rattle.fare_leg_rules.specs.Places.{candidates}
use Rattle.fare_leg_rules.proofs.LegRules.top_candidate.Given as goal

abbrev pub invariant-loop-i : goal.invariant-loop-i
invariant-loop-i l =
    IsNonDecreasingBy (λ (rule : PlacedRule). rule.place) l.rules
    → (priority : ℕ) → nat_le l.top priority ≡ (nat_le l.least priority && list_all (is_within l.self l.leg priority) (candidates l.rules (take l.i l.areas)))

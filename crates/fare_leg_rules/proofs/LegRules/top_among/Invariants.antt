use Rattle.std.proofs.Common.{◌≡◌, ℕ, ◌&&◌, take}
use Rattle.std.specs.Prelude.{nat_le}
use Rattle.std.specs.List.{list_all}
use Rattle.fare_leg_rules.specs.Fits.{is_within}
use Rattle.fare_leg_rules.proofs.LegRules.top_among.Given as goal

abbrev pub invariant-loop-placed : goal.invariant-loop-placed
invariant-loop-placed l = (priority : ℕ) → nat_le l.top priority ≡ (nat_le l.least priority && list_all (is_within l.self l.leg priority) (take l.placed-index l.among))

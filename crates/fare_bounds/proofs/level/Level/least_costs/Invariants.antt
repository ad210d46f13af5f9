-- Of the places so far, the least.
use Rattle.std.proofs.Common.{ℕ, ◌+◌, ◌*◌, ◌<◌}
use Rattle.fare_bounds.specs.Levels.{AreLegCosts, AreCosts}
use Rattle.fare_bounds.proofs.level.Level.least_costs.Given as goal

abbrev pub invariant-loop-place : goal.invariant-loop-place
invariant-loop-place l =
    ((place : ℕ) → place < l.place → AreLegCosts l.amounts l.self place l.least)
    × AreCosts (2 * l.self.rides + 1) l.least

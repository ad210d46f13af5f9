use Rattle.std.proofs.Common.{◌≡◌, ℕ, ◌<◌, All}
use Rattle.plain_laws.specs.Plain.{list_below}
use Rattle.fare_areas.specs.AreaRows.{areas_at, ordered}
use Rattle.fare_areas.proofs.each_in_order.Given as goal

abbrev pub invariant-loop-stop : goal.invariant-loop-stop
invariant-loop-stop l =
    (most : ℕ) → ((stop : ℕ) → All (λ a. a.0 < most) (areas_at l.groups stop))
    → l.own ≡ list_below l.stop (λ stop. ordered most (areas_at l.groups stop))

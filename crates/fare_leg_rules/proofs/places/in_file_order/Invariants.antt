use Rattle.std.proofs.Common.{◌≡◌}
use Rattle.plain_laws.specs.Plain.{list_below}
use Rattle.fare_leg_rules.specs.Places.{placed_at}
use Rattle.fare_leg_rules.proofs.places.in_file_order.Given as goal

abbrev pub invariant-loop-number : goal.invariant-loop-number
invariant-loop-number l = l.placed.items ≡ list_below l.number (placed_at l.rows)

use Rattle.std.proofs.Common.{◌≡◌, filter, take}
use Rattle.fare_leg_rules.specs.Places.{is_common, passes_at}
use Rattle.fare_leg_rules.proofs.places.common_rules.Given as goal

abbrev pub invariant-loop-rule : goal.invariant-loop-rule
invariant-loop-rule l = l.rules.items ≡ filter (passes_at l.rows is_common) (take l.rule-index l.placed)

use Rattle.std.proofs.Common.{◌≡◌, ℕ, filter, take}
use Rattle.item_groups.specs.Groups.{group_of}
use Rattle.fare_leg_rules.specs.Places.{is_of, passes_at}
use Rattle.fare_leg_rules.proofs.places.networked_rules.Given as goal

abbrev pub invariant-loop-rule : goal.invariant-loop-rule
invariant-loop-rule l = (network : ℕ) → group_of l.members.items network ≡ filter (passes_at l.rows (is_of network)) (take l.rule-index l.placed)

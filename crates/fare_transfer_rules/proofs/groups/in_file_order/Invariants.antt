use Rattle.std.proofs.Common.{◌≡◌}
use Rattle.plain_laws.specs.Plain.{list_below}
use Rattle.fare_transfer_rules.specs.Classes.{member_at}
use Rattle.fare_transfer_rules.proofs.groups.in_file_order.Given as goal

abbrev pub invariant-loop-number : goal.invariant-loop-number
invariant-loop-number l = l.members.items ≡ list_below l.number (member_at l.rows)

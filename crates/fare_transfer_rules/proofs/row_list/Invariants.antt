use Rattle.std.proofs.Common.{◌≡◌, take}
use Rattle.fare_transfer_rules.proofs.row_list.Given as goal

abbrev pub invariant-loop-row : goal.invariant-loop-row
invariant-loop-row l = l.list ≡ take l.row-index l.rows

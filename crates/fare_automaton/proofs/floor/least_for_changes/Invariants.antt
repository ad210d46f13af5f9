-- The least of the rows so far.
use Rattle.std.proofs.Common.{◌≡◌, take}
use Rattle.std.specs.List.{list_any}
use Rattle.feed_rows.specs.FareChoices.{is_open}
use Rattle.feed_rows.specs.FareFloor.{least_amount}
use Rattle.plain_laws.specs.Plain.{filled_and}
use Rattle.fare_automaton.proofs.floor.least_for_changes.Given as goal

abbrev pub invariant-loop-row : goal.invariant-loop-row
invariant-loop-row l = l.least.0 ≡ least_amount (λ row. list_any (λ rule. filled_and rule.product (λ product. is_open product l.buyer row)) l.rules) (take l.row-index l.rows)

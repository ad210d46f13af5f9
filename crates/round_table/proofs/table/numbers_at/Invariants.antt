use Rattle.std.proofs.Common.{◌≡◌}
use Rattle.plain_laws.specs.Plain.{at_and, picks_below}
use Rattle.round_table.specs.Tables.{is_at}
use Rattle.round_table.proofs.table.numbers_at.Given as goal

abbrev pub invariant-loop-number : goal.invariant-loop-number
invariant-loop-number l =
    l.numbers.items ≡ picks_below l.number (λ i. at_and l.labels i (is_at l.rides l.stop)) (λ i. i)

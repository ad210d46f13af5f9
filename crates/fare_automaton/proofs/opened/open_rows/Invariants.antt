-- The open rows of the products so far.
use Rattle.std.proofs.Common.{◌≡◌}
use Rattle.feed_rows.specs.FareChoices.{open_rows}
use Rattle.plain_laws.specs.Plain.{list_below}
use Rattle.fare_automaton.proofs.opened.open_rows.Given as goal

abbrev pub invariant-loop-product : goal.invariant-loop-product
invariant-loop-product l = l.opened ≡ list_below l.product (λ product. open_rows l.feed (record { 0 = product }) l.buyer)

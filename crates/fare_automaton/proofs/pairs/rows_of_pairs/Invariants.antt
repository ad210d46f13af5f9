-- The rows of the pairs so far.
use Rattle.std.proofs.Common.{◌≡◌, length}
use Rattle.fare_automaton.specs.Compiled.{ArePairRows}
use Rattle.fare_automaton.proofs.pairs.rows_of_pairs.Given as goal

abbrev pub invariant-loop-place : goal.invariant-loop-place
invariant-loop-place l = record { long : length l.pairs ≡ l.place; are : ArePairRows l.feed l.pairs }

-- Each of the last options has one beside it that is taken.
use Rattle.std.proofs.Common.{◌≡◌, ℕ, ◌+◌, ◌≤◌, length}
use Rattle.std.specs.Prelude.{All, Contains, Some, slice_get}
use Rattle.feed_rows.specs.declared.fares.LegChoice.{LegChoice}
use Rattle.fare_automaton.specs.Fewest.{HasLesser}
use Rattle.fare_automaton.proofs.automaton.Automaton.fewer.Given as goal

abbrev pub invariant-loop-number : goal.invariant-loop-number
invariant-loop-number l = record {
  from : All (Contains l.options) l.fewer.items;
  each : (i : ℕ) (pick : LegChoice) → slice_get l.options i ≡ Some pick → length l.options ≤ i + l.number →
      HasLesser l.self.feed l.fewer.items pick;
}

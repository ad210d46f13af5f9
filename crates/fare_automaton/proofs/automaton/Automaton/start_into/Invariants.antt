-- The moves of the options so far.
use Rattle.std.proofs.Common.{◌≡◌}
use Rattle.plain_laws.specs.Plain.{joined_below}
use Rattle.fare_automaton.specs.Options.{first_made, made_at}
use Rattle.fare_automaton.proofs.automaton.Automaton.start_into.Given as goal

abbrev pub invariant-loop-number : goal.invariant-loop-number
invariant-loop-number l = l.moves.items ≡ joined_below l.number (made_at (first_made l.self.feed l.times) l.options)

-- The moves by the places so far.
use Rattle.std.proofs.Common.{◌≡◌, ◌++◌, take}
use Rattle.std.specs.Prelude.{map}
use Rattle.feed_rows.specs.FareSteps.{next_move}
use Rattle.fare_automaton.specs.Changes.{leg_of}
use Rattle.fare_laws.specs.BareMoves.{bare}
use Rattle.fare_automaton.proofs.automaton.Automaton.push_moves.Given as goal

abbrev pub invariant-loop-place : goal.invariant-loop-place
invariant-loop-place l =
    l.moves.items ≡ l.fn.moves.items ++ map (λ place. next_move l.self.feed l.state l.held.0 (leg_of l.next) (bare l.pick place)) (take l.place-index l.places)

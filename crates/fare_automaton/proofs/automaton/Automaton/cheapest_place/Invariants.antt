-- The cheapest of the places so far.
use Rattle.fare_automaton.proofs.CheapestLaws.{IsLeastSoFar}
use Rattle.fare_automaton.proofs.automaton.Automaton.cheapest_place.Given as goal

abbrev pub invariant-loop-number : goal.invariant-loop-number
invariant-loop-number l = IsLeastSoFar l.self.feed l.held.0 l.amount.0 l.places l.number l.least

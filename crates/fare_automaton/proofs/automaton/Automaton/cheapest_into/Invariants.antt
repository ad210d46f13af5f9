-- Fewer moves of the options so far, and the places that are held.
use Rattle.std.specs.Option.{ForSome}
use Rattle.plain_laws.specs.Plain.{joined_below}
use Rattle.fare_automaton.specs.Fewest.{AreFewerMoves}
use Rattle.fare_automaton.specs.Options.{HasPlaces, next_made, made_at}
use Rattle.fare_automaton.proofs.automaton.Automaton.cheapest_into.Given as goal

abbrev pub invariant-loop-number : goal.invariant-loop-number
invariant-loop-number l = record {
  moves : AreFewerMoves (joined_below l.number (made_at (next_made l.self.feed l.self.buyer l.state l.held.0 l.times) l.options)) l.moves.items;
  known : ForSome l.known (HasPlaces l.self.feed l.self.buyer l.state l.times l.places.items);
}

use Rattle.fare_price.specs.Ways.{AreNextWays}
use Rattle.fare_price.proofs.search.next_ways.Given as goal

abbrev pub invariant-loop-number : goal.invariant-loop-number
invariant-loop-number l = AreNextWays l.automaton.feed l.automaton.buyer l.leg l.base l.ways l.number l.next

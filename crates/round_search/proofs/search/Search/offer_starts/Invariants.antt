use Rattle.std.proofs.Common.{[]}
use Rattle.search_laws.specs.Stores.{Spreads}
use Rattle.round_search.specs.Bags.{StayForStops, in_bags}
use Rattle.round_search.specs.Searches.{IsNever, IsStartAmong, search_of}
use Rattle.round_terms.specs.Tasks.{task_of}
use Rattle.round_search.proofs.search.Search.offer_starts.Given as goal

abbrev pub invariant-loop-k : goal.invariant-loop-k
invariant-loop-k g l = record {
  spreads : Spreads (search_of (task_of g.T.Fare.LabelOrder.at_most g.T.Tariff.terms l.self)) IsNever [] 0
      (IsStartAmong (g.T.Tariff.terms l.self.tariff) l.self.query l.firsts l.k) (in_bags l.fn.bags) (in_bags l.bags);
  stops : StayForStops l.fn.bags l.bags;
}

use Rattle.round_search.specs.Bags.{AreForStops, in_bags}
use Rattle.round_search.specs.Searches.{IsGathered}
use Rattle.round_terms.specs.Tasks.{task_of}
use Rattle.round_search.proofs.search.Search.spread_all.Given as goal

abbrev pub invariant-loop-count : goal.invariant-loop-count
invariant-loop-count g l = record {
  are : IsGathered (task_of g.T.Fare.LabelOrder.at_most g.T.Tariff.terms l.self) l.count l.found (in_bags l.store.bags);
  stops : AreForStops l.self.feed l.store.bags;
  knows : g.T.Tariff.Knows l.self.tariff l.room.kept.legs;
}

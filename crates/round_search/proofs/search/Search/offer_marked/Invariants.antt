use Rattle.round_search.specs.Bags.{StayForStops, in_bags}
use Rattle.round_search.specs.Offers.{IsKept}
use Rattle.round_search.specs.Scans.{SpreadsIn, StepsAtFirst}
use Rattle.round_terms.specs.Tasks.{task_of}
use Rattle.round_search.proofs.search.Search.offer_marked.Given as goal

abbrev pub invariant-loop-k : goal.invariant-loop-k
invariant-loop-k g l = record {
  knows : g.T.Tariff.Knows l.self.tariff l.kept.legs;
  kept : IsKept (task_of g.T.Fare.LabelOrder.at_most g.T.Tariff.terms l.self) (g.T.Tariff.IsKnown l.self.tariff l.kept.legs) l.scan l.kept
      (in_bags l.store.bags);
  spreads : SpreadsIn (task_of g.T.Fare.LabelOrder.at_most g.T.Tariff.terms l.self) l.scan.round.now
      (StepsAtFirst (task_of g.T.Fare.LabelOrder.at_most g.T.Tariff.terms l.self) l.scan.round.now l.reached l.k)
      (in_bags l.fn.store.bags) (in_bags l.store.bags);
  stops : StayForStops l.fn.store.bags l.store.bags;
}

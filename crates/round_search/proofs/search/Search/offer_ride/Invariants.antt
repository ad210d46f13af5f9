use Rattle.round_search.specs.Bags.{StayForStops, in_bags}
use Rattle.round_terms.specs.Labels.{facts_of}
use Rattle.round_search.specs.Searches.{LeadsByFirst, SpreadsFrom}
use Rattle.round_terms.specs.Tasks.{task_of}
use Rattle.round_search.proofs.search.Search.offer_ride.Given as goal

abbrev pub invariant-loop-k : goal.invariant-loop-k
invariant-loop-k g l = record {
  spreads : SpreadsFrom (task_of g.T.Fare.LabelOrder.at_most g.T.Tariff.terms l.self) l.finals l.source
      (LeadsByFirst (g.T.Tariff.terms l.self.tariff) (facts_of l.source.label.now) l.leg.caught.now l.initial.tries.moves.items l.k)
      (in_bags l.fn.store.bags) (in_bags l.store.bags);
  stops : StayForStops l.fn.store.bags l.store.bags;
}

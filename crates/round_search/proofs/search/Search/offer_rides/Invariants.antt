use Rattle.round_search.specs.Bags.{StayForStops, in_bags}
use Rattle.round_terms.specs.Labels.{facts_of}
use Rattle.round_search.specs.Searches.{SpreadsFrom, StepsByFirst}
use Rattle.round_terms.specs.Tasks.{task_of}
use Rattle.round_search.proofs.search.Search.offer_rides.Given as goal

abbrev pub invariant-loop-place : goal.invariant-loop-place
invariant-loop-place g l = record {
  spreads : SpreadsFrom (task_of g.T.Fare.LabelOrder.at_most g.T.Tariff.terms l.self) l.round.finals.now l.source
      (StepsByFirst (task_of g.T.Fare.LabelOrder.at_most g.T.Tariff.terms l.self) (facts_of l.source.label.now) l.served.rides.now l.place)
      (in_bags l.fn.store.bags) (in_bags l.store.bags);
  stops : StayForStops l.fn.store.bags l.store.bags;
}

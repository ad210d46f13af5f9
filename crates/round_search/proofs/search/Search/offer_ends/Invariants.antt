use Rattle.round_search.specs.Finals.{AddsEnds, EndsAmong}
use Rattle.round_terms.specs.Tasks.{task_of}
use Rattle.round_search.proofs.search.Search.offer_ends.Given as goal

abbrev pub invariant-loop-k : goal.invariant-loop-k
invariant-loop-k g l =
    AddsEnds (task_of g.T.Fare.LabelOrder.at_most g.T.Tariff.terms l.self) l.source.labels.now
    (EndsAmong (task_of g.T.Fare.LabelOrder.at_most g.T.Tariff.terms l.self) l.source.label.now l.lasts l.k) l.fn.front l.front

use Rattle.std.proofs.Common.{[]}
use Rattle.round_search.specs.Finals.{AddsEnds, EndsBelow}
use Rattle.round_terms.specs.Tasks.{task_of}
use Rattle.round_search.proofs.search.Search.add_ends.Given as goal

abbrev pub invariant-loop-number : goal.invariant-loop-number
invariant-loop-number g l =
    AddsEnds (task_of g.T.Fare.LabelOrder.at_most g.T.Tariff.terms l.self) l.labels
    (EndsBelow (task_of g.T.Fare.LabelOrder.at_most g.T.Tariff.terms l.self) l.labels l.number) [] l.front

use Rattle.round_search.specs.Bounds.{IsFoundUntil}
use Rattle.round_terms.specs.Tasks.{task_of}
use Rattle.round_search.proofs.search.Search.found_by.Given as goal

abbrev pub invariant-loop-k : goal.invariant-loop-k
invariant-loop-k g l = IsFoundUntil (task_of g.T.Fare.LabelOrder.at_most g.T.Tariff.terms l.self) l.finals l.rides l.price.0 l.fn.until l.first

abbrev pub invariant-loop-k-2 : goal.invariant-loop-k-2
invariant-loop-k-2 g l = IsFoundUntil (task_of g.T.Fare.LabelOrder.at_most g.T.Tariff.terms l.self) l.finals l.rides l.price.0 l.fn.until l.first

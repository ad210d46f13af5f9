-- A moment that was found so far.
use Rattle.round_search.specs.Bounds.{IsCutAfter}
use Rattle.round_terms.specs.Labels.{facts_of}
use Rattle.round_terms.specs.Tasks.{task_of}
use Rattle.round_search.proofs.search.Search.cut_after.Given as goal

abbrev pub invariant-loop-k : goal.invariant-loop-k
invariant-loop-k g l = IsCutAfter (task_of g.T.Fare.LabelOrder.at_most g.T.Tariff.terms l.self) l.finals (facts_of l.label) l.after.0

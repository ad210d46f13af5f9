use Rattle.round_search.specs.Scans.{AreMarksTo}
use Rattle.round_terms.specs.Tasks.{task_of}
use Rattle.round_search.proofs.search.Search.mark.Given as goal

abbrev pub invariant-loop-number : goal.invariant-loop-number
invariant-loop-number g l = AreMarksTo (task_of g.T.Fare.LabelOrder.at_most g.T.Tariff.terms l.self) l.round l.number l.marks

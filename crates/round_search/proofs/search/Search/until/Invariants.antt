use Rattle.round_terms.specs.Costs.{IsLateIf}
use Rattle.round_search.specs.Bounds.{IsUntilFirst}
use Rattle.round_terms.specs.Labels.{facts_of}
use Rattle.round_terms.specs.Tasks.{task_of}
use Rattle.round_search.proofs.search.Search.until.Given as goal

abbrev pub invariant-loop-behind : goal.invariant-loop-behind
invariant-loop-behind g l =
    IsUntilFirst (task_of g.T.Fare.LabelOrder.at_most g.T.Tariff.terms l.self) l.finals
    (IsLateIf (g.T.Tariff.terms l.self.tariff) (facts_of l.label) l.late) l.behind (facts_of l.label) l.until.0

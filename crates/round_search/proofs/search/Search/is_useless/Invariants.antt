use Rattle.std.proofs.Common.{ℕ, ◌<◌}
use Rattle.round_search.specs.Bounds.{AreFoundBy}
use Rattle.round_terms.specs.Labels.{facts_of}
use Rattle.round_terms.specs.Tasks.{task_of}
use Rattle.round_search.proofs.search.Search.is_useless.Given as goal

abbrev pub invariant-loop-further : goal.invariant-loop-further
invariant-loop-further g l =
    (m : ℕ) → m < l.further → AreFoundBy (task_of g.T.Fare.LabelOrder.at_most g.T.Tariff.terms l.self) l.finals m (facts_of l.label)

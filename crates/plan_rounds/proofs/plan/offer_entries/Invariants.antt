use Rattle.plan_rounds.specs.Planned.{AddsEntries}
use Rattle.plan_rounds.proofs.plan.offer_entries.Given as goal

abbrev pub invariant-loop-entry : goal.invariant-loop-entry
invariant-loop-entry l = AddsEntries l.yielded l.fn.front l.front

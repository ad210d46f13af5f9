use Rattle.std.proofs.Common.{◌≡◌}
use Rattle.plain_laws.specs.Plain.{joined_below}
use Rattle.feed_walks.proofs.StepLaws.{step_at}
use Rattle.feed_walks.proofs.steps.steps_to.Given as goal

abbrev pub invariant-loop-to : goal.invariant-loop-to
invariant-loop-to l = l.steps.items ≡ joined_below l.to-index (step_at l.feed l.fn.from l.near)

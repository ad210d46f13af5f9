use Rattle.std.proofs.Common.{◌≡◌}
use Rattle.plain_laws.specs.Plain.{list_below}
use Rattle.feed_walks.specs.OutOf.{out_of}
use Rattle.feed_walks.proofs.steps.steps_of.Given as goal

abbrev pub invariant-loop-from : goal.invariant-loop-from
invariant-loop-from l = l.steps ≡ list_below l.from (λ i. out_of l.feed (record { 0 = i }))

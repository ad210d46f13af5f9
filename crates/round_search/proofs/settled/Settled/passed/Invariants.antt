-- It is the last moment, or past it a label so far is as cheap.
use Rattle.std.proofs.Common.{◌≡◌, ◌⊎◌}
use Rattle.round_search.specs.Settled.{HasCheaper}
use Rattle.round_search.proofs.settled.Settled.passed.Given as goal

abbrev pub invariant-loop-other : goal.invariant-loop-other
invariant-loop-other l = (l.passed ≡ l.fn.last) ⊎ HasCheaper l.self.labels.items l.fn.own l.passed.0

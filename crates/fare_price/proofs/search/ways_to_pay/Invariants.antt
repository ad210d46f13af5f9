use Rattle.std.proofs.Common.{take, ◌+◌}
use Rattle.fare_price.specs.Ways.{AreWaysOf}
use Rattle.fare_price.proofs.search.ways_to_pay.Given as goal

abbrev pub invariant-loop-number : goal.invariant-loop-number
invariant-loop-number l = AreWaysOf l.known.terms.feed l.known.terms.buyer (take (l.number + 1) l.legs) l.steps.items l.number l.ways

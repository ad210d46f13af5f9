use Rattle.std.proofs.Common.{◌≡◌, ◌++◌, take}
use Rattle.fare_price.proofs.search.keep.Given as goal

abbrev pub invariant-loop-number : goal.invariant-loop-number
invariant-loop-number l = l.steps.items ≡ l.initial.steps.items ++ take l.number l.ways

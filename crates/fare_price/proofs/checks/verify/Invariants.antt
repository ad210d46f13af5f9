use Rattle.fare_price.specs.Walks.{IsPaidUpTo}
use Rattle.fare_price.proofs.checks.verify.Given as goal

abbrev pub invariant-loop-number : goal.invariant-loop-number
invariant-loop-number l = IsPaidUpTo l.fares l.buyer l.legs l.choice l.number l.walked

use Rattle.fare_tariff.proofs.MoveLaws.{AreBest}
use Rattle.fare_tariff.proofs.moves.best_into.Given as goal

abbrev pub invariant-loop-number : goal.invariant-loop-number
invariant-loop-number l = AreBest l.all l.moves.items l.number

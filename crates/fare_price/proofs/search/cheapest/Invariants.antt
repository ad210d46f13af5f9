use Rattle.std.proofs.Common.{◌≡◌, take, All, Contains}
use Rattle.std.specs.Prelude.{MatchOption, ◌≤ℤ◌}
use Rattle.fare_price.specs.declared.ways.Way.{Way}
use Rattle.fare_price.specs.Ways.{cost}
use Rattle.fare_price.proofs.search.cheapest.Given as goal

abbrev pub invariant-loop-number : goal.invariant-loop-number
invariant-loop-number l =
    MatchOption l.least (l.number ≡ 0) (λ way. Contains l.ways way
    × All (λ (w : Way). cost way ≤ℤ cost w) (take l.number l.ways))

use Rattle.std.proofs.Common.{refl, pos, arith}
use Rattle.std.proofs.lemmas.Int.{ints}
use Rattle.plan_arrivals.proofs.FreeLaws.{free_price}
use Rattle.plan_arrivals.proofs.no_fares.NoFaresTariff.least_on.Goals as goal

pub returns : goal.returns
returns c asked own serves within few triple leads =
    let free = free_price asked c.args._behind leads.2 triple leads.5 in
    record { least = record { 0 = pos 0 }; is = refl; below = omega (arith, ints, free) }

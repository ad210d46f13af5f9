use Rattle.std.proofs.Common.{subst, sym, arith}
use Rattle.fare_price.specs.declared.ways.Way.{Way}
use Rattle.fare_price.specs.Ways.{cost}
use Rattle.fare_price.proofs.CheapestLaws.{IsCheapest, cheapest_of_all}
use Rattle.plain_laws.proofs.LesserLaws.{lesser_more}
use Rattle.std.proofs.Common.{take, ◌+◌}
use Rattle.fare_price.proofs.search.cheapest.Goals as goal

pub loop-number-preserved : goal.loop-number-preserved
loop-number-preserved c =
    subst (λ (w : Way). IsCheapest c.args.ways.now (take (c.loop-number.number + 1) c.args.ways.now) w)
    (sym c.cheaper.ensures)
    (lesser_more cost c.args.ways.now c.loop-number.number c.get.result.now c.loop-number.least c.get.ensures
    c.loop-number.invariant)

pub returns : goal.returns
returns c = cheapest_of_all c.args.ways.now c.loop-number.number c.loop-number.least (omega arith) c.loop-number.invariant

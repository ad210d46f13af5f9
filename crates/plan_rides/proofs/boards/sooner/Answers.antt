use Rattle.std.proofs.Common.{refl, arith}
use Rattle.plan_rides.proofs.BoardLaws.{by_sooner, none_by}
use Rattle.plan_rides.proofs.boards.sooner.Goals as goal

pub returns-in-Some-Some-clause-one : goal.returns-in-Some-Some-clause-one
returns-in-Some-Some-clause-one c until =
    let least = c.min.ensures in
    by_sooner c.args.one _ c.in-Some-Some.a c.min.result until c.in-Some-Some.is-0 refl (omega (arith, least))

pub returns-in-Some-Some-clause-other : goal.returns-in-Some-Some-clause-other
returns-in-Some-Some-clause-other c until =
    let least = c.min.ensures in
    by_sooner c.args.other _ c.in-Some-Some.b c.min.result until c.in-Some-Some.is-1 refl (omega (arith, least))

pub returns-in-Some-None-clause-other : goal.returns-in-Some-None-clause-other
returns-in-Some-None-clause-other c until is = absurd (none_by c.args.other until c.in-Some-None.is-1 is)

pub returns-in-None-default-clause-one : goal.returns-in-None-default-clause-one
returns-in-None-default-clause-one c until is = absurd (none_by c.args.one until c.in-None-default.is-0 is)

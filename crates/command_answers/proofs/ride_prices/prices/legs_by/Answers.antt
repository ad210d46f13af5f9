use Rattle.std.proofs.Common.{◌≡◌, length, subst, arith}
use Rattle.std.proofs.lemmas.Option.{slice_get-get_or}
use Rattle.command_answers.proofs.LegLaws.{AreLegsBelow, one_more_leg, all_legs}
use Rattle.command_answers.proofs.ride_prices.prices.legs_by.Goals as goal

pub loop-k-preserved : goal.loop-k-preserved
loop-k-preserved c = λ feed are known.
    one_more_leg feed c.args.rides.now c.loop-k.k _ c.loop-k.legs.items c.push.new.self.items c.in_ok-leg.leg known
    (slice_get-get_or c.args.rides.now c.loop-k.k _ c.loop-k-test.true) (c.loop-k.invariant feed are known)
    (c.in_ok-leg.ensures feed are) c.in_ok-push.ensures.items

pub returns : goal.returns
returns c = λ feed are known.
    let rides = c.args.rides.now in
    let legs = c.loop-k.legs.items in
    let ends = c.loop-k.auto.k-end in
    let past = c.loop-k-test.false in
    let all : c.loop-k.k ≡ length rides = omega (arith, ends, past) in
    all_legs feed rides legs (subst (λ n. AreLegsBelow feed rides n legs) all (c.loop-k.invariant feed are known))

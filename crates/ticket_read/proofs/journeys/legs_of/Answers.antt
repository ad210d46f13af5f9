use Rattle.std.proofs.Common.{arith}
use Rattle.std.proofs.lemmas.Option.{slice_get-get_or}
use Rattle.ticket_read.proofs.LoopLaws.{one_leg_more, all_legs, no_legs}
use Rattle.ticket_read.proofs.journeys.legs_of.Goals as goal

pub returns-in_default : goal.returns-in_default
returns-in_default c =
    no_legs c.args.timetable.now c.args.rides.now c.loop-k.k _ (slice_get-get_or c.args.rides.now c.loop-k.k _ c.loop-k-test.true) c.in_default.ensures.value

pub loop-k-preserved : goal.loop-k-preserved
loop-k-preserved c =
    one_leg_more c.args.timetable.now c.args.rides.now c.loop-k.k _ c.in-Some.facts c.loop-k.legs.items c.push.new.self.items c.in_ok-leg.leg
    (slice_get-get_or c.args.rides.now c.loop-k.k _ c.loop-k-test.true) c.in-Some.ensures.value c.loop-k.invariant
    (c.in_ok-leg.ensures c.args.timetable.now c.requires) c.in_ok-push.ensures.items

pub returns : goal.returns
returns c =
    let ends = c.loop-k.auto.k-end in
    let past = c.loop-k-test.false in
    all_legs c.args.timetable.now c.args.rides.now c.loop-k.k c.loop-k.legs.items c.loop-k.invariant (omega (arith, ends, past))

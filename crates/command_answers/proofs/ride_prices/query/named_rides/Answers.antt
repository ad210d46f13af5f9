use Rattle.std.proofs.Common.{sym}
use Rattle.plan_words.specs.Rides.{ride_of}
use Rattle.command_answers.proofs.NameLaws.{one_more_named, first_unnamed}
use Rattle.command_answers.proofs.ride_prices.query.named_rides.Goals as goal

pub returns-in_default-clause-err : goal.returns-in_default-clause-err
returns-in_default-clause-err c =
    first_unnamed c.args.timetable.now _ c.loop-k.k (ride_of c.ride.result) c.loop-k.rides.items c.loop-k.invariant c.ride.ensures.value
    (sym c.in_default.ensures.value)

pub loop-k-preserved : goal.loop-k-preserved
loop-k-preserved c =
    one_more_named c.args.timetable.now _ c.loop-k.k (ride_of c.ride.result) c.loop-k.rides.items c.add.new.rides.items c.in-Some.named
    c.loop-k.invariant c.ride.ensures.value c.in-Some.ensures.value c.in-Some.ensures.facts c.in_ok-add.ensures

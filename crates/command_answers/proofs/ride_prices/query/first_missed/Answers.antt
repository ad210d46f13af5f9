use Rattle.std.proofs.Common.{◌∙◌, sym, ap, not, arith}
use Rattle.command_answers.proofs.NameLaws.{missed_at, missed_found, missed_next}
use Rattle.command_answers.proofs.ride_prices.query.first_missed.Goals as goal

pub returns-then-not-is_caught-clause-value : goal.returns-then-not-is_caught-clause-value
returns-then-not-is_caught-clause-value c =
    let feed = c.args.timetable.now in
    let rides = c.args.rides.now in
    let missed = missed_at feed rides c.loop-i.i _ _ c.is_caught.result c.requires (omega arith) c.loop-i-test.true c.is_caught.ensures in
    sym (missed_found feed rides c.loop-i.i (omega arith) c.loop-i-test.true c.loop-i.invariant (missed ∙ ap not c.if-not-is_caught.true))

pub loop-i-preserved : goal.loop-i-preserved
loop-i-preserved c =
    let feed = c.args.timetable.now in
    let rides = c.args.rides.now in
    let missed = missed_at feed rides c.loop-i.i _ _ c.is_caught.result c.requires (omega arith) c.loop-i-test.true c.is_caught.ensures in
    missed_next feed rides c.loop-i.i (omega arith) c.loop-i.invariant (missed ∙ ap not c.if-not-is_caught.false)

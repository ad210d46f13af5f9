use Rattle.std.proofs.Common.{sym, pos, ◌+ℤ◌, ◌≤ℤ◌, ◌<ℤ◌, arith}
use Rattle.std.proofs.lemmas.Int.{ints}
use Rattle.feed_timetable.specs.Standings.{stand_of}
use Rattle.plain_laws.proofs.Laws.{le-int_le}
use Rattle.ticket_read.proofs.ArrivalLaws.{fits_few, arrival_unfit, arrival_unstood, arrival_unended, arrival_late, arrival_is}
use Rattle.ticket_read.proofs.journeys.arrival_of.Goals as goal

pub returns-then-not-fits_query-clause-value : goal.returns-then-not-fits_query-clause-value
returns-then-not-fits_query-clause-value c = arrival_unfit c.args.timetable.now c.args.query.now c.args.journey.now (sym c.if-not-fits_query.ensures)

pub returns-in_err-standing-clause-value : goal.returns-in_err-standing-clause-value
returns-in_err-standing-clause-value c =
    rw c.from_residual.ensures (
    arrival_unstood c.args.timetable.now c.args.query.now c.args.journey.now (sym c.if-not-fits_query.ensures) c.in_err-standing.ensures.value)

pub returns-in_err-arrival-clause-value : goal.returns-in_err-arrival-clause-value
returns-in_err-arrival-clause-value c =
    rw c.from_residual-in_err-arrival.ensures (
    arrival_unended c.args.timetable.now c.args.query.now c.args.journey.now (stand_of c.in_ok-standing.standing) (sym c.if-not-fits_query.ensures)
    c.in_ok-standing.ensures.value c.in_err-arrival.ensures)

pub returns-then-arrival-query-clause-value : goal.returns-then-arrival-query-clause-value
returns-then-arrival-query-clause-value c =
    let late : (c.args.query.now.departure.0 +ℤ pos c.args.query.now.window) <ℤ c.in_ok-arrival.arrival.0 = omega (arith, ints) in
    arrival_late c.args.timetable.now c.args.query.now c.args.journey.now (stand_of c.in_ok-standing.standing) c.in_ok-arrival.arrival.0
    (sym c.if-not-fits_query.ensures) c.in_ok-standing.ensures.value c.in_ok-arrival.ensures late

pub returns-clause-value : goal.returns-clause-value
returns-clause-value c =
    let soon : c.in_ok-arrival.arrival.0 ≤ℤ (c.args.query.now.departure.0 +ℤ pos c.args.query.now.window) = omega (arith, ints) in
    arrival_is c.args.timetable.now c.args.query.now c.args.journey.now (stand_of c.in_ok-standing.standing) c.in_ok-arrival.arrival.0
    (sym c.if-not-fits_query.ensures) c.in_ok-standing.ensures.value c.in_ok-arrival.ensures (le-int_le _ _ soon)

pub returns-clause-few : goal.returns-clause-few
returns-clause-few c = fits_few c.args.timetable.now c.args.query.now c.args.journey.now (sym c.if-not-fits_query.ensures)

use Rattle.feed_timetable.specs.Standings.{stand_of}
use Rattle.ticket_read.proofs.LoopLaws.{stand_gone, stand_missed}
use Rattle.ticket_read.proofs.journeys.last_standing.Goals as goal

pub returns-in-None-clause-value : goal.returns-in-None-clause-value
returns-in-None-clause-value c =
    stand_missed c.args.timetable.now c.args.query.now c.args.journey.now.first c.args.journey.now.rides c.items-rides.result.now c.loop-k.k
    (stand_of c.loop-k.standing) _ c.items-rides.ensures.value c.loop-k-test.true c.loop-k.invariant.stands c.in-None.ensures.value

pub loop-k-preserved : goal.loop-k-preserved
loop-k-preserved c =
    record {
      stands =
          stand_gone c.args.timetable.now c.args.query.now c.args.journey.now.first c.args.journey.now.rides c.items-rides.result.now c.loop-k.k
          (stand_of c.loop-k.standing) (stand_of c.in-Some.next) _ c.items-rides.ensures.value c.loop-k-test.true c.loop-k.invariant.stands c.in-Some.ensures.value;
      near = c.in-Some.ensures.near;
    }

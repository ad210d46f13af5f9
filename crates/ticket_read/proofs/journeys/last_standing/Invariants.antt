use Rattle.std.proofs.Common.{◌≡◌, Some}
use Rattle.feed_rows.specs.JourneyStands.{stand_after}
use Rattle.feed_timetable.specs.Standings.{stand_of, IsNear}
use Rattle.ticket_read.proofs.journeys.last_standing.Given as goal

abbrev pub invariant-loop-k : goal.invariant-loop-k
invariant-loop-k l =
    record {
      stands : stand_after l.timetable l.query l.journey.first l.journey.rides l.k ≡ Some (stand_of l.standing);
      near : IsNear l.standing;
    }

use Rattle.feed_timetable.specs.Standings.{stand_of}
use Rattle.plan_plain.specs.Searches.{IsEarliest}
use Rattle.plan_rides.specs.Boarding.{IsAmong}
use Rattle.plan_plain.proofs.search.Search.earliest_end.Given as goal

abbrev pub invariant-loop-k : goal.invariant-loop-k
invariant-loop-k l = IsEarliest l.self.feed l.self.query (stand_of l.standing) (IsAmong l.lasts l.k) l.earliest

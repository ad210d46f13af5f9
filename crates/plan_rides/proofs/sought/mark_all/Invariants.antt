use Rattle.std.proofs.Common.{◌≡◌, length}
use Rattle.feed_rows.specs.declared.journeys.Query.{Query}
use Rattle.plan_rides.specs.Boarding.{MarksFirsts}
use Rattle.plan_rides.proofs.sought.mark_all.Given as goal

abbrev pub invariant-loop-k : goal.invariant-loop-k
invariant-loop-k l = record {
  many : length l.marks ≡ length l.timetable.stops;
  firsts : (query : Query) → MarksFirsts l.timetable query l.firsts l.k l.marks;
}

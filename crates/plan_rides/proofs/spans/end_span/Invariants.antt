use Rattle.std.proofs.Common.{◌≡◌, ◌≤◌, true, ℕ, pos}
use Rattle.std.specs.Prelude.{Some}
use Rattle.transit_base.specs.declared.numbers.StopId.{StopId}
use Rattle.feed_rows.specs.declared.journeys.Query.{Query}
use Rattle.feed_rows.specs.Journeys.{egress}
use Rattle.plan_rides.specs.Boarding.{IsAmong}
use Rattle.plan_rides.specs.Cutoffs.{is_span}
use Rattle.plan_rides.proofs.spans.end_span.Given as goal

abbrev pub invariant-loop-k : goal.invariant-loop-k
invariant-loop-k l =
    (query : Query) → query.to ≡ l.to → (last : StopId) (seconds : ℕ) → IsAmong l.lasts l.k last →
    egress l.timetable query l.stop last ≡ Some seconds → seconds ≤ l.window → is_span l.span (pos seconds) ≡ true

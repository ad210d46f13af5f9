use Rattle.std.proofs.Common.{◌≡◌, length}
use Rattle.plan_rides.proofs.ServedLaws.{AreTimedBelow}
use Rattle.plan_rides.proofs.servings.served_stops.Given as goal

abbrev pub invariant-loop-stop : goal.invariant-loop-stop
invariant-loop-stop l = record {
  many : length l.by_stop ≡ l.stop;
  each : AreTimedBelow l.timetable l.sought l.patterns.patterns l.stop l.by_stop;
}

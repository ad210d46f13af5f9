use Rattle.std.specs.Prelude.{◌≡◌, false}
use Rattle.plan_patterns.specs.Runs.{is_boarded, has_ride_to}
use Rattle.plan_patterns.proofs.runs.has_ride.Given as goal

abbrev pub invariant-loop-at : goal.invariant-loop-at
invariant-loop-at l =
    record {
      boarded : l.boarded ≡ is_boarded l.span l.run l.calls l.at;
      none : has_ride_to l.span l.run l.calls l.at ≡ false;
    }

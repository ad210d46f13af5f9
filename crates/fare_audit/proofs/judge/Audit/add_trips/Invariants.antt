use Rattle.std.proofs.Common.{ℕ, ◌<◌}
use Rattle.fare_audit.specs.Found.{IsFound}
use Rattle.fare_audit.specs.Runs.{CoversTrip}
use Rattle.fare_audit.proofs.judge.Audit.add_trips.Given as goal

abbrev pub invariant-loop-number : goal.invariant-loop-number
invariant-loop-number l = record {
  found : IsFound l.self l.found;
  covers : (trip : ℕ) → trip < l.number → CoversTrip l.self l.found (record { 0 = trip });
}

use Rattle.std.proofs.Common.{ℕ, Contains, take, pos, ◌+ℤ◌}
use Rattle.fare_audit.specs.Found.{GrowsTo, IsFound}
use Rattle.fare_audit.specs.Runs.{CoversRun}
use Rattle.fare_audit.proofs.judge.Audit.add_shift.Given as goal

abbrev pub invariant-loop-number : goal.invariant-loop-number
invariant-loop-number l = record {
  found : IsFound l.self l.found;
  grows : GrowsTo l.initial.found l.found;
  covers : (n : ℕ) → Contains (take l.number-index l.number-items) n →
      CoversRun l.self l.found (record { trip = l.trip; day = record { 0 = l.self.first +ℤ pos n }; shift = l.shift; network = l.network });
}

use Rattle.std.proofs.Common.{ℤ, Contains, take}
use Rattle.fare_audit.specs.Found.{GrowsTo, IsFound}
use Rattle.fare_audit.specs.Runs.{CoversShift}
use Rattle.fare_audit.proofs.judge.Audit.add_trip.Given as goal

abbrev pub invariant-loop-shift : goal.invariant-loop-shift
invariant-loop-shift l = record {
  found : IsFound l.self l.found;
  grows : GrowsTo l.initial.found l.found;
  covers : (shift : ℤ) → Contains (take l.shift-index l.shift-items) shift → CoversShift l.self l.found l.trip shift;
}

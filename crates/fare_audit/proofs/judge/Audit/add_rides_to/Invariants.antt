use Rattle.std.proofs.Common.{ℕ, ◌<◌}
use Rattle.fare_audit.specs.Found.{CoversPair, GrowsTo, IsFound}
use Rattle.fare_audit.proofs.judge.Audit.add_rides_to.Given as goal

abbrev pub invariant-loop-from : goal.invariant-loop-from
invariant-loop-from l = record {
  found : IsFound l.self l.found;
  grows : GrowsTo l.initial.found l.found;
  covers : (from : ℕ) → from < l.from → CoversPair l.self l.found l.run.network l.ends from l.to;
}

use Rattle.std.proofs.Common.{ℕ, ◌<◌}
use Rattle.fare_audit.specs.Found.{CoversPair, GrowsTo, IsFound}
use Rattle.fare_audit.proofs.judge.Audit.add_run.Given as goal

abbrev pub invariant-loop-to : goal.invariant-loop-to
invariant-loop-to l = record {
  found : IsFound l.self l.found;
  grows : GrowsTo l.initial.found l.found;
  covers : (to : ℕ) → to < l.to → (from : ℕ) → from < to → CoversPair l.self l.found l.run.network l.ends from to;
}

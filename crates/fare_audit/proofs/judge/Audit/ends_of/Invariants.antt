use Rattle.std.proofs.Common.{◌≡◌, ℕ, Some, length}
use Rattle.std.specs.Prelude.{slice_get}
use Rattle.feed_rows.specs.declared.journeys.Call.{Call}
use Rattle.fare_audit.specs.declared.ends.End.{End}
use Rattle.fare_audit.specs.Runs.{IsEndOf}
use Rattle.fare_audit.proofs.judge.Audit.ends_of.Given as goal

abbrev pub invariant-loop-position : goal.invariant-loop-position
invariant-loop-position l = record {
  many : length l.ends.items ≡ l.position;
  each : (k : ℕ) (end : End) → slice_get l.ends.items k ≡ Some end → (call : Call) × (slice_get l.calls k ≡ Some call) × IsEndOf l.self.feed l.run call end;
}

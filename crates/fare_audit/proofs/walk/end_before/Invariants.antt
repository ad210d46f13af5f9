use Rattle.std.proofs.Common.{All, take}
use Rattle.fare_audit.specs.Days.{EndsBefore}
use Rattle.fare_audit.proofs.walk.end_before.Given as goal

abbrev pub invariant-loop-position : goal.invariant-loop-position
invariant-loop-position l = All (EndsBefore l.shift l.end) (take l.position l.calls)

use Rattle.std.proofs.Common.{◌≡◌, length}
use Rattle.fare_audit.specs.Days.{AreKinds}
use Rattle.fare_audit.proofs.days.day_kinds.Given as goal

abbrev pub invariant-loop-number : goal.invariant-loop-number
invariant-loop-number l = record { many : length l.kinds.items ≡ l.number; are : AreKinds l.feed l.first.0 l.kinds.items }

use Rattle.std.proofs.Common.{◌≡◌, take}
use Rattle.fare_timeframes.proofs.areas_into.Given as goal

abbrev pub invariant-loop-i : goal.invariant-loop-i
invariant-loop-i l = l.list ≡ take l.i l.areas

use Rattle.std.proofs.Common.{◌≡◌, take}
use Rattle.fare_audit.proofs.ends.are_same_ends.Given as goal

abbrev pub invariant-loop-place : goal.invariant-loop-place
invariant-loop-place l = take l.place l.a ≡ take l.place l.b

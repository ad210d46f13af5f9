use Rattle.std.proofs.Common.{◌≡◌, [], Contains}
use Rattle.fare_audit.specs.declared.found.Walk.{Walk}
use Rattle.fare_audit.proofs.found.no_walks.Given as goal

abbrev pub invariant-loop : goal.invariant-loop
invariant-loop l = (walk : Walk) → Contains l.walks.items walk → walk.ends.items ≡ []

use Rattle.std.proofs.Common.{Contains, Some}
use Rattle.ride_cache.proofs.cache.unfilled.Given as goal

abbrev pub invariant-loop : goal.invariant-loop
invariant-loop g l = (item : g.row.T.Denot) → Contains l.places.items (Some item) → ⊥

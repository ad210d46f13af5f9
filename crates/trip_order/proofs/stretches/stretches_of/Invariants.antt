use Rattle.std.proofs.Common.{◌≤◌}
use Rattle.trip_order.specs.Joined.{AreCut}
use Rattle.trip_order.proofs.stretches.stretches_of.Given as goal

abbrev pub invariant-loop-to : goal.invariant-loop-to
invariant-loop-to l = (l.from ≤ l.to) × AreCut l.times l.stretches.items l.from

use Rattle.std.proofs.Common.{◌≡◌, take}
use Rattle.std.specs.List.{flat_map}
use Rattle.trip_order.specs.Joined.{keys_within}
use Rattle.trip_order.proofs.stretches.joined.Given as goal

abbrev pub invariant-loop-stretch : goal.invariant-loop-stretch
invariant-loop-stretch l = l.joined.items ≡ flat_map (keys_within l.times) (take l.stretch-index l.stretches)

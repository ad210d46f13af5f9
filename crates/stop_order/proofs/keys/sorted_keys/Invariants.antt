use Rattle.std.proofs.Common.{◌≡◌, [], take, IsPermutation}
use Rattle.std.specs.List.{flat_map}
use Rattle.stop_order.proofs.StretchLaws.{stretch}
use Rattle.stop_order.proofs.keys.sorted_keys.Given as goal

abbrev pub invariant-loop-first : goal.invariant-loop-first
invariant-loop-first g l = (l.stretch.items ≡ []) × IsPermutation (flat_map (stretch (g.T.StopTimes.times l.times)) (take l.first-index l.first-items)) l.keys.items

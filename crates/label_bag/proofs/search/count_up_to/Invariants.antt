use Rattle.std.proofs.Common.{◌^◌}
use Rattle.label_bag.proofs.HeightLaws.{IsOpen}
use Rattle.label_bag.proofs.search.count_up_to.Given as goal

abbrev pub invariant-loop-shift : goal.invariant-loop-shift
invariant-loop-shift g l = IsOpen g.L.Stair.height_of l.flight (g.L.Stair.height_of l.label) l.start (2 ^ l.shift)

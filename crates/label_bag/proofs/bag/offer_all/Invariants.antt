use Rattle.std.proofs.Common.{◌+◌, ◌≤◌, take}
use Rattle.label_bag.specs.Bags.{Gathers}
use Rattle.label_bag.proofs.bag.offer_all.Given as goal

abbrev pub invariant-loop-label : goal.invariant-loop-label
invariant-loop-label g l = record {
  gathers : Gathers g.L.LabelOrder.at_most (g.B.Bag.content l.fn.bag) (take l.label-index l.labels) (g.B.Bag.content l.bag);
  room : g.B.Bag.spare l.fn.bag ≤ g.B.Bag.spare l.bag + l.label-index;
}

use Rattle.std.proofs.Common.{◌≡◌, ◌≤◌, not, vec_len, vec_capacity}
use Rattle.label_bag.proofs.ThinLaws.{thinned}
use Rattle.label_bag.proofs.search.replace.Given as goal

abbrev pub invariant-loop-place : goal.invariant-loop-place
invariant-loop-place g l = record {
  members : l.members.items ≡ thinned (λ m. not (g.L.LabelOrder.at_most l.label m)) l.fn.members.items l.end l.place;
  from : l.start ≤ l.place;
  len : vec_len l.members ≤ vec_len l.fn.members;
  capacity : vec_capacity l.members ≡ vec_capacity l.fn.members;
}

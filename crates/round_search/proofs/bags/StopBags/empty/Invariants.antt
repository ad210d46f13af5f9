use Rattle.std.proofs.Common.{◌≡◌, ℕ, [], length}
use Rattle.round_search.specs.Bags.{bag_at}
use Rattle.round_search.proofs.bags.StopBags.empty.Given as goal

abbrev pub invariant-loop-stop : goal.invariant-loop-stop
invariant-loop-stop g l = record {
  many : length l.bags.items ≡ l._stop;
  none : (i : ℕ) → bag_at l.bags.items i ≡ [];
}

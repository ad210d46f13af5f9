use Rattle.std.proofs.Common.{◌≡◌, ℕ, ◌<◌, length}
use Rattle.feed_walks.specs.Rules.{group_at}
use Rattle.feed_walks.specs.Near.{Reaches}
use Rattle.feed_walks.proofs.near.reached_of.Given as goal

abbrev pub invariant-loop-stop : goal.invariant-loop-stop
invariant-loop-stop l =
    record {
      long : length l.reached ≡ l.stop;
      each : (i : ℕ) → i < l.stop → Reaches l.feed (record { 0 = i }) (group_at l.reached i);
    }

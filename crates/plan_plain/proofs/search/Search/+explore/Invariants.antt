use Rattle.std.proofs.Common.{◌≡◌, ◌-◌}
use Rattle.plan_plain.specs.Searches.{HasRides, Gains, CoversWays}
use Rattle.plan_plain.proofs.search.Search.+explore.Given as goal

abbrev pub decreases-explore : goal.decreases-explore
decreases-explore l = l.left

abbrev pub invariant-loop-n : goal.invariant-loop-n
invariant-loop-n l = record {
  path : l.path ≡ l.fn.path;
  gains : Gains l.self.feed l.self.query (HasRides l.self.feed l.self.query l.first l.fn.path.rides) l.fn.front l.front;
  covered : CoversWays l.self.feed l.self.query l.first l.fn.path.rides l.rides.items l.n (l.left - 1) l.front;
}

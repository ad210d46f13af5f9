use Rattle.std.proofs.Common.{◌≡◌}
use Rattle.plan_plain.specs.Searches.{Gains, StartsAmong}
use Rattle.plan_plain.proofs.search.Search.offer_all.Given as goal

abbrev pub invariant-loop-k : goal.invariant-loop-k
invariant-loop-k l = record {
  path : l.path ≡ l.fn.path;
  gains : Gains l.self.feed l.self.query (StartsAmong l.self.feed l.self.query l.firsts l.k) l.fn.front l.front;
}

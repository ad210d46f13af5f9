use Rattle.std.proofs.Common.{◌≡◌, ◌++◌, take}
use Rattle.std.specs.Prelude.{filter}
use Rattle.round_search.specs.Bags.{has_rides}
use Rattle.round_search.proofs.bags.StopBag.push_into.Given as goal

abbrev pub invariant-loop-label : goal.invariant-loop-label
invariant-loop-label g l = l.labels.items ≡ l.fn.labels.items ++ filter (has_rides l.rides) (take l.label-index l.label-items)

use Rattle.std.proofs.Common.{◌≡◌, ◌++◌}
use Rattle.std.specs.Prelude.{filter}
use Rattle.plain_laws.specs.Plain.{joined_below}
use Rattle.round_search.specs.Bags.{bag_at, has_rides}
use Rattle.round_search.proofs.bags.push_stops.Given as goal

abbrev pub invariant-loop-number : goal.invariant-loop-number
invariant-loop-number g l =
    l.labels.items ≡ l.fn.labels.items ++ joined_below l.number (λ i. filter (has_rides l.rides) (bag_at l.bags.items i))

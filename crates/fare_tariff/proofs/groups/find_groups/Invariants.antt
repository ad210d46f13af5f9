-- The groups of the rides so far are there.
use Rattle.fare_bounds.proofs.FirstLaws.{AreFirst}
use Rattle.fare_tariff.specs.Groups.{IsRideGrouped}
use Rattle.fare_tariff.proofs.groups.find_groups.Given as goal

abbrev pub invariant-loop-k : goal.invariant-loop-k
invariant-loop-k l = AreFirst (IsRideGrouped l.feed l.known.terms.buyer l.groups.items) l.rides l.k

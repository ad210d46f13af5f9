use Rattle.std.proofs.Common.{◌≡◌, length}
use Rattle.ride_kinds.specs.RideKinds.{StayKnown}
use Rattle.fare_tariff.specs.Groups.{FitKinds}
use Rattle.fare_tariff.proofs.groups.find_kinds.Given as goal

abbrev pub invariant-loop-k : goal.invariant-loop-k
invariant-loop-k l = record {
  many : length l.kinds.items ≡ l.k;
  fit : FitKinds l.fn.known.terms.feed l.known l.rides l.kinds.items;
  terms : l.known.terms ≡ l.fn.known.terms;
  still : StayKnown l.fn.known l.known;
}

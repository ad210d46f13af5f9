use Rattle.std.proofs.Common.{◌≡◌, take, sum_by}
use Rattle.label_bag.specs.Flights.{LacksClass}
use Rattle.label_bag.proofs.flights.place_of.Given as goal

abbrev pub invariant-loop-number : goal.invariant-loop-number
invariant-loop-number g l = record {
  begins : l.begin ≡ sum_by (λ f. f.size) (take l.number l.flights);
  lacks : LacksClass g.C.PartialEq.eq (take l.number l.flights) l.class;
}

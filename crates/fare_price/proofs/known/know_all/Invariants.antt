use Rattle.std.proofs.Common.{◌≡◌, take}
use Rattle.fare_price.specs.Known.{AreKnown}
use Rattle.fare_price.proofs.known.know_all.Given as goal

abbrev pub invariant-loop-leg : goal.invariant-loop-leg
invariant-loop-leg l = record {
  known : AreKnown l.known.lists (take l.leg-index l.legs) l.numbers.items;
  terms : l.known.terms ≡ l.initial.known.terms;
}

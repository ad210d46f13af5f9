-- The groups of the options so far are there, and so are those that were.
use Rattle.fare_bounds.proofs.FirstLaws.{AreFirst}
use Rattle.fare_tariff.specs.Groups.{HasGroup, StayGroups}
use Rattle.fare_tariff.proofs.groups.add_groups.Given as goal

abbrev pub invariant-loop-pick : goal.invariant-loop-pick
invariant-loop-pick l = record {
  there : AreFirst (HasGroup l.feed l.groups.items) l.options l.pick-index;
  still : StayGroups l.fn.groups.items l.groups.items;
}

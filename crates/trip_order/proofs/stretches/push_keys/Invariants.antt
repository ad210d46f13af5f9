use Rattle.std.proofs.Common.{◌≡◌, ◌+◌, ◌-◌, ◌≤◌, ◌++◌}
use Rattle.plain_laws.specs.Plain.{list_below}
use Rattle.trip_order.specs.Order.{key_of}
use Rattle.trip_order.proofs.stretches.push_keys.Given as goal

abbrev pub invariant-loop-row : goal.invariant-loop-row
invariant-loop-row l = record {
  since : l.stretch.from ≤ l.row;
  keys : l.keys.items ≡ l.fn.keys.items ++ list_below (l.row - l.stretch.from) (λ k. key_of l.times (l.stretch.from + k));
}

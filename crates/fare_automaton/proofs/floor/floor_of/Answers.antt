-- The sum of both parts, whose amounts are those of a sound feed.
use Rattle.std.proofs.Common.{arith}
use Rattle.std.specs.Prelude.{◌+ℤ◌}
use Rattle.std.proofs.lemmas.Int.{ints}
use Rattle.fare_laws.proofs.MoveLaws.{with_sum}
use Rattle.fare_automaton.proofs.FloorLaws.{floor_of_parts, parts_low}
use Rattle.fare_automaton.proofs.floor.floor_of.Goals as goal

pub overflow_add-result : goal.overflow_add-result
overflow_add-result c =
    let legs = parts_low _ c.items-rows.result.now _ c.least_for_legs-legs.result.0 c.feed.invariant.products c.items-rows.ensures.value c.least_for_legs-legs.ensures in
    let changes = parts_low _ c.items-rows.result.now _ c.least_for_changes-changes.result.0 c.feed.invariant.products c.items-rows.ensures.value c.least_for_changes-changes.ensures in
    omega (arith, ints, legs, changes)

pub returns : goal.returns
returns c =
    let legs = parts_low _ c.items-rows.result.now _ c.least_for_legs-legs.result.0 c.feed.invariant.products c.items-rows.ensures.value c.least_for_legs-legs.ensures in
    let changes = parts_low _ c.items-rows.result.now _ c.least_for_changes-changes.result.0 c.feed.invariant.products c.items-rows.ensures.value c.least_for_changes-changes.ensures in
    with_sum _ (c.least_for_legs-legs.result.0 +ℤ c.least_for_changes-changes.result.0) _
    (floor_of_parts c.args.feed.now _ c.args.buyer c.items-rows.result.now c.items.result.now c.items-2.result.now
    c.least_for_legs-legs.result.0 c.least_for_changes-changes.result.0 c.feed.view_is c.items-rows.ensures.value
    c.items.ensures.value c.items-2.ensures.value c.least_for_legs-legs.ensures c.least_for_changes-changes.ensures)
    (omega (arith, ints, legs, changes))

-- What the leg and what follows it add is that by the amounts at the place.
use Rattle.std.proofs.Common.{◌*◌, subst, arith}
use Rattle.std.specs.Prelude.{ℤ, ◌≤ℤ◌}
use Rattle.std.proofs.lemmas.Int.{ints}
use Rattle.fare_bounds.specs.Amounts.{never}
use Rattle.fare_bounds.proofs.LevelLaws.{read_is, read_amount, list_read_is, list_amount, leg_costs, never_paid}
use Rattle.fare_bounds.proofs.level.Level.leg_costs.Goals as goal

pub returns-then-least-ge-NEVER-clause-amounts : goal.returns-then-least-ge-NEVER-clause-amounts
returns-then-least-ge-NEVER-clause-amounts c = c.never.ensures _

pub returns-then-least-ge-NEVER-clause-costs : goal.returns-then-least-ge-NEVER-clause-costs
returns-then-least-ge-NEVER-clause-costs c amount paid =
    let legs = c.args.amounts.now.legs.items in
    let least = c.amount_at-least in
    let is = list_read_is c.deref.result.now legs c.args.place least.result (record { sfits = least.type_inv })
    least.ensures c.deref.ensures.value in
    never_paid _ amount paid
    (subst (λ (z : ℤ). never ≤ℤ z) is (omega (arith, ints, c.if-least-ge-NEVER.true)))

pub costs_by-requires-clause-least : goal.costs_by-requires-clause-least
costs_by-requires-clause-least c =
    let read = c.amount_at-least in
    let amounts = c.args.amounts.now in
    list_amount 1 1 amounts.legs.items c.args.place _ (omega arith) amounts.of_legs
    (list_read_is c.deref.result.now amounts.legs.items c.args.place read.result
    (record { sfits = read.type_inv }) read.ensures c.deref.ensures.value)

pub costs_by-requires-clause-with_held : goal.costs_by-requires-clause-with_held
costs_by-requires-clause-with_held c =
    let level = c.args.self.now in
    let read = c.at_place-with_held in
    read_amount (2 * level.rides) 600 level.with_held.items c.args.place _
    (omega (arith, c.requires)) level.of_with
    (read_is c.deref-2.result.now level.with_held.items c.args.place read.result
    (record { sfits = read.type_inv }) read.ensures
    c.deref-2.ensures.value)

pub costs_by-requires-clause-without_held : goal.costs_by-requires-clause-without_held
costs_by-requires-clause-without_held c =
    let level = c.args.self.now in
    let read = c.at_place-without_held in
    read_amount (2 * level.rides) 600 level.without_held.items c.args.place _
    (omega (arith, c.requires)) level.of_without
    (read_is c.deref-3.result.now level.without_held.items c.args.place read.result (record { sfits = read.type_inv })
    read.ensures c.deref-3.ensures.value)

pub costs_by-requires-clause-end : goal.costs_by-requires-clause-end
costs_by-requires-clause-end c =
    let read = c.amount_at-end in
    let amounts = c.args.amounts.now in
    list_amount 0 600 amounts.ends.items c.args.place _ (omega arith) amounts.of_ends
    (list_read_is c.deref-4.result.now amounts.ends.items c.args.place read.result
    (record { sfits = read.type_inv }) read.ensures c.deref-4.ensures.value)

pub returns : goal.returns
returns c =
    let level = c.args.self.now in
    let amounts = c.args.amounts.now in
    let least = c.amount_at-least in
    let with = c.at_place-with_held in
    let without = c.at_place-without_held in
    let end = c.amount_at-end in
    let both =
    leg_costs amounts level c.args.place _ _ _ _ c.costs_by.result
    (list_read_is c.deref.result.now amounts.legs.items c.args.place least.result
    (record { sfits = least.type_inv }) least.ensures c.deref.ensures.value)
    (read_is c.deref-2.result.now level.with_held.items c.args.place with.result
    (record { sfits = with.type_inv }) with.ensures c.deref-2.ensures.value)
    (read_is c.deref-3.result.now level.without_held.items c.args.place without.result
    (record { sfits = without.type_inv }) without.ensures c.deref-3.ensures.value)
    (list_read_is c.deref-4.result.now amounts.ends.items c.args.place end.result
    (record { sfits = end.type_inv }) end.ensures c.deref-4.ensures.value)
    c.costs_by.ensures in
    record { costs = both.0; amounts = both.1 }

-- One row more, and at the end all rows.
use Rattle.std.proofs.Common.{◌*◌, ◌∙◌, ap, subst, sym, get_or, ◌+◌, arith, w64}
use Rattle.std.proofs.lemmas.Int.{to_z-of_z}
use Rattle.feed_rows.specs.FeedRows.{FeedRows}
use Rattle.fare_bounds.specs.Amounts.{place_of}
use Rattle.fare_bounds.specs.Levels.{IsTransferRuleAbove}
use Rattle.fare_bounds.specs.declared.level.Level.{Level}
use Rattle.fare_bounds.proofs.FirstLaws.{first_all}
use Rattle.fare_bounds.proofs.LevelLaws.{passed_is, passed_amount, more_amount, more_costs, filled_below, no_row, IsMade, made_more, made_without, place_low, added_is, added_low, rule_above, with_below, apart_below}
use Rattle.fare_bounds.proofs.level.Level.next.Goals as goal
use Rattle.fare_bounds.proofs.level.Level.next.Goals.{then-counts, else-counts}

pub filled-requires : goal.filled-requires
filled-requires c =
    let count = 2 * (c.args.self.now.rides + 1) in
    passed_amount count c.least_costs-least.result.apart (omega (arith, c.requires.rides))
    (more_amount (2 * c.args.self.now.rides + 1) count _ (omega arith) c.least_costs-least.ensures.amounts.apart)

pub loop-row-init : goal.loop-row-init
loop-row-init c =
    let filled = c.in_ok-level.ensures in
    record {
      rides = filled.rides;
      with_places = filled.with_places ∙ c.len.ensures;
      without_places = filled.without_places ∙ c.len.ensures;
      legs_apart = λ place lt.
          filled_below c.len.result _ c.least_costs-least.result.apart _ filled.with_held
          (passed_is (2 * c.args.self.now.rides + 1) _
          (omega (arith, c.requires.rides)) c.least_costs-least.ensures.amounts.apart) place
          (omega (arith, lt, c.len.ensures));
      each_row = λ i row lt. absurd (omega (arith, lt));
    }

pub costs_to-costs-requires-clause-all : goal.costs_to-costs-requires-clause-all
costs_to-costs-requires-clause-all c = c.least_costs-least.ensures.costs

pub costs_to-costs-requires-clause-least : goal.costs_to-costs-requires-clause-least
costs_to-costs-requires-clause-least c = c.least_costs-least.ensures.amounts

pub added_by-requires-clause-charge : goal.added_by-requires-clause-charge
added_by-requires-clause-charge c = passed_amount 1 c.charge.result (omega arith) c.charge.ensures.amount

pub added_by-requires-clause-costs : goal.added_by-requires-clause-costs
added_by-requires-clause-costs c =
    more_costs (2 * c.args.self.now.rides + 1) 600 c.costs_to-costs.result (omega (arith, c.requires.rides))
    c.costs_to-costs.ensures.amounts

pub take_change-requires-clause-place : goal.take_change-requires-clause-place
take_change-requires-clause-place c =
    place_low c.args.feed.now _ c.items-row-items.result.now c.loop-row.row-index _ _ _ c.feed.view_is
    c.items-row-items.ensures.value
    c.feed.invariant.transfer_rules c.loop-row-test.true c.requires.places c.loop-row.invariant.with_places

pub take_change-requires-clause-same : goal.take_change-requires-clause-same
take_change-requires-clause-same c = c.loop-row.invariant.without_places ∙ sym c.loop-row.invariant.with_places

pub take_change-requires-clause-added : goal.take_change-requires-clause-added
take_change-requires-clause-added c =
    let row = get_or c.items-row-items.result.now c.loop-row.row-index no_row in
    added_low row.kind c.args.self.now.rides c.loop-row.level.rides c.charge.result _ c.costs_to-costs.result
    c.loop-row.invariant.rides c.charge.ensures.amount c.costs_to-costs.ensures.amounts
    (added_is row.kind _ c.charge.result _ _ c.costs_to-costs.result
    (to_z-of_z w64 _ (record { sfits = c.charge.type_inv }))
    (to_z-of_z w64 _ (record { sfits = c.added_by.type_inv })) c.added_by.ensures)

pub loop-row-preserved : goal.loop-row-preserved
loop-row-preserved c =
    let amounts = c.args.amounts.now in
    let before = c.args.self.now in
    let apart = c.least_costs-least.result.apart in
    let rows = c.items-row-items.result.now in
    let n = c.loop-row.row-index in
    let row = get_or rows n no_row in
    elim c.if-counts.branch [
      | then-counts w ↦
          subst (λ (l : Level). IsMade c.args.late amounts before apart rows l (n + 1)) (sym w.level-is)
          (made_more c.args.late amounts before apart rows c.loop-row.level w.take_change.new.self n
          c.loop-row.invariant w.take_change.ensures.below
          (rule_above c.args.late amounts before w.take_change.new.self row w.charge.result _ w.costs_to-costs.result
          w.take_change.ensures.row
          (added_is row.kind _ w.charge.result _ _ w.costs_to-costs.result
          (to_z-of_z w64 _ (record { sfits = w.charge.type_inv }))
          (to_z-of_z w64 _ (record { sfits = w.added_by.type_inv })) w.added_by.ensures)
          w.charge.ensures.value w.costs_to-costs.ensures.costs))
      | else-counts w ↦
          subst (λ (l : Level). IsMade c.args.late amounts before apart rows l (n + 1)) (sym w.level-is)
          (made_without c.args.late amounts before apart rows c.loop-row.level n c.loop-row.invariant
          (sym c.counts.ensures ∙ w.if-counts.false))
    ]

pub returns : goal.returns
returns c =
    record {
      rides = c.loop-row.invariant.rides;
      apart = λ group next amount paid.
          apart_below c.args.amounts.now c.args.self.now (place_of next) amount c.least_costs-least.result.apart _
          (with_below c.loop-row.level _ c.least_costs-least.result.apart group
          (omega (arith, c.requires.places)) c.loop-row.invariant.legs_apart)
          (c.least_costs-least.ensures.costs (place_of next) amount paid).apart;
      rows =
          first_all (IsTransferRuleAbove c.args.late c.args.amounts.now c.args.self.now c.loop-row.level)
          c.items-row-items.result.now c.args.feed.now.transfer_rules
          c.loop-row.row-index (c.items-row-items.ensures.value
          ∙ ap (λ (f : FeedRows). f.transfer_rules) c.feed.view_is)
          c.loop-row-test.false c.loop-row.invariant.each_row;
    }

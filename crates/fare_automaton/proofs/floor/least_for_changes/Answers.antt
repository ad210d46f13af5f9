-- One row more.
use Rattle.feed_rows.specs.FareFloor.{least_amount}
use Rattle.std.proofs.Common.{◌∙◌, ap, take_all}
use Rattle.std.specs.List.{list_any}
use Rattle.feed_rows.specs.FareChoices.{is_open}
use Rattle.plain_laws.specs.Plain.{filled_and}
use Rattle.fare_automaton.proofs.FloorLaws.{least_row}
use Rattle.fare_automaton.proofs.floor.least_for_changes.Goals as goal

pub loop-row-preserved : goal.loop-row-preserved
loop-row-preserved c =
    least_row (λ row. list_any (λ rule. filled_and rule.product (λ product. is_open product c.args.buyer row)) c.args.rules.now) c.args.rows.now c.loop-row.row-index _ c.is_for_change.result
    c.loop-row.least.0 c.lesser-least.result.0 c.loop-row-test.true c.loop-row.invariant c.is_for_change.ensures c.lesser-least.ensures

pub returns : goal.returns
returns c =
    c.loop-row.invariant
    ∙ ap (least_amount (λ row. list_any (λ rule. filled_and rule.product (λ product. is_open product c.args.buyer row)) c.args.rules.now))
    (take_all c.loop-row.row-index c.args.rows.now c.loop-row-test.false)

use Rattle.std.proofs.Common.{◌∙◌, take_all}
use Rattle.fare_transfer_rules.proofs.row_list.Goals as goal

pub returns : goal.returns
returns c = c.loop-row.invariant ∙ take_all c.loop-row.row-index c.args.rows.now c.loop-row-test.false

use Rattle.std.proofs.Common.{◌∙◌}
use Rattle.fare_transfer_rules.proofs.XferRules.least_count.Goals as goal

pub returns : goal.returns
returns c = λ feed are. c.least_count.ensures feed (c.deref.ensures.value ∙ are.rows) (c.rows_between.ensures feed are)

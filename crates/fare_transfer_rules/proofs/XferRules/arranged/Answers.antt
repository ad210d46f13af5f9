use Rattle.std.proofs.Common.{◌∙◌}
use Rattle.fare_transfer_rules.specs.Changes.{asked_of}
use Rattle.fare_transfer_rules.proofs.RowLaws.{arranged_is}
use Rattle.fare_transfer_rules.proofs.XferRules.arranged.Goals as goal

pub returns : goal.returns
returns c = λ feed are.
    c.is_some.ensures
    ∙ arranged_is feed c.args.self.now are c.args.change.now (asked_of c.known_change.result) c.known_change.ensures
    c.least_count.result (c.least_count.ensures feed are)

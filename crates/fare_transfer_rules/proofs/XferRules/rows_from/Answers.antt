use Rattle.std.proofs.Common.{◌∙◌, ap}
use Rattle.fare_transfer_rules.specs.Classes.{class_of, rows_at}
use Rattle.fare_transfer_rules.proofs.PairLaws.{rows_from}
use Rattle.fare_transfer_rules.proofs.XferRules.rows_from.Goals as goal

pub returns : goal.returns
returns c = λ feed are.
    let rules = c.args.self.now in
    let class = c.class_of-class.ensures ∙ ap (λ named. class_of named c.args.group.0) c.deref.ensures.value in
    rows_from feed rules are c.args.group c.get.result.now (c.get.ensures ∙ ap (rows_at rules.by_from) class)

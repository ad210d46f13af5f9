use Rattle.std.proofs.Common.{◌∙◌, ◌++◌, ap}
use Rattle.std.proofs.lemmas.Result.{on_ok_weaker}
use Rattle.fare_transfer_rules.specs.Changes.{asked_of}
use Rattle.fare_transfer_rules.proofs.RowLaws.{selected_is}
use Rattle.fare_transfer_rules.proofs.XferRules.select_into.Goals as goal

pub returns : goal.returns
returns c =
    on_ok_weaker c.push_chosen.result
    (λ is feed are.
    let between = c.rows_between-among.ensures feed are in
    is ∙ ap (λ chosen. c.args.rows.now.items ++ chosen)
    (selected_is feed c.args.self.now are c.args.change.now (asked_of c.known_change-asked.result) c.known_change-asked.ensures
    c.rows_between-among.result.now between c.least_count-least.result
    (c.least_count-least.ensures feed (c.deref.ensures.value ∙ are.rows) between)))
    c.push_chosen.ensures

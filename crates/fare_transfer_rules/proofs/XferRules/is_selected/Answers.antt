-- A row between the groups is selected where it is chosen.
use Rattle.std.proofs.Common.{◌∙◌, ap, ◌&&◌}
use Rattle.fare_transfer_rules.specs.Changes.{asked_of}
use Rattle.fare_transfer_rules.specs.Fits.{is_chosen}
use Rattle.fare_transfer_rules.proofs.SelectedLaws.{chosen_is}
use Rattle.fare_transfer_rules.proofs.XferRules.is_selected.Goals as goal

pub returns-then-is_between : goal.returns-then-is_between
returns-then-is_between c = λ feed are least.
    let change = asked_of c.args.change.now in
    c.is_chosen.ensures ∙ ap (λ b. b && is_chosen change c.args.least c.args.row.now) (c.if-is_between.ensures feed are)
    ∙ chosen_is feed change c.args.least least c.args.row.now

pub returns-else-is_between : goal.returns-else-is_between
returns-else-is_between c = λ feed are least.
    let change = asked_of c.args.change.now in
    c.if-is_between.false ∙ ap (λ b. b && is_chosen change c.args.least c.args.row.now) (c.if-is_between.ensures feed are)
    ∙ chosen_is feed change c.args.least least c.args.row.now

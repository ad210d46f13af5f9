use Rattle.std.proofs.Common.{◌∙◌, sym, ap}
use Rattle.std.specs.Prelude.{slice_get}
use Rattle.std.specs.Option.{option_copied}
use Rattle.fare_transfer_rules.specs.Changes.{asked_of}
use Rattle.fare_transfer_rules.proofs.RowLaws.{selects_row, selects_none}
use Rattle.fare_transfer_rules.proofs.XferRules.selects.Goals as goal

pub returns-in-Some : goal.returns-in-Some
returns-in-Some c = λ feed are.
    selects_row feed c.args.self.now are c.args.change.now (asked_of c.known_change-asked.result) c.known_change-asked.ensures
    c.args.row.0 c.in-Some.rule.now _
    (ap (λ rows. slice_get rows c.args.row.0) (sym c.deref.ensures.value) ∙ sym c.in-Some.ensures)
    (c.is_selected.ensures feed are (c.least_count.ensures feed are))

pub returns-in-None : goal.returns-in-None
returns-in-None c = λ feed are.
    selects_none feed c.args.self.now are c.args.change.now (asked_of c.known_change-asked.result) c.known_change-asked.ensures
    c.args.row.0
    (ap (λ rows. slice_get rows c.args.row.0) (sym c.deref.ensures.value) ∙ sym c.row_at.ensures ∙ ap option_copied c.in-None.is)

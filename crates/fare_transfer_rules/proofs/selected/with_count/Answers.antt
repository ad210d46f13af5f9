-- A row that suits, one that doesn't, and none.
use Rattle.std.proofs.Common.{◌∙◌, sym, ap, true, false}
use Rattle.std.specs.Option.{option_copied}
use Rattle.fare_transfer_rules.specs.Changes.{asked_of}
use Rattle.fare_transfer_rules.proofs.SelectedLaws.{not_above_where, some_where, none_within, none_some}
use Rattle.fare_transfer_rules.proofs.selected.with_count.Goals as goal

pub returns-in-Some-clause-within : goal.returns-in-Some-clause-within
returns-in-Some-clause-within c = λ count.
    c.lesser.ensures count
    ∙ not_above_where c.args.rules.now (asked_of c.args.change.now) c.args.least c.args.row count c.in-Some.own.now true
    (sym c.in-Some.ensures) c.if-suits.ensures

pub returns-in-Some-clause-some : goal.returns-in-Some-clause-some
returns-in-Some-clause-some c =
    some_where c.args.rules.now (asked_of c.args.change.now) c.args.least c.args.row c.in-Some.own.now true
    (sym c.in-Some.ensures) c.if-suits.ensures

pub returns-in_default-clause-within : goal.returns-in_default-clause-within
returns-in_default-clause-within c = λ count.
    not_above_where c.args.rules.now (asked_of c.args.change.now) c.args.least c.args.row count c.in-Some.own.now false
    (sym c.in-Some.ensures) c.if-suits.ensures

pub returns-in_default-clause-some : goal.returns-in_default-clause-some
returns-in_default-clause-some c =
    some_where c.args.rules.now (asked_of c.args.change.now) c.args.least c.args.row c.in-Some.own.now false
    (sym c.in-Some.ensures) c.if-suits.ensures

pub returns-in_default-2-clause-within : goal.returns-in_default-2-clause-within
returns-in_default-2-clause-within c = λ count.
    none_within c.args.rules.now (asked_of c.args.change.now) c.args.least c.args.row count
    (sym c.row_at.ensures ∙ ap option_copied c.in_default.is)

pub returns-in_default-2-clause-some : goal.returns-in_default-2-clause-some
returns-in_default-2-clause-some c =
    none_some c.args.rules.now (asked_of c.args.change.now) c.args.least c.args.row
    (sym c.row_at.ensures ∙ ap option_copied c.in_default.is)

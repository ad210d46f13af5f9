use Rattle.std.proofs.Common.{◌∙◌, ap, sym, Bool, Some}
use Rattle.plain_laws.specs.Plain.{when}
use Rattle.feed_files.specs.declared.faults.FaultKind.TheVariants as kind
use Rattle.feed_faults.specs.FaultPlaces.{file_fault}
use Rattle.feed_text.proofs.HeaderLaws.{few_enough, not_text, too_long_text, empty_text, filled_text}
use Rattle.feed_text.proofs.table.Table.read.Goals as goal

pub returns-then-not-is_text-clause-fault : goal.returns-then-not-is_text-clause-fault
returns-then-not-is_text-clause-fault c =
    not_text c.args.needed c.args.max_rows c.args.file c.args.bytes.now (sym c.is_text.ensures ∙ c.if-not-is_text.true) ∙ ap Some (sym c.file_fault.ensures)

pub returns-in_default-clause-fault : goal.returns-in_default-clause-fault
returns-in_default-clause-fault c =
    too_long_text c.args.needed c.args.max_rows c.args.file c.args.bytes.now (sym c.is_text.ensures ∙ c.if-not-is_text.false)
    (sym c.in_default.is ∙ c.in_ok-table.ensures) ∙ ap Some (sym c.file_fault-in_default.ensures)

pub returns-then-needed-clause-fault : goal.returns-then-needed-clause-fault
returns-then-needed-clause-fault c =
    empty_text c.args.needed c.args.max_rows c.args.file c.args.bytes.now c.in-Some.table (sym c.is_text.ensures ∙ c.if-not-is_text.false)
    (sym c.in-Some.is ∙ c.in_ok-table.ensures) (sym c.is_empty.ensures ∙ c.if-is_empty.true)
    ∙ ap (λ (b : Bool). when b (file_fault c.args.file kind.MissingFile)) c.if-needed.true ∙ ap Some (sym c.file_fault-then-needed.ensures)

pub returns-then-is_empty-clause-sound : goal.returns-then-is_empty-clause-sound
returns-then-is_empty-clause-sound c =
    empty_text c.args.needed c.args.max_rows c.args.file c.args.bytes.now c.in-Some.table (sym c.is_text.ensures ∙ c.if-not-is_text.false)
    (sym c.in-Some.is ∙ c.in_ok-table.ensures) (sym c.is_empty.ensures ∙ c.if-is_empty.true)
    ∙ ap (λ (b : Bool). when b (file_fault c.args.file kind.MissingFile)) c.if-needed.false

pub returns-in-Some-header_fault-clause-fault : goal.returns-in-Some-header_fault-clause-fault
returns-in-Some-header_fault-clause-fault c =
    filled_text c.args.needed c.args.max_rows c.args.file c.args.bytes.now c.in-Some.table (sym c.is_text.ensures ∙ c.if-not-is_text.false)
    (sym c.in-Some.is ∙ c.in_ok-table.ensures) (sym c.is_empty.ensures ∙ c.if-is_empty.false) ∙ sym c.header_fault.ensures ∙ c.in-Some-header_fault.is

pub returns-clause-sound : goal.returns-clause-sound
returns-clause-sound c =
    filled_text c.args.needed c.args.max_rows c.args.file c.args.bytes.now c.in-Some.table (sym c.is_text.ensures ∙ c.if-not-is_text.false)
    (sym c.in-Some.is ∙ c.in_ok-table.ensures) (sym c.is_empty.ensures ∙ c.if-is_empty.false) ∙ sym c.header_fault.ensures ∙ c.in_default-header_fault.is

pub returns-then-is_empty-clause-table : goal.returns-then-is_empty-clause-table
returns-then-is_empty-clause-table c = (few_enough c.args.max_rows c.in-Some.table _ (sym c.in-Some.is ∙ c.in_ok-table.ensures)).0

pub returns-clause-table : goal.returns-clause-table
returns-clause-table c = (few_enough c.args.max_rows c.in-Some.table _ (sym c.in-Some.is ∙ c.in_ok-table.ensures)).0

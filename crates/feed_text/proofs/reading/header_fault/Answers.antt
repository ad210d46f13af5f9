use Rattle.std.proofs.Common.{◌≡◌, ◌∙◌, Some, None, ap, refl, rules, tests}
use Rattle.std.specs.Prelude.{◌&&◌, is_none, option_map}
use Rattle.std.specs.List.{find}
use Rattle.std.proofs.lemmas.Iterator.{YieldsList-from_slice}
use Rattle.std.proofs.lemmas.Iterator.Search.{find_from_yields_List}
use Rattle.feed_faults.specs.declared.columns.ColumnRule.{ColumnRule}
use Rattle.feed_faults.specs.FileColumns.{columns_of}
use Rattle.feed_faults.specs.Records.{column_of}
use Rattle.feed_faults.specs.FormFaults.{is_twice, is_needed_column}
use Rattle.feed_text.proofs.HeaderLaws.{wrong_columns}
use Rattle.feed_text.proofs.reading.header_fault.Goals.{After-find, After-find-2}
use Rattle.feed_text.proofs.reading.header_fault.Goals as goal

doubled : (c : After-find) → option_map (λ r. r.now) c.find.result ≡ find (λ (rule : ColumnRule). is_twice c.args.table.now rule.name) (columns_of c.args.file)
doubled c =
    find_from_yields_List (λ (rule : ColumnRule). is_twice c.args.table.now rule.name) _ _ c.find.result c.find.ensures.ran (YieldsList-from_slice _ c.iter.ensures.rest) (λ x b q k. search (rules, tests))
    ∙ ap (find (λ (rule : ColumnRule). is_twice c.args.table.now rule.name)) c.rule_of.ensures.columns

missing : (c : After-find-2) → option_map (λ r. r.now) c.find-2.result ≡ find (λ (rule : ColumnRule). is_needed_column rule.empty && is_none (column_of c.args.table.now rule.name)) (columns_of c.args.file)
missing c =
    find_from_yields_List (λ (rule : ColumnRule). is_needed_column rule.empty && is_none (column_of c.args.table.now rule.name)) _ _ c.find-2.result c.find-2.ensures.ran (YieldsList-from_slice _ c.iter-2.ensures.rest) (λ x b q k. search (rules, tests))
    ∙ ap (find (λ (rule : ColumnRule). is_needed_column rule.empty && is_none (column_of c.args.table.now rule.name))) c.rule_of.ensures.columns

pub returns-in-Some : goal.returns-in-Some
returns-in-Some c =
    let first = rw c.in-Some.is at (doubled (goal.at.returns-in-Some c).After-find) in
    rw c.column_fault.ensures (wrong_columns c.args.file c.args.table.now (Some c.in-Some.rule.now) _ first refl)

pub returns-in_err-rule : goal.returns-in_err-rule
returns-in_err-rule c =
    let first = rw c.in_default.is at (doubled (goal.at.returns-in_err-rule c).After-find) in
    let second = rw c.in_err-rule.was at (missing (goal.at.returns-in_err-rule c).After-find-2) in
    rw c.from_residual.ensures (wrong_columns c.args.file c.args.table.now None None first second)

pub returns : goal.returns
returns c =
    let first = rw c.in_default.is at (doubled (goal.at.returns c).After-find) in
    let second = rw c.in_ok-rule.was at (missing (goal.at.returns c).After-find-2) in
    rw c.column_fault-2.ensures (wrong_columns c.args.file c.args.table.now None (Some c.in_ok-rule.rule.now) first second)

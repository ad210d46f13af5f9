-- What the first pass says of a field: by the place of its column among those of its file.
use Rattle.std.proofs.Common.{◌≡◌, refl, ℕ, ◌<◌, ◌≤◌, Bool, true, false, length}
use Rattle.std.specs.Prelude.{Some, None, slice_get}
use Rattle.std.proofs.lemmas.Bool.{not-false}
use Rattle.feed_files.specs.declared.names.FileName.{FileName}
use Rattle.feed_files.specs.declared.names.ColumnName.{ColumnName}
use Rattle.feed_files.specs.declared.names.ColumnName.TheVariants.{Currency}
use Rattle.feed_rows.specs.Limits.{most_rows}
use Rattle.plain_laws.specs.Plain.{list_below}
use Rattle.feed_faults.specs.declared.columns.Grammar.{Grammar}
use Rattle.feed_faults.specs.declared.columns.ColumnRule.{ColumnRule}
use Rattle.feed_faults.specs.Records.{FileTable, row_count, field, is_filled}
use Rattle.feed_faults.specs.FileColumns.{fits, misfit}
use Rattle.feed_soundness.proofs.RuleShapes.{must, must_or_flex, may}
use Rattle.feed_faults.specs.FormFaults.{empty_misfit, field_misfit, judged_columns}
use Rattle.feed_soundness.specs.AcceptedTables.{IsFormed}
use Rattle.plain_laws.proofs.Laws.{none_when, length-list_below}

-- the field is of the grammar
abbrev pub FieldFits : FileTable → ℕ → ColumnName → Grammar → Type 0
FieldFits table row name grammar = fits grammar (field table row Currency) (field table row name) ≡ true

-- the field is filled, and is of the grammar
pub record IsGood (table : FileTable) (row : ℕ) (name : ColumnName) (grammar : Grammar) : Type 0 where
  pub filled : is_filled (field table row name) ≡ true
  pub fit : FieldFits table row name grammar

-- a filled field without a fault is of the grammar
fits_filled : (table : FileTable) (row : ℕ) (rule : ColumnRule) → field_misfit (field table row) rule ≡ None → is_filled (field table row rule.name) ≡ true → FieldFits table row rule.name rule.grammar
unfolding field_misfit
fits_filled table row rule none filled = not-false (fits rule.grammar (field table row Currency) (field table row rule.name)) (none_when _ (misfit rule.grammar) (rw filled at none))

-- a field without a fault is filled and of the grammar, where an empty one has a fault
good_field : (table : FileTable) (row : ℕ) (rule : ColumnRule) → (empty_misfit (field table row) rule.empty ≡ None → ⊥) → field_misfit (field table row) rule ≡ None → IsGood table row rule.name rule.grammar
unfolding field_misfit
good_field table row rule faulty none = step (is_filled (field table row rule.name)) refl
  where
    step : (b : Bool) → is_filled (field table row rule.name) ≡ b → IsGood table row rule.name rule.grammar
    step true e = record { filled = e; fit = fits_filled table row rule none e }
    step false e = absurd (faulty (rw e at none))

-- a column that must be there
pub must_at : (file : FileName) (table : FileTable) (row k : ℕ) (name : ColumnName) (grammar : Grammar) → IsFormed file table → row < row_count table → slice_get (judged_columns file (field table row)) k ≡ Some (must name grammar) → IsGood table row name grammar
must_at file table row k name grammar formed lt at = good_field table row (must name grammar) (λ no. absurd (cc)) (formed.fields row k (must name grammar) lt at)

pub flex_at : (file : FileName) (table : FileTable) (row k : ℕ) (name : ColumnName) (grammar : Grammar) → IsFormed file table → row < row_count table → slice_get (judged_columns file (field table row)) k ≡ Some (must_or_flex name grammar) → IsGood table row name grammar
flex_at file table row k name grammar formed lt at = good_field table row (must_or_flex name grammar) (λ no. absurd (cc)) (formed.fields row k (must_or_flex name grammar) lt at)

-- a column that may be absent
pub may_at : (file : FileName) (table : FileTable) (row k : ℕ) (name : ColumnName) (grammar : Grammar) → IsFormed file table → row < row_count table → slice_get (judged_columns file (field table row)) k ≡ Some (may name grammar) → is_filled (field table row name) ≡ true → FieldFits table row name grammar
may_at file table row k name grammar formed lt at = fits_filled table row (may name grammar) (formed.fields row k (may name grammar) lt at)

-- a file that is formed gives few rows
pub few_rows : {X : Type 0} {name : FileName} {table : FileTable} (row : ℕ → X) → IsFormed name table → length (list_below (row_count table) row) ≤ most_rows
few_rows {table = table} row formed = rw (length-list_below (row_count table) row) formed.few

-- What fields tell as numbers.
use Rattle.std.proofs.Common.{◌≡◌, refl, ℕ, List, [], Option, None, Some}
use Rattle.std.specs.Prelude.{option_and_then}
use Rattle.feed_rows.specs.Numerals.{number_value}
use Rattle.feed_rows.specs.TimeGrammar.{time_value}
use Rattle.feed_faults.specs.declared.columns.Grammar.{Grammar}
use Rattle.feed_faults.specs.declared.columns.Grammar.TheVariants as grammar
use Rattle.feed_faults.specs.FieldGrammars.{int_value, count_value, date_value, currency_decimals, amount_value, unsigned_amount}
use Rattle.feed_files.specs.declared.names.FileName.{FileName}
use Rattle.feed_files.specs.declared.faults.FaultKind.{FaultKind}
use Rattle.feed_files.specs.declared.faults.FeedFault.{FeedFault}
use Rattle.feed_faults.specs.declared.columns.ColumnRule.{ColumnRule}
use Rattle.feed_faults.specs.Records.{Fields}
use Rattle.feed_faults.specs.FaultPlaces.{field_fault}
use Rattle.feed_faults.specs.FormFaults.{field_misfit, fault_of_field}
use Rattle.feed_text.specs.FieldNumbers.{number_by}

no_amount : (decimals : Option ℕ) → option_and_then (λ d. amount_value d []) decimals ≡ None
unfolding amount_value unsigned_amount number_value
no_amount None = refl
no_amount (Some d) = refl

-- an empty text tells nothing
pub nothing_told : (g : Grammar) (row_currency : List ℕ) → number_by g row_currency [] ≡ None
unfolding int_value count_value date_value currency_decimals amount_value unsigned_amount time_value number_value
nothing_told grammar.Id row_currency = refl
nothing_told (grammar.Int least most) row_currency = refl
nothing_told grammar.Count row_currency = refl
nothing_told (grammar.Time most) row_currency = refl
nothing_told grammar.Date row_currency = refl
nothing_told grammar.Currency row_currency = refl
nothing_told grammar.Amount row_currency = no_amount (currency_decimals row_currency)

-- what is wrong with a field is its fault, and a field that is right has none
pub own_fault : (file : FileName) (row : ℕ) (at : Fields) (rule : ColumnRule) (k : FaultKind) (fault : FeedFault)
    → field_misfit at rule ≡ Some k → fault ≡ field_fault file row rule.name k → fault_of_field file row at rule ≡ Some fault
own_fault file row at rule k fault is made = rw (is, made) refl

pub no_fault : (file : FileName) (row : ℕ) (at : Fields) (rule : ColumnRule) → field_misfit at rule ≡ None → fault_of_field file row at rule ≡ None
no_fault file row at rule is = rw is refl

-- What the fields of a row tell as numbers, by the grammars of their columns.
use Rattle.std.specs.Prelude.{◌≤ℤ◌, ℕ, List, Option, None, IfSome, option_map, map, ℤ, pos}
use Rattle.feed_files.specs.declared.names.FileName.{FileName}
use Rattle.feed_files.specs.declared.names.ColumnName.TheVariants as column
use Rattle.feed_rows.specs.TimeGrammar.{time_value}
use Rattle.feed_faults.specs.declared.columns.Grammar.{Grammar}
use Rattle.feed_faults.specs.declared.columns.Grammar.TheVariants as grammar
use Rattle.feed_faults.specs.declared.columns.ColumnRule.{ColumnRule}
use Rattle.feed_faults.specs.FieldGrammars.{int_value, count_value, date_value, currency_decimals, amount_in}
use Rattle.feed_faults.specs.FormFaults.{judged_columns}
use Rattle.feed_faults.specs.Records.{Fields}

-- what a text of the grammar tells: the integer or the count, the seconds, the day, the decimals of the currency, the amount
-- in the currency of its row; an id tells no number
abbrev pub number_by : Grammar → List ℕ → List ℕ → Option ℤ
number_by grammar.Id row_currency text = None
number_by (grammar.Int least most) row_currency text = int_value least most text
number_by grammar.Count row_currency text = count_value text
number_by (grammar.Time most) row_currency text = option_map pos (time_value most text)
number_by grammar.Date row_currency text = date_value text
number_by grammar.Currency row_currency text = option_map pos (currency_decimals text)
number_by grammar.Amount row_currency text = amount_in row_currency text

-- what the field of a row in a column tells
abbrev pub field_number : Fields → ColumnRule → Option ℤ
field_number at rule = number_by rule.grammar (at column.Currency) (at rule.name)

-- what the fields of a row that are judged tell, in the order of the columns
abbrev pub numbers_of : FileName → Fields → List (Option ℤ)
numbers_of file at = map (field_number at) (judged_columns file at)

-- a number that isn't there, or that is from 0 to 2^31 - 1
abbrev pub IsShort : Option ℤ → Type 0
IsShort number = IfSome number (λ z. (pos 0 ≤ℤ z) × (z ≤ℤ pos 2147483647))

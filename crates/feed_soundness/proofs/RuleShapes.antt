-- The shapes of columns and of their grammars.
use Rattle.std.specs.Prelude.{ℕ, pos}
use Rattle.feed_files.specs.declared.names.ColumnName.{ColumnName}
use Rattle.feed_faults.specs.declared.columns.Grammar.{Grammar}
use Rattle.feed_faults.specs.declared.columns.Grammar.TheVariants as grammar
use Rattle.feed_faults.specs.declared.columns.EmptyField.TheVariants as empty
use Rattle.feed_faults.specs.declared.columns.ColumnRule.{ColumnRule}

-- a column that must be there, with no field empty
abbrev pub must : ColumnName → Grammar → ColumnRule
must name fields = record { name = name; empty = empty.Fault; grammar = fields }

-- the same, where a row that names a place of GTFS-Flex instead has a fault of its own
abbrev pub must_or_flex : ColumnName → Grammar → ColumnRule
must_or_flex name fields = record { name = name; empty = empty.FaultOrFlex; grammar = fields }

-- a column that may be absent, and whose fields may be empty
abbrev pub may : ColumnName → Grammar → ColumnRule
may name fields = record { name = name; empty = empty.Fine; grammar = fields }

-- the grammars: ids, integers from least to most, dates, codes of currencies, amounts
abbrev pub id : Grammar
id = grammar.Id

abbrev pub int : ℕ → ℕ → Grammar
int least most = grammar.Int (pos least) (pos most)

abbrev pub date : Grammar
date = grammar.Date

abbrev pub currency : Grammar
currency = grammar.Currency

abbrev pub amount : Grammar
amount = grammar.Amount

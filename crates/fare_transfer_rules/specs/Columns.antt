-- What rows name in their columns.
use Rattle.std.specs.Prelude.{ℕ, Bool, Option, option_map}
use Rattle.feed_rows.specs.declared.rows.TransferRuleRow.{TransferRuleRow}
use Rattle.number_marks.specs.Marks.{is_number}
use Rattle.fare_transfer_rules.specs.declared.columns.Column.{Column}
use Rattle.fare_transfer_rules.specs.declared.columns.Column.TheVariants.{From, To}

-- what the row names in a column
abbrev pub number_in : Column → TransferRuleRow → Option ℕ
number_in From row = option_map (λ g. g.0) row.from
number_in To row = option_map (λ g. g.0) row.to

-- the row names this number in the column
abbrev pub names : Column → ℕ → TransferRuleRow → Bool
names column i row = is_number i (number_in column row)

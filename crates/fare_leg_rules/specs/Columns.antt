-- What rules name in their columns.
use Rattle.std.specs.Prelude.{ℕ, Bool, Option, option_map}
use Rattle.feed_rows.specs.declared.rows.LegRuleRow.{LegRuleRow}
use Rattle.number_marks.specs.Marks.{is_number}
use Rattle.fare_leg_rules.specs.declared.columns.Column.{Column}
use Rattle.fare_leg_rules.specs.declared.columns.Column.TheVariants.{Network, FromArea, ToArea}

-- what the rule names in a column
abbrev pub number_in : Column → LegRuleRow → Option ℕ
number_in Network row = option_map (λ n. n.0) row.network
number_in FromArea row = option_map (λ a. a.0) row.from_area
number_in ToArea row = option_map (λ a. a.0) row.to_area

-- the rule names this number in the column
abbrev pub names : Column → ℕ → LegRuleRow → Bool
names column i row = is_number i (number_in column row)

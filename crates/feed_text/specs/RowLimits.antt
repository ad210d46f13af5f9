-- How many data rows a table has at most, so that the number of a row, counted from 1, is one of 32 bits.
use Rattle.std.specs.Prelude.{ℕ, ◌-◌, ◌^◌}

abbrev pub row_limit : ℕ
row_limit = 2 ^ 32 - 2

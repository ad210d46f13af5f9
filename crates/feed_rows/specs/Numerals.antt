-- Numbers as digits write them.
use Rattle.std.specs.Prelude.{ℕ, ◌&&◌, nat_lt, nat_le, List, length, Option, Some, None}
use Rattle.std.specs.Str.{all_ascii_digits}
use Rattle.std.specs.Str.Parse.{digits_value}
use Rattle.plain_laws.specs.Plain.{when}

-- the number that one or more digits write; leading zeros are permitted
unfoldable pub number_value : List ℕ → Option ℕ
number_value text = when (all_ascii_digits text && nat_lt 0 (length text)) (digits_value 10 text)

-- the number, where it lies from least to most
abbrev pub within : ℕ → ℕ → Option ℕ → Option ℕ
within least most None = None
within least most (Some n) = when (nat_le least n && nat_le n most) n

-- the number, where it is at most this
abbrev pub when_at_most : ℕ → Option ℕ → Option ℕ
when_at_most most None = None
when_at_most most (Some n) = when (nat_le n most) n

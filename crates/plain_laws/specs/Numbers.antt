-- Tests of numbers.
use Rattle.std.specs.Prelude.{Bool, ◌&&◌, ℤ, int_le}

-- equal whole numbers
abbrev pub int_same : ℤ → ℤ → Bool
int_same a b = int_le a b && int_le b a

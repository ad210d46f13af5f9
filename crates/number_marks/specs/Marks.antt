-- Marks of the numbers that rows name.
use Rattle.std.specs.Prelude.{ℕ, Bool, false, ◌==◌, List, Option, slice_index_or}
use Rattle.plain_laws.specs.Plain.{filled_and}

-- the number is marked
abbrev pub is_marked : List Bool → ℕ → Bool
is_marked marks i = slice_index_or marks i false

-- the field is filled with this number
abbrev pub is_number : ℕ → Option ℕ → Bool
is_number i field = filled_and field (λ n. n == i)

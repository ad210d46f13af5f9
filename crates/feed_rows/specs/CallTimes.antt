-- Times that may not be there, as one number.
use Rattle.std.specs.Prelude.{◌≡◌, ℕ, suc, zero, Option, Some, None}
use Rattle.std.proofs.Common.{refl}

-- the seconds that a number stands for: one less, or none for 0
unfoldable pub seconds_of_code : ℕ → Option ℕ
seconds_of_code zero = None
seconds_of_code (suc n) = Some n

-- the number that stands for seconds
unfoldable pub code_of_seconds : Option ℕ → ℕ
code_of_seconds None = 0
code_of_seconds (Some n) = suc n

-- no number is lost
pub code_is_kept : (code : ℕ) → code_of_seconds (seconds_of_code code) ≡ code
unfolding seconds_of_code code_of_seconds
code_is_kept zero = refl
code_is_kept (suc n) = refl

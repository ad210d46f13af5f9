-- Seconds that are shifted, as a body adds them.
use Rattle.std.proofs.Common.{◌≡◌, refl, ℕ, ℤ, pos, ◌+ℤ◌}
use Rattle.std.proofs.lemmas.Int.{to_z-of_z}
use mir.Syntax.{w64}
use mir.Val.{SFits, of_z, to_z}

pub told_sum : (shift from : ℤ) (n : ℕ) → from ≡ pos n → SFits w64 shift → SFits w64 (pos n) → SFits w64 (shift +ℤ pos n) →
    to_z w64 (of_z w64 (to_z w64 (of_z w64 shift) +ℤ to_z w64 (of_z w64 from))) ≡ shift +ℤ pos n
told_sum shift from n e f g h = rw (e, to_z-of_z w64 shift f, to_z-of_z w64 (pos n) g, to_z-of_z w64 (shift +ℤ pos n) h) refl

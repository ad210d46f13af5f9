-- Bytes that are UTF-8.
use Rattle.std.proofs.Common.{◌≡◌, ℕ, List, Bool, true, false, Result, Ok, Err, refl, sym}
use Rattle.std.specs.Prelude.{is_ok}
use Rattle.std.specs.Result.{MatchResult}
use Rattle.std.specs.Str.{IsUtf8, is_utf8}
use Rattle.std.proofs.lemmas.Str.{IsUtf8-from_is_utf8, is_utf8-from_IsUtf8}

none : (bytes : List ℕ) (b : Bool) → is_utf8 bytes ≡ b → (IsUtf8 bytes → ⊥) → false ≡ is_utf8 bytes
none bytes true e not_so = absurd (not_so (IsUtf8-from_is_utf8 bytes e))
none bytes false e not_so = sym e

-- a reading that succeeds exactly on UTF-8 is the test
pub read_tests : {S E : Type 0} (P : S → Type 0) (Q : E → Type 0) (bytes : List ℕ) (read : Result S E)
    → MatchResult read (λ s. P s × IsUtf8 bytes) (λ e. (IsUtf8 bytes → ⊥) × Q e) → is_ok read ≡ is_utf8 bytes
read_tests P Q bytes (Ok s) h = sym (is_utf8-from_IsUtf8 bytes h.1)
read_tests P Q bytes (Err e) h = none bytes (is_utf8 bytes) refl h.0

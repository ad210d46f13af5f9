-- Ordered maps with bytes as keys: what a change at some bytes leaves at any others.
use Rattle.std.proofs.Common.{◌≡◌, sym, ◌∙◌, ℕ, true, false, List, ⊎_elim}
use Rattle.std.specs.Prelude.{bytes_eq}
use Rattle.std.specs.Cmp.Lexicographic.{nat_list_eq_equiv}

-- what is not equal to some bytes is not equal to others that are
apart : (bs cs ks : List ℕ) → bytes_eq bs cs ≡ false → bytes_eq bs ks ≡ true → bytes_eq cs ks ≡ false
apart bs cs ks differ same = nat_list_eq_equiv.symm cs ks ∙ sym (nat_list_eq_equiv.congr bs ks cs same) ∙ differ

-- Texts without blanks at their ends.
use Rattle.std.proofs.Common.{◌≡◌, ◌<◌, ℕ, ◌-◌, List, [], ◌∷◌, false, refl, length, get_or, arith}
use Rattle.std.specs.Prelude.{reverse}
use Rattle.std.proofs.lemmas.Bool.Decides.{nat_tests}
use Rattle.std.proofs.lemmas.List.{get_or-reverse, reverse-reverse}
use Rattle.feed_faults.specs.Records.{is_blank, cut_start, cut}

-- the empty text
pub cut_none : (text : List ℕ) → length text ≡ 0 → text ≡ cut text
unfolding cut
cut_none [] none = refl
cut_none (c ∷ cs) none = absurd (omega (arith, none))

start_whole : (text : List ℕ) → 32 < get_or text 0 0 → cut_start text ≡ text
start_whole [] whole = refl
start_whole (c ∷ cs) whole = let other : is_blank c ≡ false = grind (arith, nat_tests) in rw other refl

-- a text of which neither end is a blank
pub cut_whole : (text : List ℕ) → 32 < get_or text 0 0 → 32 < get_or text (length text - 1) 0 → text ≡ cut text
unfolding cut
cut_whole [] first last = refl
cut_whole (c ∷ cs) first last =
    let text = c ∷ cs in
    let front = start_whole text first in
    let end = get_or-reverse text 0 0 (omega arith) in
    let same : length text - 1 - 0 ≡ length text - 1 = omega arith in
    let back = start_whole (reverse text) (rw (end, same) last) in
    rw (front, back, reverse-reverse text) refl

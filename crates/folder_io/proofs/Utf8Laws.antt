-- The judgement byte by byte is std's test of UTF-8.
use Rattle.std.proofs.Common.{◌≡◌, ℕ, zero, suc, ◌+◌, ◌-◌, ◌*◌, ◌/◌, ◌<◌, ◌≤◌, Bool, true, false, List, [], ◌∷◌, ◌++◌, length, take, drop, refl, sym, ap, subst, ◌∙◌, ◌⊎◌, inl, inr, ⊎_elim, arith, take-append-drop}
use Rattle.std.proofs.lemmas.Bool.Decides.{nat_tests}
use Rattle.std.proofs.lemmas.Str.{IsUtf8-nil, IsUtf8-append, IsUtf8-encode, encode_ascii, IsUtf8-from_is_utf8, is_utf8-from_IsUtf8}
use Rattle.std.specs.Str.{IsUtf8, is_utf8}
use Rattle.std.specs.Str.Lossy.{second_byte_min, second_byte_max}
use Rattle.std.specs.Prelude.{nat_lt, ◌&&◌}
use lib.Utf8.{next, low_scalar, scalar, scalars, encode, encodes, scalar_cases}
use Rattle.folder_io.specs.declared.utf8.Utf8State.{Utf8State}
use Rattle.folder_io.specs.declared.utf8.Utf8State.TheVariants.{Whole, Due, Wrong}
use Rattle.folder_io.specs.Utf8Text.{after_first, after_due, utf8_step, utf8_after, is_between}

-- some bytes, and then others
pub utf8_after-append : (state : Utf8State) (front rest : List ℕ) → utf8_after state (front ++ rest) ≡ utf8_after (utf8_after state front) rest
utf8_after-append state [] rest = refl
utf8_after-append state (byte ∷ front) rest = utf8_after-append (utf8_step state byte) front rest

-- behind bytes that no text begins with, no more bytes make one
pub utf8_after-Wrong : (bytes : List ℕ) → utf8_after Wrong bytes ≡ Wrong
utf8_after-Wrong [] = refl
utf8_after-Wrong (byte ∷ bytes) = utf8_after-Wrong bytes

-- one number is below another or not
order : (m n : ℕ) → (m < n) ⊎ (n ≤ m)
order m n = by (nat_lt m n) refl
  where
    by : (b : Bool) → nat_lt m n ≡ b → (m < n) ⊎ (n ≤ m)
    by true e = inl (grind (arith, nat_tests))
    by false e = inr (grind (arith, nat_tests))

both : (x y : Bool) → (x && y) ≡ true → (x ≡ true) × (y ≡ true)
both true y e = (refl, e)
both false y e = absurd (let no : false ≡ true = e in cc)

-- the numbers of characters
abbrev Scalar : ℕ → Type 0
Scalar c = (c < 55296) ⊎ ((57344 ≤ c) × (c < 1114112))

high_scalar : (c : ℕ) → 57344 ≤ c → c < 1114112 → scalar c ≡ true
high_scalar c l h = grind (arith, nat_tests)

-- the bytes of a character, by their number
two : (c : ℕ) → 128 ≤ c → c < 2048 → encode c ≡ (192 + c / 64) ∷ next c ∷ []
unfolding encode
two c l h = grind (arith, nat_tests)

three : (c : ℕ) → 2048 ≤ c → c < 65536 → encode c ≡ (224 + c / 4096) ∷ next (c / 64) ∷ next c ∷ []
unfolding encode
three c l h = grind (arith, nat_tests)

four : (c : ℕ) → 65536 ≤ c → encode c ≡ (240 + c / 262144) ∷ next (c / 4096) ∷ next (c / 64) ∷ next c ∷ []
unfolding encode
four c l = grind (arith, nat_tests)

-- a first byte, by how many bytes follow it
first_one : (a : ℕ) → a < 128 → after_first a ≡ Whole
first_one a h = grind (arith, nat_tests)

first_two : (a : ℕ) → 194 ≤ a → a < 224 → after_first a ≡ Due 1 128 191
first_two a l h = grind (arith, nat_tests)

first_three : (a : ℕ) → 224 ≤ a → a < 240 → after_first a ≡ Due 2 (second_byte_min a) (second_byte_max a)
first_three a l h = grind (arith, nat_tests)

first_four : (a : ℕ) → 240 ≤ a → a < 245 → after_first a ≡ Due 3 (second_byte_min a) (second_byte_max a)
first_four a l h = grind (arith, nat_tests)

first_low : (a : ℕ) → 128 ≤ a → a < 194 → after_first a ≡ Wrong
first_low a l h = grind (arith, nat_tests)

first_high : (a : ℕ) → 245 ≤ a → after_first a ≡ Wrong
first_high a l = grind (arith, nat_tests)

-- a byte that was due
due : (count low high b : ℕ) → low ≤ b → b ≤ high → utf8_step (Due count low high) b ≡ after_due count
due count low high b l h = grind (arith, nat_tests)

-- a second byte within its range, as what it says of each first byte
least_at : (a b : ℕ) → 128 ≤ b → (a ≡ 224 → 160 ≤ b) → (a ≡ 240 → 144 ≤ b) → second_byte_min a ≤ b
least_at a b all three four = grind (arith, nat_tests)

most_at : (a b : ℕ) → b < 192 → (a ≡ 237 → b < 160) → (a ≡ 244 → b < 144) → b ≤ second_byte_max a
most_at a b all three four = grind (arith, nat_tests)

at_least : (a b : ℕ) → second_byte_min a ≤ b → (128 ≤ b) × (a ≡ 224 → 160 ≤ b) × (a ≡ 240 → 144 ≤ b)
at_least a b le = (grind (arith, nat_tests), λ e. grind (arith, nat_tests), λ e. grind (arith, nat_tests))

at_most : (a b : ℕ) → b ≤ second_byte_max a → (b < 192) × (a ≡ 237 → b < 160) × (a ≡ 244 → b < 144)
at_most a b le = (grind (arith, nat_tests), λ e. grind (arith, nat_tests), λ e. grind (arith, nat_tests))

-- behind the bytes of one character
after_two : (a b : ℕ) → 194 ≤ a → a < 224 → 128 ≤ b → b < 192 → utf8_after Whole (a ∷ b ∷ []) ≡ Whole
after_two a b l h lb hb = ap (λ s. utf8_step s b) (first_two a l h) ∙ due 1 128 191 b lb (omega arith)

after_three : (a b d : ℕ) → 224 ≤ a → a < 240 → second_byte_min a ≤ b → b ≤ second_byte_max a → 128 ≤ d → d < 192 → utf8_after Whole (a ∷ b ∷ d ∷ []) ≡ Whole
after_three a b d l h lb hb ld hd =
    ap (λ s. utf8_after s (b ∷ d ∷ [])) (first_three a l h)
    ∙ ap (λ s. utf8_step s d) (due 2 (second_byte_min a) (second_byte_max a) b lb hb)
    ∙ due 1 128 191 d ld (omega arith)

after_four : (a b d e : ℕ) → 240 ≤ a → a < 245 → second_byte_min a ≤ b → b ≤ second_byte_max a → 128 ≤ d → d < 192 → 128 ≤ e → e < 192 → utf8_after Whole (a ∷ b ∷ d ∷ e ∷ []) ≡ Whole
after_four a b d e l h lb hb ld hd le he =
    ap (λ s. utf8_after s (b ∷ d ∷ e ∷ [])) (first_four a l h)
    ∙ ap (λ s. utf8_after s (d ∷ e ∷ [])) (due 3 (second_byte_min a) (second_byte_max a) b lb hb)
    ∙ ap (λ s. utf8_step s e) (due 2 128 191 d ld (omega arith))
    ∙ due 1 128 191 e le (omega arith)

-- the second byte of a character of three or four bytes lies in its range
three_in_range : (c a b d : ℕ) → c + 925824 ≡ a * 4096 + b * 64 + d → 128 ≤ b → b < 192 → 128 ≤ d → d < 192 → 2048 ≤ c → c < 65536 → Scalar c → (second_byte_min a ≤ b) × (b ≤ second_byte_max a)
three_in_range c a b d is lb hb ld hd low high of =
    (least_at a b lb (λ e. omega arith) (λ e. absurd (omega arith)), most_at a b hb (λ e. ⊎_elim (λ s. omega arith) (λ s. omega arith) of) (λ e. absurd (omega arith)))

four_in_range : (c a b d x : ℕ) → c + 63447168 ≡ a * 262144 + b * 4096 + d * 64 + x → 128 ≤ b → b < 192 → 128 ≤ d → d < 192 → 128 ≤ x → x < 192 → 65536 ≤ c → c < 1114112 → (240 ≤ a) × (a < 245) × (second_byte_min a ≤ b) × (b ≤ second_byte_max a)
four_in_range c a b d x is lb hb ld hd lx hx low high =
    (omega arith, omega arith, least_at a b lb (λ e. absurd (omega arith)) (λ e. omega arith), most_at a b hb (λ e. absurd (omega arith)) (λ e. omega arith))

below : (c : ℕ) → Scalar c → c < 1114112
below c of = ⊎_elim (λ s. omega arith) (λ s. s.1) of

-- a whole character
after_char : (c : ℕ) → Scalar c → utf8_after Whole (encode c) ≡ Whole
after_char c of = by (order c 128) (order c 2048) (order c 65536)
  where
    by : (c < 128) ⊎ (128 ≤ c) → (c < 2048) ⊎ (2048 ≤ c) → (c < 65536) ⊎ (65536 ≤ c) → utf8_after Whole (encode c) ≡ Whole
    by (inl h) _ _ = ap (utf8_after Whole) (encode_ascii c h) ∙ first_one c h
    by (inr l) (inl h) _ = ap (utf8_after Whole) (two c l h) ∙ after_two (192 + c / 64) (next c) (omega arith) (omega arith) (omega arith) (omega arith)
    by (inr _) (inr l) (inl h) =
        let is : c + 925824 ≡ (224 + c / 4096) * 4096 + next (c / 64) * 64 + next c = omega arith in
        let second = three_in_range c (224 + c / 4096) (next (c / 64)) (next c) is (omega arith) (omega arith) (omega arith) (omega arith) l h of in
        ap (utf8_after Whole) (three c l h) ∙ after_three (224 + c / 4096) (next (c / 64)) (next c) (omega arith) (omega arith) second.0 second.1 (omega arith) (omega arith)
    by (inr _) (inr _) (inr l) =
        let is : c + 63447168 ≡ (240 + c / 262144) * 262144 + next (c / 4096) * 4096 + next (c / 64) * 64 + next c = omega arith in
        let second = four_in_range c (240 + c / 262144) (next (c / 4096)) (next (c / 64)) (next c) is (omega arith) (omega arith) (omega arith) (omega arith) (omega arith) (omega arith) l (below c of) in
        ap (utf8_after Whole) (four c l)
        ∙ after_four (240 + c / 262144) (next (c / 4096)) (next (c / 64)) (next c) second.0 second.1 second.2 second.3 (omega arith) (omega arith) (omega arith) (omega arith)

after_chars : (cs : List ℕ) → scalars cs ≡ true → utf8_after Whole (encodes cs) ≡ Whole
after_chars [] of = refl
after_chars (c ∷ cs) of =
    let each = both (scalar c) (scalars cs) of in
    utf8_after-append Whole (encode c) (encodes cs) ∙ ap (λ s. utf8_after s (encodes cs)) (after_char c (scalar_cases c each.0)) ∙ after_chars cs each.1

-- behind a text, another may begin
pub utf8_after-text : (bytes : List ℕ) → IsUtf8 bytes → utf8_after Whole bytes ≡ Whole
utf8_after-text bytes text = subst (λ all. utf8_after Whole all ≡ Whole) text.1.1 (after_chars text.0 text.1.0)

-- what is left behind a front that is a text
pub utf8_after-drop : (bytes : List ℕ) (n : ℕ) → IsUtf8 (take n bytes) → utf8_after Whole (drop n bytes) ≡ utf8_after Whole bytes
utf8_after-drop bytes n front =
    sym (ap (λ s. utf8_after s (drop n bytes)) (utf8_after-text (take n bytes) front))
    ∙ sym (utf8_after-append Whole (take n bytes) (drop n bytes))
    ∙ ap (utf8_after Whole) (take-append-drop n bytes)

-- bytes in the ranges of one character are a text
text_one : (a : ℕ) → a < 128 → IsUtf8 (a ∷ [])
text_one a h = subst IsUtf8 (encode_ascii a h) (IsUtf8-encode a (low_scalar a (omega arith)))

text_two : (a b : ℕ) → 194 ≤ a → a < 224 → 128 ≤ b → b < 192 → IsUtf8 (a ∷ b ∷ [])
text_two a b l h lb hb =
    let c = (a - 192) * 64 + (b - 128) in
    let p : 192 + c / 64 ≡ a = omega arith in
    let q : next c ≡ b = omega arith in
    subst IsUtf8 (two c (omega arith) (omega arith) ∙ (λ k. p k ∷ q k ∷ [])) (IsUtf8-encode c (low_scalar c (omega arith)))

text_three : (a b d : ℕ) → 224 ≤ a → a < 240 → second_byte_min a ≤ b → b ≤ second_byte_max a → 128 ≤ d → d < 192 → IsUtf8 (a ∷ b ∷ d ∷ [])
text_three a b d l h lb hb ld hd =
    let low = at_least a b lb in
    let high = at_most a b hb in
    let least : 128 ≤ b = low.0 in
    let most : b < 192 = high.0 in
    let first : a ≡ 224 → 160 ≤ b = low.1 in
    let last : a ≡ 237 → b < 160 = high.1 in
    let c = (a - 224) * 4096 + (b - 128) * 64 + (d - 128) in
    let p : 224 + c / 4096 ≡ a = omega arith in
    let q : next (c / 64) ≡ b = omega arith in
    let r : next c ≡ d = omega arith in
    let enough : 2048 ≤ c = ⊎_elim (λ s. let more : 160 ≤ b = first (omega arith) in omega arith) (λ s. omega arith) (order a 225) in
    let of : scalar c ≡ true =
    ⊎_elim (λ s. low_scalar c (omega arith)) (λ s. ⊎_elim (λ t. let less : b < 160 = last (omega arith) in low_scalar c (omega arith)) (λ t. high_scalar c (omega arith) (omega arith)) (order a 238)) (order a 237) in
    subst IsUtf8 (three c enough (omega arith) ∙ (λ k. p k ∷ q k ∷ r k ∷ [])) (IsUtf8-encode c of)

text_four : (a b d e : ℕ) → 240 ≤ a → a < 245 → second_byte_min a ≤ b → b ≤ second_byte_max a → 128 ≤ d → d < 192 → 128 ≤ e → e < 192 → IsUtf8 (a ∷ b ∷ d ∷ e ∷ [])
text_four a b d e l h lb hb ld hd le he =
    let low = at_least a b lb in
    let high = at_most a b hb in
    let least : 128 ≤ b = low.0 in
    let most : b < 192 = high.0 in
    let first : a ≡ 240 → 144 ≤ b = low.2 in
    let last : a ≡ 244 → b < 144 = high.2 in
    let c = (a - 240) * 262144 + (b - 128) * 4096 + (d - 128) * 64 + (e - 128) in
    let p : 240 + c / 262144 ≡ a = omega arith in
    let q : next (c / 4096) ≡ b = omega arith in
    let middle : c / 64 ≡ (a - 240) * 4096 + (b - 128) * 64 + (d - 128) = omega arith in
    let r : next (c / 64) ≡ d = subst (λ (m : ℕ). next m ≡ d) (sym middle) (omega arith) in
    let t : next c ≡ e = omega arith in
    let enough : 65536 ≤ c = ⊎_elim (λ s. let more : 144 ≤ b = first (omega arith) in omega arith) (λ s. omega arith) (order a 241) in
    let few : c < 1114112 = ⊎_elim (λ s. omega arith) (λ s. let less : b < 144 = last (omega arith) in omega arith) (order a 244) in
    subst IsUtf8 (four c enough ∙ (λ k. p k ∷ q k ∷ r k ∷ t k ∷ [])) (IsUtf8-encode c (high_scalar c (omega arith) few))

-- a byte that was due lies in its range, where a text ends behind it
was_due : (count low high b : ℕ) (rest : List ℕ) → utf8_after (Due count low high) (b ∷ rest) ≡ Whole → (low ≤ b) × (b ≤ high) × (utf8_after (after_due count) rest ≡ Whole)
was_due count low high b rest ends = by (order b low) (order high b)
  where
    out : utf8_step (Due count low high) b ≡ Wrong → (low ≤ b) × (b ≤ high) × (utf8_after (after_due count) rest ≡ Whole)
    out wrong = let no : Wrong ≡ Whole = sym (ap (λ s. utf8_after s rest) wrong ∙ utf8_after-Wrong rest) ∙ ends in cc

    by : (b < low) ⊎ (low ≤ b) → (high < b) ⊎ (b ≤ high) → (low ≤ b) × (b ≤ high) × (utf8_after (after_due count) rest ≡ Whole)
    by (inl h) _ = out (grind (arith, nat_tests))
    by (inr l) (inl h) = out (grind (arith, nat_tests))
    by (inr l) (inr h) = (l, h, sym (ap (λ s. utf8_after s rest) (due count low high b l h)) ∙ ends)

-- that shorter bytes are a text where one may end behind them
abbrev AreTexts : List ℕ → Type 0
AreTexts bytes = (rest : List ℕ) → length rest ≤ length bytes → utf8_after Whole rest ≡ Whole → IsUtf8 rest

two_then : (a : ℕ) (bytes : List ℕ) → 194 ≤ a → a < 224 → AreTexts bytes → utf8_after (Due 1 128 191) bytes ≡ Whole → IsUtf8 (a ∷ bytes)
two_then a [] l h shorter ends = absurd (let no : Due 1 128 191 ≡ Whole = ends in cc)
two_then a (b ∷ rest) l h shorter ends =
    let second = was_due 1 128 191 b rest ends in
    IsUtf8-append (a ∷ b ∷ []) rest (text_two a b l h second.0 (omega (arith, second.1))) (shorter rest (omega arith) second.2)

three_then : (a : ℕ) (bytes : List ℕ) → 224 ≤ a → a < 240 → AreTexts bytes → utf8_after (Due 2 (second_byte_min a) (second_byte_max a)) bytes ≡ Whole → IsUtf8 (a ∷ bytes)
three_then a [] l h shorter ends = absurd (let no : Due 2 (second_byte_min a) (second_byte_max a) ≡ Whole = ends in cc)
three_then a (b ∷ []) l h shorter ends =
    let second = was_due 2 (second_byte_min a) (second_byte_max a) b [] ends in
    absurd (let no : Due 1 128 191 ≡ Whole = second.2 in cc)
three_then a (b ∷ d ∷ rest) l h shorter ends =
    let second = was_due 2 (second_byte_min a) (second_byte_max a) b (d ∷ rest) ends in
    let third = was_due 1 128 191 d rest second.2 in
    IsUtf8-append (a ∷ b ∷ d ∷ []) rest (text_three a b d l h second.0 second.1 third.0 (omega (arith, third.1))) (shorter rest (omega arith) third.2)

four_then : (a : ℕ) (bytes : List ℕ) → 240 ≤ a → a < 245 → AreTexts bytes → utf8_after (Due 3 (second_byte_min a) (second_byte_max a)) bytes ≡ Whole → IsUtf8 (a ∷ bytes)
four_then a [] l h shorter ends = absurd (let no : Due 3 (second_byte_min a) (second_byte_max a) ≡ Whole = ends in cc)
four_then a (b ∷ []) l h shorter ends =
    let second = was_due 3 (second_byte_min a) (second_byte_max a) b [] ends in
    absurd (let no : Due 2 128 191 ≡ Whole = second.2 in cc)
four_then a (b ∷ d ∷ []) l h shorter ends =
    let second = was_due 3 (second_byte_min a) (second_byte_max a) b (d ∷ []) ends in
    let third = was_due 2 128 191 d [] second.2 in
    absurd (let no : Due 1 128 191 ≡ Whole = third.2 in cc)
four_then a (b ∷ d ∷ e ∷ rest) l h shorter ends =
    let second = was_due 3 (second_byte_min a) (second_byte_max a) b (d ∷ e ∷ rest) ends in
    let third = was_due 2 128 191 d (e ∷ rest) second.2 in
    let fourth = was_due 1 128 191 e rest third.2 in
    IsUtf8-append (a ∷ b ∷ d ∷ e ∷ []) rest (text_four a b d e l h second.0 second.1 third.0 (omega (arith, third.1)) fourth.0 (omega (arith, fourth.1))) (shorter rest (omega arith) fourth.2)

-- bytes behind which a text may end, by the first of them
first_then : (a : ℕ) (bytes : List ℕ) → AreTexts bytes → utf8_after Whole (a ∷ bytes) ≡ Whole → IsUtf8 (a ∷ bytes)
first_then a bytes shorter ends = by (order a 128) (order a 194) (order a 224) (order a 240) (order a 245)
  where
    from : (state : Utf8State) → after_first a ≡ state → utf8_after state bytes ≡ Whole
    from state is = sym (ap (λ s. utf8_after s bytes) is) ∙ ends

    wrong : after_first a ≡ Wrong → IsUtf8 (a ∷ bytes)
    wrong is = absurd (let no : Wrong ≡ Whole = sym (utf8_after-Wrong bytes) ∙ from Wrong is in cc)

    by : (a < 128) ⊎ (128 ≤ a) → (a < 194) ⊎ (194 ≤ a) → (a < 224) ⊎ (224 ≤ a) → (a < 240) ⊎ (240 ≤ a) → (a < 245) ⊎ (245 ≤ a) → IsUtf8 (a ∷ bytes)
    by (inl h) _ _ _ _ = IsUtf8-append (a ∷ []) bytes (text_one a h) (shorter bytes (omega arith) (from Whole (first_one a h)))
    by (inr l) (inl h) _ _ _ = wrong (first_low a l h)
    by (inr _) (inr l) (inl h) _ _ = two_then a bytes l h shorter (from (Due 1 128 191) (first_two a l h))
    by (inr _) (inr _) (inr l) (inl h) _ = three_then a bytes l h shorter (from (Due 2 (second_byte_min a) (second_byte_max a)) (first_three a l h))
    by (inr _) (inr _) (inr _) (inr l) (inl h) = four_then a bytes l h shorter (from (Due 3 (second_byte_min a) (second_byte_max a)) (first_four a l h))
    by (inr _) (inr _) (inr _) (inr _) (inr l) = wrong (first_high a l)

texts : (most : ℕ) (bytes : List ℕ) → length bytes ≤ most → utf8_after Whole bytes ≡ Whole → IsUtf8 bytes
texts most [] le ends = IsUtf8-nil
texts zero (a ∷ bytes) le ends = absurd (omega arith)
texts (suc most) (a ∷ bytes) le ends = first_then a bytes (λ rest shorter there. texts most rest (omega arith) there) ends

-- a text may end behind bytes exactly where they are one
pub is_between-utf8_after : (bytes : List ℕ) → is_between (utf8_after Whole bytes) ≡ is_utf8 bytes
is_between-utf8_after bytes = by (utf8_after Whole bytes) refl (is_utf8 bytes) refl
  where
    whole : is_utf8 bytes ≡ true → utf8_after Whole bytes ≡ Whole
    whole is = utf8_after-text bytes (IsUtf8-from_is_utf8 bytes is)

    by : (state : Utf8State) → utf8_after Whole bytes ≡ state → (b : Bool) → is_utf8 bytes ≡ b → is_between state ≡ b
    by Whole is true e = refl
    by Whole is false e = let yes : is_utf8 bytes ≡ true = is_utf8-from_IsUtf8 bytes (texts (length bytes) bytes (omega arith) is) in cc
    by (Due count low high) is true e = let no : Whole ≡ Due count low high = sym (whole e) ∙ is in cc
    by (Due count low high) is false e = refl
    by Wrong is true e = let no : Whole ≡ Wrong = sym (whole e) ∙ is in cc
    by Wrong is false e = refl

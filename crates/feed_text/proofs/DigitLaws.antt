-- Digits one by one.
use Rattle.std.proofs.Common.{◌≡◌, ℕ, ◌+◌, ◌-◌, ◌*◌, ◌^◌, ◌<◌, ◌≤◌, List, [], ◌∷◌, Bool, true, false, zero, suc, sym, length, take, get_or, None, Some, nat_lt, ◌&&◌, refl, ap, ◌∙◌, arith, add-one}
use Rattle.std.specs.Prelude.{nat_le, Option, IfSome, IfNone}
use Rattle.std.specs.Char.{is_ascii_digit, digit_value}
use Rattle.std.specs.Str.{all_ascii_digits}
use Rattle.std.specs.Str.Parse.{digits_value}
use Rattle.std.proofs.lemmas.Bool.Decides.{nat_tests}
use Rattle.std.proofs.lemmas.Int.Digits.{digits_value_more}
use Rattle.std.proofs.lemmas.Str.Parse.{digits_value-take-le}
use Rattle.plain_laws.specs.Plain.{when}
use Rattle.feed_rows.specs.Numerals.{number_value, when_at_most}
use Rattle.std.proofs.lemmas.Bool.{and_parts, and_from, and_right}

-- digits, and one more
pub all_more : (bs : List ℕ) (i : ℕ) → i < length bs → all_ascii_digits (take i bs) ≡ true → is_ascii_digit (get_or bs i 0) ≡ true
    → all_ascii_digits (take (i + 1) bs) ≡ true
all_more [] i lt a d = absurd (omega arith)
all_more (b ∷ bs) zero lt a d = and_from (is_ascii_digit b) true d refl
all_more (b ∷ bs) (suc i) lt a d =
    let parts = and_parts (is_ascii_digit b) (all_ascii_digits (take i bs)) a in
    let later = rw (add-one i) at (all_more bs i (omega arith) parts.1 d) in
    rw (add-one (suc i)) (and_from (is_ascii_digit b) (all_ascii_digits (take (suc i) bs)) parts.0 later)

not_all : (bs : List ℕ) (i : ℕ) → i < length bs → is_ascii_digit (get_or bs i 0) ≡ false → all_ascii_digits bs ≡ false
not_all [] i lt d = absurd (omega arith)
not_all (b ∷ bs) zero lt d = ap (λ (x : Bool). x && all_ascii_digits bs) d
not_all (b ∷ bs) (suc i) lt d = and_right (is_ascii_digit b) (all_ascii_digits bs) (not_all bs i (omega arith) d)

-- a text with another byte is no number
pub no_number : (bs : List ℕ) (n i : ℕ) → i < length bs → is_ascii_digit (get_or bs i 0) ≡ false → None ≡ when_at_most n (number_value bs)
unfolding number_value
no_number bs n i lt d = rw (not_all bs i lt d) refl

-- nor is the empty text
pub empty_number : (bs : List ℕ) (n : ℕ) → length bs ≡ 0 → None ≡ when_at_most n (number_value bs)
unfolding number_value
empty_number [] n e = refl
empty_number (b ∷ bs) n e = absurd (omega (arith, e))

dropped : (b : Bool) (n v : ℕ) → n < v → None ≡ when_at_most n (when b v)
dropped true n v h = let no : nat_le v n ≡ false = grind (arith, nat_tests) in rw no refl
dropped false n v h = refl

-- a number that is too great from some digit on
pub too_large : (bs : List ℕ) (n i : ℕ) → n < digits_value 10 (take i bs) → None ≡ when_at_most n (number_value bs)
unfolding number_value
too_large bs n i h =
    dropped (all_ascii_digits bs && nat_lt 0 (length bs)) n (digits_value 10 bs)
    (let le = digits_value-take-le 10 bs i (omega arith) in omega (arith, h, le))

-- a number that fits
pub whole : (bs : List ℕ) (n v : ℕ) → all_ascii_digits bs ≡ true → 0 < length bs → v ≡ digits_value 10 bs → v ≤ n
    → Some v ≡ when_at_most n (number_value bs)
unfolding number_value
whole bs n v a lt e h =
    let some : nat_lt 0 (length bs) ≡ true = grind (arith, nat_tests) in
    let yes : nat_le v n ≡ true = grind (arith, nat_tests) in
    rw (a, some, ← e, yes) refl

by_test : (a n : ℕ) (b : Bool) → nat_le a n ≡ b → None ≡ when b a → n < a
by_test a n true t e = absurd (cc)
by_test a n false t e = grind (arith, nat_tests)

-- what a bounded value says
pub bounded_none : (a n : ℕ) → None ≡ when_at_most n (Some a) → n < a
bounded_none a n e = by_test a n (nat_le a n) refl e

kept : (a n w : ℕ) (b : Bool) → nat_le a n ≡ b → Some w ≡ when b a → (w ≡ a) × (a ≤ n)
kept a n w true t e = (cc, grind (arith, nat_tests))
kept a n w false t e = absurd (cc)

digit_is : (c : ℕ) → is_ascii_digit c ≡ true → digit_value c ≡ c - 48
digit_is c d = grind (arith, nat_tests)

-- the value of one more digit
pub grown : (bs : List ℕ) (i v : ℕ) → v ≡ digits_value 10 (take i bs) → i < length bs → is_ascii_digit (get_or bs i 0) ≡ true
    → digits_value 10 (take (i + 1) bs) ≡ v * 10 + (get_or bs i 0 - 48)
grown bs i v e lt d = digits_value_more 10 bs i lt ∙ rw (← e, digit_is (get_or bs i 0) d) refl

small : (c : ℕ) → is_ascii_digit c ≡ true → c - 48 ≤ 9
small c d = grind (arith, nat_tests)

-- one byte: the number of a digit, or none
pub one_digit : (text : List ℕ) (value : Option ℕ) → length text ≡ 1
    → IfSome value (λ v. (is_ascii_digit (get_or text 0 0) ≡ true) × (v ≡ get_or text 0 0 - 48))
    → IfNone value (is_ascii_digit (get_or text 0 0) ≡ false)
    → value ≡ when_at_most (2 ^ 64 - 1) (number_value text)
one_digit [] value long some none = absurd (omega (arith, long))
one_digit (ones ∷ []) None long some none = no_number (ones ∷ []) (2 ^ 64 - 1) 0 (omega arith) none
one_digit (ones ∷ []) (Some v) long some none =
    let bs : List ℕ = ones ∷ [] in
    let (o, is) = some in
    let one = grown bs 0 0 refl (omega arith) o in
    let low = small ones o in
    whole bs (2 ^ 64 - 1) v (all_more bs 0 (omega arith) refl o) (omega arith) (omega (arith, one, is)) (omega (arith, low, is))
one_digit (a ∷ b ∷ rest) value long some none = absurd (omega (arith, long))

-- two digits whose number is at most this
pub pair_within : (most tens ones : ℕ) → is_ascii_digit tens ≡ true → is_ascii_digit ones ≡ true → (tens - 48) * 10 + (ones - 48) ≤ most
    → Some ((tens - 48) * 10 + (ones - 48)) ≡ when_at_most most (number_value (tens ∷ ones ∷ []))
pair_within most tens ones t o fits =
    let bs : List ℕ = tens ∷ ones ∷ [] in
    let one = grown bs 0 0 refl (omega arith) t in
    let first : tens - 48 ≡ digits_value 10 (take 1 bs) = omega (arith, one) in
    let two = grown bs 1 (tens - 48) first (omega arith) o in
    let digits = all_more bs 1 (omega arith) (all_more bs 0 (omega arith) refl t) o in
    whole bs most ((tens - 48) * 10 + (ones - 48)) digits (omega arith) (sym two) fits

-- two digits
pub two_digits : (text : List ℕ) (tens ones : ℕ) → length text ≡ 2
    → (is_ascii_digit (get_or text 0 0) ≡ true) × (tens ≡ get_or text 0 0 - 48)
    → (is_ascii_digit (get_or text 1 0) ≡ true) × (ones ≡ get_or text 1 0 - 48)
    → Some (tens * 10 + ones) ≡ when_at_most (2 ^ 64 - 1) (number_value text)
two_digits [] tens ones long t o = absurd (omega (arith, long))
two_digits (a ∷ []) tens ones long t o = absurd (omega (arith, long))
two_digits (a ∷ b ∷ []) tens ones long (t, ten) (o, one) = rw (ten, one) (pair_within (2 ^ 64 - 1) a b t o (omega (arith, few, low)))
  where
    few : a - 48 ≤ 9
    few = small a t

    low : b - 48 ≤ 9
    low = small b o
two_digits (a ∷ b ∷ c ∷ rest) tens ones long t o = absurd (omega (arith, long))

-- Amounts by their parts.
use Rattle.std.proofs.Common.{◌≡◌, ℕ, ◌+◌, ◌-◌, ◌*◌, ◌^◌, ◌<◌, ◌≤◌, List, [], ◌∷◌, Bool, true, false, zero, suc, length, take, drop, Option, None, Some, ◌&&◌, ◌∙◌, refl, sym, ap, ⊎_elim, arith, nat_lt}
use Rattle.std.specs.Prelude.{nat_le, ◌==◌, min, pos, neg_ℤ, option_map}
use Rattle.std.specs.Char.{is_ascii_digit}
use Rattle.std.specs.List.{list_all}
use Rattle.std.specs.Str.{all_ascii_digits}
use Rattle.std.specs.Str.Parse.{digits_value}
use Rattle.std.proofs.Math.Nat.{le-mul_of_pos_right}
use Rattle.std.proofs.lemmas.Bool.{cases_lt}
use Rattle.std.proofs.lemmas.List.{length-take-le}
use Rattle.std.proofs.lemmas.Bool.Decides.{nat_tests}
use Rattle.std.proofs.lemmas.Str.Parse.{digits_value_short, numerals_by_value, tells_all_ascii_digits}
use Rattle.plain_laws.specs.Plain.{when}
use Rattle.feed_rows.specs.Numerals.{number_value, when_at_most}
use Rattle.feed_faults.specs.FieldGrammars.{fraction_value, minor_units, if_between, most_amount}
use Rattle.feed_text.proofs.DigitLaws.{bounded_none}

-- digits are what pass the test of a digit
pub digits_pass : (bs : List ℕ) → list_all is_ascii_digit bs ≡ all_ascii_digits bs
digits_pass [] = refl
digits_pass (b ∷ bs) = ap (λ (x : Bool). is_ascii_digit b && x) (digits_pass bs)

-- one to three digits are a number of at most 999
pub three_digits : (bs : List ℕ) → list_all is_ascii_digit bs ≡ true → 1 ≤ length bs → length bs ≤ 3
    → when_at_most 999 (number_value bs) ≡ Some (digits_value 10 bs)
unfolding number_value
three_digits bs d some few =
    let all : all_ascii_digits bs ≡ true = rw (← digits_pass bs) d in
    let small : digits_value 10 bs < 10 ^ 3 = digits_value_short (numerals_by_value (λ ds. all_ascii_digits ds ≡ true) tells_all_ascii_digits) bs 3 all few in
    let filled : nat_lt 0 (length bs) ≡ true = grind (arith, nat_tests, some) in
    let fits : nat_le (digits_value 10 bs) 999 ≡ true = grind (arith, nat_tests, small) in
    rw (all, filled, fits) refl

-- all of a short text are kept, and nothing is left of it
pub kept_all : (bs : List ℕ) (n : ℕ) → length bs ≤ n → (take n bs ≡ bs) × (drop n bs ≡ [])
kept_all [] zero le = (refl, refl)
kept_all [] (suc n) le = (refl, refl)
kept_all (b ∷ bs) zero le = absurd (omega (arith, le))
kept_all (b ∷ bs) (suc n) le = let rest = kept_all bs n (omega (arith, le)) in (rw rest.0 refl, rest.1)

both : (x y : Bool) → (x && y) ≡ true → (x ≡ true) × (y ≡ true)
both true y e = (refl, e)
both false y e = absurd (cc)

zeros_pass : (bs : List ℕ) → list_all (λ c. c == 48) bs ≡ true → all_ascii_digits bs ≡ true
zeros_pass [] z = refl
zeros_pass (b ∷ bs) z =
    let parts = both (b == 48) (list_all (λ c. c == 48) bs) z in
    let digit : is_ascii_digit b ≡ true = grind (arith, nat_tests, parts.0) in
    rw (digit, zeros_pass bs parts.1) refl

-- where zeros stand behind the first of several bytes, all are digits where the first are
digits_then_zeros : (bs : List ℕ) (n : ℕ) → list_all (λ c. c == 48) (drop n bs) ≡ true → all_ascii_digits bs ≡ all_ascii_digits (take n bs)
digits_then_zeros bs zero z = zeros_pass bs z
digits_then_zeros [] (suc n) z = refl
digits_then_zeros (b ∷ bs) (suc n) z = ap (λ (x : Bool). is_ascii_digit b && x) (digits_then_zeros bs n z)

-- the digits behind a point, where so many of them count
module _ (digits : List ℕ) (decimals places : ℕ) (are : places ≡ min (length digits) decimals) where
  same_parts : (take places digits ≡ take decimals digits) × (drop places digits ≡ drop decimals digits)
  same_parts = ⊎_elim longer short (cases_lt decimals (length digits))
    where
      longer : decimals < length digits → (take places digits ≡ take decimals digits) × (drop places digits ≡ drop decimals digits)
      longer lt = let e : places ≡ decimals = omega (arith, are, lt) in (ap (λ n. take n digits) e, ap (λ n. drop n digits) e)

      short : length digits ≤ decimals → (take places digits ≡ take decimals digits) × (drop places digits ≡ drop decimals digits)
      short le =
          let some = kept_all digits places (omega (arith, are, le)) in
          let all = kept_all digits decimals le in
          (some.0 ∙ sym all.0, some.1 ∙ sym all.1)

  fraction_is : (zeros : Bool) → list_all (λ c. c == 48) (drop places digits) ≡ zeros → 1 ≤ length digits
      → fraction_value decimals digits ≡ when (all_ascii_digits digits && zeros) (digits_value 10 (take places digits) * 10 ^ (decimals - places))
  unfolding fraction_value
  fraction_is zeros e some =
      let filled : nat_le 1 (length digits) ≡ true = grind (arith, nat_tests, some) in
      let missing : decimals - length digits ≡ decimals - places = omega (arith, are) in
      rw (filled, missing, ← same_parts.0, ← same_parts.1, e) refl

  pub not_zeros : list_all (λ c. c == 48) (drop places digits) ≡ false → 1 ≤ length digits → fraction_value decimals digits ≡ None
  not_zeros fail some = fraction_is false fail some ∙ never (all_ascii_digits digits)
    where
      never : (b : Bool) → when (b && false) (digits_value 10 (take places digits) * 10 ^ (decimals - places)) ≡ None
      never true = refl
      never false = refl

  pub all_zeros : list_all (λ c. c == 48) (drop places digits) ≡ true → 1 ≤ length digits → places ≡ 0 → fraction_value decimals digits ≡ Some 0
  all_zeros zeros some none =
      let all : all_ascii_digits digits ≡ true = digits_then_zeros digits places zeros ∙ ap (λ n. all_ascii_digits (take n digits)) none in
      let nothing : digits_value 10 (take places digits) * 10 ^ (decimals - places) ≡ 0 = rw none (omega arith) in
      fraction_is true zeros some ∙ rw (all, nothing) refl

  module _ (few : decimals ≤ 3) (zeros : list_all (λ c. c == 48) (drop places digits) ≡ true) (some : 1 ≤ length digits) (counted : 1 ≤ places) where
    within : length (take places digits) ≡ places
    within = length-take-le places digits (omega (arith, are))

    told : (b : Bool) → all_ascii_digits (take places digits) ≡ b → (o : Option ℕ) → o ≡ when_at_most 999 (number_value (take places digits))
        → fraction_value decimals digits ≡ option_map (λ v. v * 10 ^ (decimals - places)) o
    unfolding number_value
    told true all o is =
        let pass = digits_pass (take places digits) ∙ all in
        let value = three_digits (take places digits) pass (omega (arith, within, counted)) (omega (arith, within, are, few)) in
        fraction_is true zeros some ∙ rw (digits_then_zeros digits places zeros, all, is, value) refl
    told false all o is = fraction_is true zeros some ∙ rw (digits_then_zeros digits places zeros, all, is, all) refl

    pub fraction_of_number : (o : Option ℕ) → o ≡ when_at_most 999 (number_value (take places digits)) → fraction_value decimals digits ≡ option_map (λ v. v * 10 ^ (decimals - places)) o
    fraction_of_number o is = told (all_ascii_digits (take places digits)) refl o is

pub no_digits : (decimals : ℕ) (digits : List ℕ) → length digits ≡ 0 → fraction_value decimals digits ≡ None
unfolding fraction_value
no_digits decimals [] e = refl
no_digits decimals (b ∷ bs) e = absurd (omega (arith, e))

tens : (d : ℕ) → d ≤ 3 → 1 ≤ 10 ^ d
tens zero le = omega arith
tens (suc zero) le = omega arith
tens (suc (suc zero)) le = omega arith
tens (suc (suc (suc zero))) le = omega arith
tens (suc (suc (suc (suc d)))) le = absurd (omega (arith, le))

-- at most a thousand minor units make a whole one
pub few_units : (d : ℕ) → d ≤ 3 → 10 ^ d ≤ 1000
few_units zero le = omega arith
few_units (suc zero) le = omega arith
few_units (suc (suc zero)) le = omega arith
few_units (suc (suc (suc zero))) le = omega arith
few_units (suc (suc (suc (suc d)))) le = absurd (omega (arith, le))

-- a number of whole units past 2^64 is too great an amount
pub too_many_units : (d f : ℕ) (n : Option ℕ) → d ≤ 3 → None ≡ when_at_most (2 ^ 64 - 1) n
    → None ≡ when_at_most 1000000000000 (minor_units d n (Some f))
too_many_units d f None le e = refl
too_many_units d f (Some w) le e =
    let great = bounded_none w (2 ^ 64 - 1) e in
    let more : w ≤ w * 10 ^ d = le-mul_of_pos_right w (tens d le) in
    let no : nat_le (w * 10 ^ d + f) 1000000000000 ≡ false = grind (arith, nat_tests, great, more) in
    rw no refl

-- without a fraction there is no amount
pub no_fraction : (d : ℕ) (n : Option ℕ) → minor_units d n None ≡ None
no_fraction d None = refl
no_fraction d (Some w) = refl

chosen : {X : Type 0} (f : ℕ → X) (n : ℕ) (b : Bool) → when b (f n) ≡ option_map f (when b n)
chosen f n true = refl
chosen f n false = refl

one_less : (n : ℕ) (b : Bool) → nat_le (suc n) 1000000000000 ≡ b → nat_le n 999999999999 && true ≡ b
one_less n true e = let yes : nat_le n 999999999999 ≡ true = grind (arith, nat_tests, e) in rw yes refl
one_less n false e = let no : nat_le n 999999999999 ≡ false = grind (arith, nat_tests, e) in rw no refl

-- what is at most 10^12 lies between its opposite and itself, with either sign
pub positive_between : (o : Option ℕ) → if_between (neg_ℤ most_amount) most_amount (option_map pos o) ≡ option_map pos (when_at_most 1000000000000 o)
positive_between None = refl
positive_between (Some n) = chosen pos n (nat_le n 1000000000000)

pub negative_between : (o : Option ℕ)
    → if_between (neg_ℤ most_amount) most_amount (option_map (λ n. neg_ℤ (pos n)) o) ≡ option_map (λ n. neg_ℤ (pos n)) (when_at_most 1000000000000 o)
negative_between None = refl
negative_between (Some zero) = refl
negative_between (Some (suc n)) =
    rw (one_less n (nat_le (suc n) 1000000000000) refl) (chosen (λ m. neg_ℤ (pos m)) (suc n) (nat_le (suc n) 1000000000000))

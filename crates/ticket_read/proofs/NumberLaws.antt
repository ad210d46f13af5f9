-- Numbers, dates and times are read back from their texts.
use Rattle.std.proofs.Common.{◌≡◌, refl, sym, ◌∙◌, ap, subst, ℕ, ◌+◌, ◌*◌, ◌/◌, ◌%◌, ◌^◌, ◌<◌, ◌≤◌, Bool, true, false, ◌&&◌, List, [], ◌∷◌, ◌++◌, length, arith, w64, to_z, of_z}
use Rattle.std.specs.Prelude.{Some, nat_lt, nat_le, IsTrue, ℤ, pos, negsuc, slice_range, decimal, int_le, unsigned_abs}
use Rattle.std.specs.Char.{is_ascii_digit}
use Rattle.std.specs.Str.{all_ascii_digits}
use Rattle.std.specs.Str.Parse.{digits_value}
use Rattle.std.proofs.lemmas.Bool.{and_parts}
use Rattle.jiff_core.specs.Calendar.{days_in_month}
use Rattle.jiff_core.proofs.CalendarLemmas.{days_in_month_bounds}
use Rattle.std.proofs.lemmas.Bool.Decides.{nat_tests}
use Rattle.std.proofs.lemmas.Fmt.{digits_decimal, digits_value-decimal, decimal_nonempty}
use Rattle.std.proofs.lemmas.Int.Digits.{digits_value_push}
use Rattle.std.proofs.lemmas.Str.{digit_value_digit}
use Rattle.std.proofs.lemmas.Str.Parse.{IsNumeralModel, numerals_by_value, tells_all_ascii_digits}
use Rattle.transit_base.specs.Dates.{CivilDate, date_of, is_date, is_dated}
use Rattle.transit_base.specs.DateTexts.{digit, two_digits, date_text, clock_text, time_text}
use Rattle.transit_base.specs.Limits.{most_time}
use Rattle.transit_base.proofs.DateLemmas.{day_number-date_of, is_date-date_of}
use Rattle.feed_rows.specs.Numerals.{number_value, when_at_most}
use Rattle.feed_rows.specs.TimeGrammar.{time_value, clock_seconds}
use Rattle.feed_rows.specs.WordValues.{day_value}
use Rattle.feed_faults.specs.FieldGrammars.{int_value, signed_value}
use Rattle.plain_laws.specs.Plain.{when}
use Rattle.plain_laws.proofs.Laws.{int_le-true}
use Rattle.std.proofs.lemmas.Int.{ints, to_z-of_z}
use Rattle.std.proofs.lemmas.Option.{option_and_then_some, cond_some}

-- these digits write this number
record AreDigits (text : List ℕ) (n : ℕ) : Type 0 where
  all : all_ascii_digits text ≡ true
  value : digits_value 10 text ≡ n

no_digit : AreDigits [] 0
no_digit = record { all = refl; value = refl }

digit_test : (d : ℕ) → d < 10 → is_ascii_digit (48 + d) ≡ true
digit_test d small = grind (arith, nat_tests)

and_true : (a b : Bool) → a ≡ true → b ≡ true → (a && b) ≡ true
and_true a b e f = rw (e, f) refl

all_digits-push : (text : List ℕ) (c : ℕ) → all_ascii_digits text ≡ true → is_ascii_digit c ≡ true → all_ascii_digits (text ++ c ∷ []) ≡ true
all_digits-push [] c all one = and_true (is_ascii_digit c) true one refl
all_digits-push (b ∷ bs) c all one =
    let parts = and_parts (is_ascii_digit b) (all_ascii_digits bs) all in
    and_true (is_ascii_digit b) (all_ascii_digits (bs ++ c ∷ [])) parts.0 (all_digits-push bs c parts.1 one)

one_digit : (text : List ℕ) (n d m : ℕ) → AreDigits text n → d < 10 → m ≡ n * 10 + d → AreDigits (text ++ digit d ∷ []) m
one_digit text n d m are small e =
    let value = digit_value_digit (48 + d) (omega arith, omega arith) in
    record {
      all = all_digits-push text (digit d) are.all (digit_test d small);
      value = digits_value_push 10 text (digit d) ∙ (let before = are.value in omega (arith, before, value, e));
    }

number_is : (text : List ℕ) (n : ℕ) → AreDigits text n → 0 < length text → number_value text ≡ Some n
unfolding number_value
number_is text n are some =
    let test : nat_lt 0 (length text) ≡ true = grind (arith, nat_tests) in
    rw (are.all, test, are.value) refl

first_digit : (d : ℕ) → d < 10 → AreDigits (digit d ∷ []) d
first_digit d small = one_digit [] 0 d d no_digit small (omega arith)

two : (n : ℕ) → n < 100 → AreDigits (two_digits n) n
two n small = one_digit (digit (n / 10) ∷ []) (n / 10) (n % 10) n (first_digit (n / 10) (omega arith)) (omega arith) (omega arith)

three : (n : ℕ) → n < 1000 → AreDigits (digit (n / 100) ∷ two_digits (n % 100)) n
three n small =
    let second = one_digit (digit (n / 100) ∷ []) (n / 100) (n % 100 / 10) (n / 10) (first_digit (n / 100) (omega arith)) (omega arith) (omega arith) in
    one_digit (digit (n / 100) ∷ digit (n % 100 / 10) ∷ []) (n / 10) (n % 100 % 10) n second (omega arith) (omega arith)

four : (n : ℕ) → n < 10000 → AreDigits (two_digits (n / 100) ++ two_digits (n % 100)) n
four n small =
    let front = two (n / 100) (omega arith) in
    let third = one_digit (two_digits (n / 100)) (n / 100) (n % 100 / 10) (n / 10) front (omega arith) (omega arith) in
    one_digit (two_digits (n / 100) ++ digit (n % 100 / 10) ∷ []) (n / 10) (n % 100 % 10) n third (omega arith) (omega arith)

pub own : IsNumeralModel (λ ds. all_ascii_digits ds ≡ true) (digits_value 10)
own = numerals_by_value (λ ds. all_ascii_digits ds ≡ true) tells_all_ascii_digits

-- a number is read from its digits
pub number_value-decimal : (n : ℕ) → n < 2 ^ 64 → number_value (decimal n) ≡ Some n
number_value-decimal n small =
    number_is (decimal n) n (record { all = digits_decimal own n small; value = digits_value-decimal own n small }) (decimal_nonempty n small)

-- ---- dates

record IsSmallDate (date : CivilDate) : Type 0 where
  year : date.year < 10000
  month : date.month < 100
  day : date.day < 100

small_date : (date : CivilDate) → IsTrue (is_date date.year date.month date.day) → IsSmallDate date
small_date date exists =
    let most = (days_in_month_bounds (pos date.year) date.month).0 in
    let parts = bounds date.year date.month date.day (days_in_month (pos date.year) date.month) exists in
    record { year = omega (arith, parts.0); month = omega (arith, parts.1); day = omega (arith, parts.2, most) }
  where
    bounds : (year month day limit : ℕ) → IsTrue (nat_le 1 year && nat_le year 9999 && nat_le 1 month && nat_le month 12 && nat_le 1 day && nat_le day limit)
        → (year ≤ 9999) × (month ≤ 12) × (day ≤ limit)
    bounds year month day limit exists = grind (arith, nat_tests)

-- a day is read from its date
pub day_value-date_text : (day : ℤ) → IsTrue (is_dated day) →
    (length (date_text day) ≡ 10)
    × (day_value (number_value (slice_range (date_text day) 0 4)) (number_value (slice_range (date_text day) 5 7)) (number_value (slice_range (date_text day) 8 10)) ≡ Some day)
unfolding date_text
day_value-date_text day dated = rw dated (refl, by)
  where
    date : CivilDate
    date = date_of day

    small : IsSmallDate date
    small = small_date date (is_date-date_of day dated)

    exists : is_date date.year date.month date.day ≡ true
    exists = is_date-date_of day dated

    year : number_value (two_digits (date.year / 100) ++ two_digits (date.year % 100)) ≡ Some date.year
    year = number_is _ date.year (four date.year small.year) (omega arith)

    month : number_value (two_digits date.month) ≡ Some date.month
    month = number_is _ date.month (two date.month small.month) (omega arith)

    day_of_month : number_value (two_digits date.day) ≡ Some date.day
    day_of_month = number_is _ date.day (two date.day small.day) (omega arith)

    by : day_value (number_value (two_digits (date.year / 100) ++ two_digits (date.year % 100))) (number_value (two_digits date.month)) (number_value (two_digits date.day)) ≡ Some day
    by = rw (year, month, day_of_month, exists) (ap Some (day_number-date_of day dated))

-- ---- times

at_most : (most n : ℕ) → n ≤ most → when_at_most most (Some n) ≡ Some n
at_most most n le = let test : nat_le n most ≡ true = grind (arith, nat_tests) in rw test refl

-- the parts of a time, put together
parts_of_time : (hours minutes seconds : List ℕ) (h m s total : ℕ) → number_value hours ≡ Some h → number_value minutes ≡ Some m → number_value seconds ≡ Some s
    → h ≤ 167 → m ≤ 59 → s ≤ 59 → 3600 * h + 60 * m + s ≡ total → total ≤ most_time
    → when_at_most most_time (clock_seconds (when_at_most 167 (number_value hours)) (when_at_most 59 (number_value minutes)) (when_at_most 59 (number_value seconds))) ≡ Some total
parts_of_time hours minutes seconds h m s total hs ms ss hl ml sl e le =
    rw (hs, ms, ss, at_most 167 h hl, at_most 59 m ml, at_most 59 s sl, e) (at_most most_time total le)

-- a time is read from its text
pub time_value-time_text : (seconds : ℕ) → seconds ≤ most_time → time_value most_time (time_text seconds) ≡ Some seconds
unfolding time_text time_value
time_value-time_text seconds le =
    let timed : nat_le seconds most_time ≡ true = grind (arith, nat_tests) in
    rw timed (step (nat_lt (seconds / 3600) 100) refl)
  where
    minutes : number_value (two_digits (seconds / 60 % 60)) ≡ Some (seconds / 60 % 60)
    minutes = number_is _ (seconds / 60 % 60) (two (seconds / 60 % 60) (omega arith)) (omega arith)

    rest : number_value (two_digits (seconds % 60)) ≡ Some (seconds % 60)
    rest = number_is _ (seconds % 60) (two (seconds % 60) (omega arith)) (omega arith)

    step : (b : Bool) → nat_lt (seconds / 3600) 100 ≡ b → time_value most_time (clock_text seconds) ≡ Some seconds
    step true short =
        let small : seconds / 3600 < 100 = grind (arith, nat_tests) in
        let hours = number_is (two_digits (seconds / 3600)) (seconds / 3600) (two (seconds / 3600) small) (omega arith) in
        rw short (parts_of_time (two_digits (seconds / 3600)) (two_digits (seconds / 60 % 60)) (two_digits (seconds % 60))
        (seconds / 3600) (seconds / 60 % 60) (seconds % 60) seconds hours minutes rest (omega arith) (omega arith) (omega arith) (omega arith) le)
    step false long =
        let hours = number_is (digit (seconds / 3600 / 100) ∷ two_digits (seconds / 3600 % 100)) (seconds / 3600) (three (seconds / 3600) (omega arith)) (omega arith) in
        rw long (parts_of_time (digit (seconds / 3600 / 100) ∷ two_digits (seconds / 3600 % 100)) (two_digits (seconds / 60 % 60)) (two_digits (seconds % 60))
        (seconds / 3600) (seconds / 60 % 60) (seconds % 60) seconds hours minutes rest (omega arith) (omega arith) (omega arith) (omega arith) le)

-- ---- integers

-- an integer from 0 on, as a number
pub number_told : (text : List ℕ) (z : ℤ) → Some z ≡ int_value (pos 0) (pos 4_294_967_295) text → (z ≡ pos (unsigned_abs z)) × (unsigned_abs z ≤ 4_294_967_295)
unfolding int_value
number_told text z e =
    option_and_then_some (λ y. when (int_le (pos 0) y && int_le y (pos 4_294_967_295)) y) (signed_value number_value text) z (sym e) (λ y _ is.
    let both = cond_some (int_le (pos 0) y && int_le y (pos 4_294_967_295)) y z is in
    subst (λ x. (x ≡ pos (unsigned_abs x)) × (unsigned_abs x ≤ 4_294_967_295)) both.1 (bounds y both.0))
  where
    bounds : (y : ℤ) → (int_le (pos 0) y && int_le y (pos 4_294_967_295)) ≡ true → (y ≡ pos (unsigned_abs y)) × (unsigned_abs y ≤ 4_294_967_295)
    bounds (pos n) h =
        let parts = and_parts (int_le (pos 0) (pos n)) (int_le (pos n) (pos 4_294_967_295)) h in
        let high = int_le-true (pos n) (pos 4_294_967_295) parts.1 in
        (refl, omega (arith, ints, high))
    bounds (negsuc n) h =
        let parts = and_parts (int_le (pos 0) (negsuc n)) (int_le (negsuc n) (pos 4_294_967_295)) h in
        let low = int_le-true (pos 0) (negsuc n) parts.0 in
        absurd (omega (arith, ints, low))

-- a number of 32 bits is itself as one of 64 bits with a sign
pub wide : (n : ℕ) (z : ℤ) → n ≤ 4_294_967_295 → z ≡ pos n → to_z w64 (of_z w64 z) ≡ pos n
wide n z small is = rw is (to_z-of_z w64 (pos n) (grind (arith, ints, small)))

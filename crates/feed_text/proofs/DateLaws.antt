-- Dates by their parts.
use Rattle.std.proofs.Common.{◌≡◌, ℕ, List, [], ◌∷◌, ◌++◌, Bool, true, false, length, take, drop, Option, None, Some, ◌&&◌, refl, arith, ◌≢◌, nat_lt}
use Rattle.std.specs.Prelude.{nat_le, slice_range, ◌==◌, pos}
use Rattle.std.specs.Char.{is_ascii_digit}
use Rattle.std.specs.Str.{all_ascii_digits}
use Rattle.std.specs.Str.Parse.{digits_value}
use Rattle.std.proofs.lemmas.Bool.Decides.{nat_tests}
use Rattle.jiff_core.specs.Calendar.{days_in_month}
use Rattle.jiff_core.proofs.CalendarLemmas.{days_in_month_bounds}
use Rattle.transit_base.specs.Dates.{is_date, day_number}
use Rattle.plain_laws.specs.Plain.{when}
use Rattle.feed_rows.specs.Numerals.{number_value, when_at_most}
use Rattle.feed_rows.specs.WordValues.{day_value}
use Rattle.feed_faults.specs.FieldGrammars.{date_value}

assoc : (a b c : Bool) → a && (b && c) ≡ (a && b) && c
assoc true b c = refl
assoc false b c = refl

all_append : (xs ys : List ℕ) → all_ascii_digits (xs ++ ys) ≡ all_ascii_digits xs && all_ascii_digits ys
all_append [] ys = refl
all_append (x ∷ xs) ys =
    rw (all_append xs ys) (assoc (is_ascii_digit x) (all_ascii_digits xs) (all_ascii_digits ys))

and_false : (a : Bool) → a && false ≡ false
and_false true = refl
and_false false = refl

no_year : (y m d : ℕ) → nat_le y 9999 ≡ false → is_date y m d ≡ false
no_year y m d e = rw (e, and_false (nat_le 1 y)) refl

no_month : (y m d : ℕ) → nat_le m 12 ≡ false → is_date y m d ≡ false
no_month y m d e = rw (e, and_false (nat_le 1 y && nat_le y 9999 && nat_le 1 m)) refl

no_day : (y m d : ℕ) → nat_le d 31 ≡ false → is_date y m d ≡ false
no_day y m d e =
    let bound = (days_in_month_bounds (pos y) m).0 in
    let past : nat_le d (days_in_month (pos y) m) ≡ false = grind (arith, nat_tests, e, bound) in
    rw past (and_false (nat_le 1 y && nat_le y 9999 && nat_le 1 m && nat_le m 12 && nat_le 1 d))

fitting : (n most : ℕ) → nat_le n most ≡ true → when_at_most most (Some n) ≡ Some n
fitting n most e = rw e refl

with_day : (y m d : ℕ) (fits : Bool) → nat_le d 31 ≡ fits → day_value (Some y) (Some m) (Some d) ≡ day_value (Some y) (Some m) (when_at_most 31 (Some d))
with_day y m d true e = rw (fitting d 31 e) refl
with_day y m d false e = rw (no_day y m d e, e) refl

with_month : (y m d : ℕ) (fits : Bool) → nat_le m 12 ≡ fits → day_value (Some y) (Some m) (Some d) ≡ day_value (Some y) (when_at_most 12 (Some m)) (when_at_most 31 (Some d))
with_month y m d true e = rw (fitting m 12 e) (with_day y m d (nat_le d 31) refl)
with_month y m d false e = rw (no_month y m d e, e) refl

with_year : (y m d : ℕ) (fits : Bool) → nat_le y 9999 ≡ fits
    → day_value (Some y) (Some m) (Some d) ≡ day_value (when_at_most 9999 (Some y)) (when_at_most 12 (Some m)) (when_at_most 31 (Some d))
with_year y m d true e = rw (fitting y 9999 e) (with_month y m d (nat_le m 12) refl)
with_year y m d false e = rw (no_year y m d e, e) refl

no_day_text : (y m : Option ℕ) → day_value y m None ≡ None
no_day_text None m = refl
no_day_text (Some y) None = refl
no_day_text (Some y) (Some m) = refl

no_month_text : (y d : Option ℕ) → day_value y None d ≡ None
no_month_text None d = refl
no_month_text (Some y) d = refl

-- numbers past those of any date name no day
pub day_bounded : (y m d : Option ℕ) → day_value y m d ≡ day_value (when_at_most 9999 y) (when_at_most 12 m) (when_at_most 31 d)
day_bounded None m d = refl
day_bounded (Some y) None d = rw (no_month_text (when_at_most 9999 (Some y)) (when_at_most 31 d)) refl
day_bounded (Some y) (Some m) None = rw (no_day_text (when_at_most 9999 (Some y)) (when_at_most 12 (Some m))) refl
day_bounded (Some y) (Some m) (Some d) = with_year y m d (nat_le y 9999) refl

by_digits : (y m d : ℕ) (a b c : Bool) → when ((a && (b && c)) && is_date y m d) (day_number y m d) ≡ day_value (when a y) (when b m) (when c d)
by_digits y m d false b c = refl
by_digits y m d true false c = refl
by_digits y m d true true false = refl
by_digits y m d true true true = refl

and_true : (a : Bool) → a && true ≡ a
and_true true = refl
and_true false = refl

filled : (b : ℕ) (bs : List ℕ) → number_value (b ∷ bs) ≡ when (all_ascii_digits (b ∷ bs)) (digits_value 10 (b ∷ bs))
unfolding number_value
filled b bs = let some : nat_lt 0 (length (b ∷ bs)) ≡ true = grind (arith, nat_tests) in rw (some, and_true (all_ascii_digits (b ∷ bs))) refl

eight : (a b c d e f g h : ℕ) → let text : List ℕ = a ∷ b ∷ c ∷ d ∷ e ∷ f ∷ g ∷ h ∷ [] in
    date_value text ≡ day_value (number_value (take 4 text)) (number_value (slice_range text 4 6)) (number_value (drop 6 text))
unfolding date_value
eight a b c d e f g h =
    rw (filled a (b ∷ c ∷ d ∷ []), filled e (f ∷ []), filled g (h ∷ []), all_append (a ∷ b ∷ c ∷ d ∷ []) (e ∷ f ∷ g ∷ h ∷ []), all_append (e ∷ f ∷ []) (g ∷ h ∷ []))
    (by_digits (digits_value 10 (a ∷ b ∷ c ∷ d ∷ [])) (digits_value 10 (e ∷ f ∷ [])) (digits_value 10 (g ∷ h ∷ [])) (all_ascii_digits (a ∷ b ∷ c ∷ d ∷ [])) (all_ascii_digits (e ∷ f ∷ [])) (all_ascii_digits (g ∷ h ∷ [])))

-- eight bytes are a date where their parts are
pub date_by_parts : (text : List ℕ) → length text ≡ 8
    → date_value text ≡ day_value (number_value (take 4 text)) (number_value (slice_range text 4 6)) (number_value (drop 6 text))
date_by_parts (a ∷ b ∷ c ∷ d ∷ e ∷ f ∷ g ∷ h ∷ []) l = eight a b c d e f g h
date_by_parts [] l = absurd (omega (arith, l))
date_by_parts (a ∷ []) l = absurd (omega (arith, l))
date_by_parts (a ∷ b ∷ []) l = absurd (omega (arith, l))
date_by_parts (a ∷ b ∷ c ∷ []) l = absurd (omega (arith, l))
date_by_parts (a ∷ b ∷ c ∷ d ∷ []) l = absurd (omega (arith, l))
date_by_parts (a ∷ b ∷ c ∷ d ∷ e ∷ []) l = absurd (omega (arith, l))
date_by_parts (a ∷ b ∷ c ∷ d ∷ e ∷ f ∷ []) l = absurd (omega (arith, l))
date_by_parts (a ∷ b ∷ c ∷ d ∷ e ∷ f ∷ g ∷ []) l = absurd (omega (arith, l))
date_by_parts (a ∷ b ∷ c ∷ d ∷ e ∷ f ∷ g ∷ h ∷ i ∷ more) l = absurd (omega (arith, l))

-- any other number of bytes is none
pub no_date : (text : List ℕ) → length text ≢ 8 → date_value text ≡ None
unfolding date_value
no_date text other = let e : (length text == 8) ≡ false = grind (arith, nat_tests, other) in rw e refl

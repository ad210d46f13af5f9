-- Texts without tabs and line feeds: what the fields of lines are made of.
use Rattle.std.proofs.Common.{◌≡◌, refl, ◌∙◌, ℕ, zero, suc, ◌+◌, ◌/◌, ◌%◌, Bool, true, false, ◌||◌, ◌==◌, List, [], ◌∷◌, ◌++◌, arith}
use Rattle.std.specs.Prelude.{if◌then◌else◌, nat_lt, nat_le, ℤ, pos, negsuc, unsigned_abs}
use Rattle.std.specs.List.{list_any}
use Rattle.std.specs.Fmt.{digits_onto, digit_glyph, digits, decimal}
use Rattle.std.proofs.lemmas.Bool.{ne_eqb}
use Rattle.std.proofs.lemmas.List.Folds.{list_any-append, list_any_none}
use Rattle.transit_base.specs.Dates.{CivilDate, date_of, is_dated}
use Rattle.transit_base.specs.DateTexts.{two_digits, hours_text, civil_text, date_text, clock_text, time_text, moment_text}
use Rattle.transit_base.specs.Moments.{civil_day, time_of_day}
use Rattle.transit_base.specs.Limits.{most_time}
use Rattle.feed_rows.specs.MoneyText.{sign_text, units_of_whole, decimals_text, money_text}
use Rattle.feed_rows.specs.SoundNames.{IsIdText}

-- a tab or a line feed
abbrev pub is_end : ℕ → Bool
is_end b = (b == 9) || (b == 10)

-- neither stands in the text
pub record IsPlain (text : List ℕ) : Type 0 where
  pub none : list_any is_end text ≡ false

-- and none in any of these
abbrev pub ArePlain : List (List ℕ) → Type 0
ArePlain [] = Unit {0}
ArePlain (text ∷ texts) = IsPlain text × ArePlain texts

or_both : (a b : Bool) → a ≡ false → b ≡ false → (a || b) ≡ false
or_both a b e f = rw (e, f) refl

pub plain_empty : IsPlain []
plain_empty = record { none = refl }

pub plain_append : {xs ys : List ℕ} → IsPlain xs → IsPlain ys → IsPlain (xs ++ ys)
plain_append {xs = xs} {ys = ys} one other =
    record { none = list_any-append is_end xs ys ∙ or_both (list_any is_end xs) (list_any is_end ys) one.none other.none }

pub plain_cons : {b : ℕ} {ys : List ℕ} → is_end b ≡ false → IsPlain ys → IsPlain (b ∷ ys)
plain_cons {b = b} {ys = ys} one other = record { none = or_both (is_end b) (list_any is_end ys) one other.none }

-- a digit, or whatever stands past it
pub digit_is_no_end : (n : ℕ) → is_end (48 + n) ≡ false
digit_is_no_end n = or_both (48 + n == 9) (48 + n == 10) (ne_eqb (48 + n) 9 (λ e. omega arith)) (ne_eqb (48 + n) 10 (λ e. omega arith))

pub two_digits_plain : (n : ℕ) → IsPlain (two_digits n)
two_digits_plain n = plain_cons (digit_is_no_end (n / 10)) (plain_cons (digit_is_no_end (n % 10)) plain_empty)

glyph_is_no_end : (upper : Bool) (d : ℕ) → is_end (digit_glyph upper d) ≡ false
glyph_is_no_end upper d = by (nat_lt d 10) upper
  where
    letter : (n : ℕ) → is_end (55 + n) ≡ false
    letter n = or_both (55 + n == 9) (55 + n == 10) (ne_eqb (55 + n) 9 (λ e. omega arith)) (ne_eqb (55 + n) 10 (λ e. omega arith))

    small : (n : ℕ) → is_end (87 + n) ≡ false
    small n = or_both (87 + n == 9) (87 + n == 10) (ne_eqb (87 + n) 9 (λ e. omega arith)) (ne_eqb (87 + n) 10 (λ e. omega arith))

    by : (a b : Bool) → is_end (if a then 48 + d else if b then 55 + d else 87 + d) ≡ false
    by true b = digit_is_no_end d
    by false true = letter d
    by false false = small d

either_plain : (b : Bool) {xs ys : List ℕ} → IsPlain xs → IsPlain ys → IsPlain (if b then xs else ys)
either_plain true p q = p
either_plain false p q = q

digits_onto_plain : (k base : ℕ) (upper : Bool) (n : ℕ) (acc : List ℕ) → IsPlain acc → IsPlain (digits_onto k base upper n acc)
digits_onto_plain zero base upper n acc plain = plain
digits_onto_plain (suc k) base upper n acc plain =
    let more = plain_cons (glyph_is_no_end upper (n % base)) plain in
    either_plain (n / base == 0) more (digits_onto_plain k base upper (n / base) _ more)

pub decimal_plain : (n : ℕ) → IsPlain (decimal n)
unfolding digits
decimal_plain n = digits_onto_plain 64 10 false n [] plain_empty

pub id_plain : (text : List ℕ) → IsIdText text → IsPlain text
id_plain text id =
    record { none = list_any_none is_end text (λ k d lt. let b = id.in_a_line k d lt in or_both _ _ (ne_eqb _ 9 b.0) (ne_eqb _ 10 b.1)) }

-- ---- dates and times

civil_plain : (date : CivilDate) → IsPlain (civil_text date)
civil_plain date =
    plain_append (two_digits_plain (date.year / 100))
    (plain_append (two_digits_plain (date.year % 100))
    (plain_cons refl (plain_append (two_digits_plain date.month) (plain_cons refl (two_digits_plain date.day)))))

pub date_plain : (day : ℤ) → IsPlain (date_text day)
unfolding date_text
date_plain day = either_plain (is_dated day) (civil_plain (date_of day)) plain_empty

hours_plain : (n : ℕ) → IsPlain (hours_text n)
hours_plain n = either_plain (nat_lt n 100) (two_digits_plain n) (plain_cons (digit_is_no_end (n / 100)) (two_digits_plain (n % 100)))

clock_plain : (seconds : ℕ) → IsPlain (clock_text seconds)
clock_plain seconds =
    plain_append (plain_append (hours_plain (seconds / 3600)) (plain_cons refl (two_digits_plain (seconds / 60 % 60))))
    (plain_cons refl (two_digits_plain (seconds % 60)))

pub time_plain : (seconds : ℕ) → IsPlain (time_text seconds)
unfolding time_text
time_plain seconds = either_plain (nat_le seconds most_time) (clock_plain seconds) plain_empty

pub moment_plain : (moment : ℤ) → IsPlain (moment_text moment)
moment_plain moment = plain_append (date_plain (civil_day moment)) (plain_cons refl (time_plain (time_of_day moment)))

-- ---- amounts

sign_plain : (amount : ℤ) → IsPlain (sign_text amount)
sign_plain (pos n) = plain_empty
sign_plain (negsuc n) = plain_cons refl plain_empty

decimals_plain : (decimals n : ℕ) → IsPlain (decimals_text decimals n)
decimals_plain decimals n =
    either_plain (decimals == 0) plain_empty
    (either_plain (decimals == 2) (plain_cons refl (two_digits_plain (n % 100)))
    (plain_cons refl (plain_cons (digit_is_no_end (n % 1000 / 100)) (two_digits_plain (n % 100)))))

pub money_plain : (decimals : ℕ) (amount : ℤ) → IsPlain (money_text decimals amount)
unfolding money_text
money_plain decimals amount =
    either_plain ((decimals == 0) || (decimals == 2) || (decimals == 3))
    (plain_append (plain_append (sign_plain amount) (decimal_plain (unsigned_abs amount / units_of_whole decimals)))
    (decimals_plain decimals (unsigned_abs amount)))
    plain_empty

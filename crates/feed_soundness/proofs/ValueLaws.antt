-- The values of fields that are of their grammars.
use Rattle.std.proofs.Common.{◌≡◌, refl, subst, ℕ, suc, ◌^◌, ◌≤◌, ◌⊎◌, inl, inr, Bool, true, false, List, [], ◌∷◌, length, All, arith}
use Rattle.std.specs.Prelude.{Option, Some, None, is_some, nat_le, not, ◌&&◌, ◌==◌, ◌≢◌, if◌then◌else◌, take, drop, slice_range, ℤ, pos, negsuc, int_le, nat_abs, neg_ℤ, unwrap_or, option_and_then}
use Rattle.std.specs.List.{list_any, list_all}
use Rattle.std.specs.Option.{ForSome}
use Rattle.std.specs.Str.{all_ascii_digits}
use Rattle.std.specs.Str.Parse.{digits_value}
use Rattle.std.proofs.lemmas.Bool.{and_parts, or_parts, not-true, leb-true, leb-false, eqb-true}
use Rattle.std.proofs.lemmas.Bool.Decides.{nat_tests}
use Rattle.std.proofs.lemmas.Int.{ints}
use Rattle.std.proofs.lemmas.List.Elements.{All-nil, All-cons}
use Rattle.std.proofs.lemmas.Option.{none-some, same_Some, cond_some}
use Rattle.transit_base.specs.Dates.{is_date, is_dated, day_number}
use Rattle.feed_laws.proofs.DateLaws.{is_dated-day_number}
use Rattle.feed_rows.specs.Numerals.{number_value}
use Rattle.feed_rows.specs.TimeGrammar.{time_value}
use Rattle.feed_faults.proofs.TimeLaws.{time_good}
use Rattle.plain_laws.specs.Plain.{when, int_same}
use Rattle.feed_rows.specs.SoundNames.{IsIdText}
use Rattle.feed_rows.specs.SoundTimetable.{IsCalendarDay}
use Rattle.feed_faults.specs.Records.{is_filled}
use Rattle.feed_faults.specs.FieldGrammars.{is_break, is_id, if_between, signed_value, int_value, most_int, count_value, date_value, is_capital, is_currency, is_among, unit_codes, whole_currencies, three_decimal_currencies, currency_decimals, amount_in, amount_value, unsigned_amount, most_amount}
use Rattle.feed_faults.specs.FieldValues.{nat_of, int_or_zero, time_or, day_or_zero, amount_or_zero}
use Rattle.feed_faults.specs.AcceptedFeed.{finite_count}
use Rattle.plain_laws.proofs.Laws.{some_value}

no_break : (c : ℕ) → is_break c ≡ false → (c ≢ 9) × (c ≢ 10) × (c ≢ 13)
no_break c e = (λ is. absurd (grind (arith, nat_tests)), λ is. absurd (grind (arith, nat_tests)), λ is. absurd (grind (arith, nat_tests)))

no_breaks : (text : List ℕ) → list_any is_break text ≡ false → All (λ b. (b ≢ 9) × (b ≢ 10) × (b ≢ 13)) text
no_breaks [] e = All-nil (λ (b : ℕ). (b ≢ 9) × (b ≢ 10) × (b ≢ 13))
no_breaks (c ∷ cs) e =
    let both = or_parts (is_break c) (list_any is_break cs) e in
    All-cons (λ (b : ℕ). (b ≢ 9) × (b ≢ 10) × (b ≢ 13)) c cs (no_break c both.0) (no_breaks cs both.1)

-- an id
pub id_text : (text : List ℕ) → is_id text ≡ true → IsIdText text
unfolding is_id
id_text text e =
    let one = and_parts (nat_le 1 (length text) && nat_le (length text) 255) (not (list_any is_break text)) e in
    let two = and_parts (nat_le 1 (length text)) (nat_le (length text) 255) one.0 in
    record {
      filled = leb-true 1 (length text) two.0;
      short = leb-true (length text) 255 two.1;
      in_a_line = no_breaks text (not-true (list_any is_break text) one.1);
    }

-- an integer that is read, in the limits of its grammar
pub record IsInt (least most number : ℕ) : Type 0 where
  pub low : least ≤ number
  pub high : number ≤ most

int_between : (least most : ℕ) (o : Option ℤ) → is_some (if_between (pos least) (pos most) o) ≡ true → IsInt least most (nat_of (if_between (pos least) (pos most) o))
int_between least most None e = absurd (cc)
int_between least most (Some (negsuc n)) e = absurd (cc)
int_between least most (Some (pos n)) e = step (nat_le least n) refl (nat_le n most) refl
  where
    step : (a : Bool) → nat_le least n ≡ a → (b : Bool) → nat_le n most ≡ b → IsInt least most (nat_of (if_between (pos least) (pos most) (Some (pos n))))
    step true low true high = rw (low, high) (record { low = leb-true least n low; high = leb-true n most high })
    step true low false high = let no = rw (low, high) at e in absurd (cc)
    step false low b high = let no = rw low at e in absurd (cc)

pub int_good : (least most : ℕ) (text : List ℕ) → is_some (int_value (pos least) (pos most) text) ≡ true → IsInt least most (int_or_zero least most text)
unfolding int_value int_or_zero
int_good least most text e = int_between least most (signed_value number_value text) e

-- an integer is at most the greatest, whether it is read or not
int_below : (least most : ℕ) (o : Option ℤ) → nat_of (if_between (pos least) (pos most) o) ≤ most
int_below least most None = omega arith
int_below least most (Some (negsuc n)) = omega arith
int_below least most (Some (pos n)) = step (nat_le least n) refl (nat_le n most) refl
  where
    step : (a : Bool) → nat_le least n ≡ a → (b : Bool) → nat_le n most ≡ b → nat_of (if_between (pos least) (pos most) (Some (pos n))) ≤ most
    step true low true high = rw (low, high) (leb-true n most high)
    step true low false high = rw (low, high) (omega arith)
    step false low b high = rw low (omega arith)

pub int_small : (least most : ℕ) (text : List ℕ) → int_or_zero least most text ≤ most
unfolding int_value int_or_zero
int_small least most text = int_below least most (signed_value number_value text)

-- an empty field is no integer
pub int_of_nothing : (least most : ℕ) → int_or_zero least most [] ≡ 0
unfolding int_or_zero int_value number_value
int_of_nothing least most = refl

-- a count of changes
count_between : (o : Option ℤ) → ForSome (finite_count (option_and_then (λ z. when (not (int_same z (pos 0))) z) (if_between (negsuc 0) (pos most_int) o))) (λ n. (1 ≤ n) × (n ≤ 2_147_483_647))
count_between None n e = absurd (none-some n e)
count_between (Some (negsuc k)) n e = step (nat_le k 0) refl
  where
    step : (b : Bool) → nat_le k 0 ≡ b → (1 ≤ n) × (n ≤ 2_147_483_647)
    step true a = absurd (none-some n (rw a at e))
    step false a = absurd (none-some n (rw a at e))
count_between (Some (pos k)) n e = step (nat_le k most_int) refl (nat_le k 0) refl
  where
    step : (a : Bool) → nat_le k most_int ≡ a → (b : Bool) → nat_le k 0 ≡ b → (1 ≤ n) × (n ≤ 2_147_483_647)
    step true high false low =
        let is = same_Some k n (rw (high, low) at e) in
        let most = leb-true k most_int high in
        let least = leb-false k 0 low in
        (omega arith, omega arith)
    step true high true low =
        let from : nat_le 0 k ≡ true = grind (arith, nat_tests) in
        absurd (none-some n (rw (high, low, from) at e))
    step false high b low = absurd (none-some n (rw high at e))

pub count_good : (text : List ℕ) → ForSome (finite_count (count_value text)) (λ n. (1 ≤ n) × (n ≤ 2_147_483_647))
unfolding count_value int_value
count_good text = count_between (signed_value number_value text)

-- no count is read of an empty field
pub count_filled : (text : List ℕ) (n : ℕ) → finite_count (count_value text) ≡ Some n → is_filled text ≡ true
unfolding count_value int_value number_value
count_filled [] n e = absurd (none-some n e)
count_filled (c ∷ cs) n e = refl

-- a time is at most the greatest, whether it is read or another stands in its place
pub time_small : (other most : ℕ) (text : List ℕ) → other ≤ most → time_or other most text ≤ most
unfolding time_or
time_small other most text small = step (time_value most text) refl
  where
    step : (o : Option ℕ) → time_value most text ≡ o → time_or other most text ≤ most
    step None e = rw e small
    step (Some s) e = rw e (time_good most text s e)

-- a date that is read is a day of the calendar
calendar_day : (day : ℤ) → is_dated day ≡ true → IsCalendarDay (record { 0 = day })
calendar_day day e =
    let both = and_parts (int_le (negsuc 719_161) day) (int_le day (pos 2_932_896)) e in
    let low = both.0 in
    let high = both.1 in
    record { low = grind (arith, ints); high = grind (arith, ints) }

date_good : (text : List ℕ) (day : ℤ) → date_value text ≡ Some day → IsCalendarDay (record { 0 = day })
unfolding date_value
date_good text day e =
    let year = digits_value 10 (take 4 text) in
    let month = digits_value 10 (slice_range text 4 6) in
    let number = digits_value 10 (drop 6 text) in
    let both = cond_some ((length text == 8) && all_ascii_digits text && is_date year month number) (day_number year month number) day e in
    let dated = is_dated-day_number year month number (and_parts ((length text == 8) && all_ascii_digits text) (is_date year month number) both.0).1 in
    calendar_day day (subst (λ d. is_dated d ≡ true) both.1 dated)

pub day_good : (text : List ℕ) → is_some (date_value text) ≡ true → IsCalendarDay (record { 0 = day_or_zero text })
unfolding day_or_zero
day_good text e =
    let found = some_value (date_value text) e in
    rw found.1 (date_good text found.0 found.1)

-- an amount that is read is in its limits
amount_between : (o : Option ℤ) → ForSome (if_between (neg_ℤ most_amount) most_amount o) (λ z. nat_abs z ≤ 10 ^ 12)
amount_between None z e = absurd (none-some z e)
amount_between (Some (pos n)) z e =
    let both = cond_some (int_le (neg_ℤ most_amount) (pos n) && int_le (pos n) most_amount) (pos n) z e in
    let high = leb-true n 1000000000000 (and_parts (int_le (neg_ℤ most_amount) (pos n)) (int_le (pos n) most_amount) both.0).1 in
    rw (← both.1) high
amount_between (Some (negsuc n)) z e =
    let both = cond_some (int_le (neg_ℤ most_amount) (negsuc n) && int_le (negsuc n) most_amount) (negsuc n) z e in
    let high = leb-true n 999999999999 (and_parts (int_le (neg_ℤ most_amount) (negsuc n)) (int_le (negsuc n) most_amount) both.0).0 in
    let size : suc n ≤ 1000000000000 = omega arith in
    rw (← both.1) size

amount_of : (o : Option ℕ) (text : List ℕ) → ForSome (option_and_then (λ decimals. amount_value decimals text) o) (λ z. nat_abs z ≤ 10 ^ 12)
unfolding amount_value
amount_of None text z e = absurd (none-some z e)
amount_of (Some decimals) text z e = amount_between (signed_value (unsigned_amount decimals) text) z e

pub amount_good : (currency text : List ℕ) → is_some (amount_in currency text) ≡ true → nat_abs (amount_or_zero currency text) ≤ 10 ^ 12
unfolding amount_or_zero
amount_good currency text e =
    let found = some_value (amount_in currency text) e in
    rw found.1 (amount_of (currency_decimals currency) text found.0 found.1)

-- a currency that is read
capitals : (text : List ℕ) → list_all is_capital text ≡ true → All (λ b. (65 ≤ b) × (b ≤ 90)) text
capitals [] e = All-nil (λ (b : ℕ). (65 ≤ b) × (b ≤ 90))
capitals (c ∷ cs) e =
    let both = and_parts (is_capital c) (list_all is_capital cs) e in
    let ends = and_parts (nat_le 65 c) (nat_le c 90) both.0 in
    All-cons (λ (b : ℕ). (65 ≤ b) × (b ≤ 90)) c cs (leb-true 65 c ends.0, leb-true c 90 ends.1) (capitals cs both.1)

abbrev places : Bool → Bool → ℕ
places whole three = if whole then 0 else if three then 3 else 2

which : (a b : Bool) → (places a b ≡ 0) ⊎ (places a b ≡ 2) ⊎ (places a b ≡ 3)
which true b = inl refl
which false true = inr (inr refl)
which false false = inr (inl refl)

pub record IsCurrencyText (text : List ℕ) : Type 0 where
  pub code : length text ≡ 3
  pub letters : All (λ b. (65 ≤ b) × (b ≤ 90)) text
  pub decimals : (unwrap_or (currency_decimals text) 2 ≡ 0) ⊎ (unwrap_or (currency_decimals text) 2 ≡ 2) ⊎ (unwrap_or (currency_decimals text) 2 ≡ 3)

pub currency_good : (text : List ℕ) → is_some (currency_decimals text) ≡ true → IsCurrencyText text
unfolding currency_decimals
currency_good text e = step (is_currency text) refl
  where
    step : (b : Bool) → is_currency text ≡ b → IsCurrencyText text
    step false other = absurd (let false_is_true = rw other at e in cc)
    step true here =
        let one = and_parts ((length text == 3) && list_all is_capital text) (not (is_among unit_codes text)) here in
        let two = and_parts (length text == 3) (list_all is_capital text) one.0 in
        record {
          code = eqb-true (length text) 3 two.0;
          letters = capitals text two.1;
          decimals = rw here (which (is_among whole_currencies text) (is_among three_decimal_currencies text));
        }

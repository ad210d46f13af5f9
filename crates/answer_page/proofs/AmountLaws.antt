-- What is read of a number lies within its bounds, and makes an amount.
use Rattle.std.proofs.Common.{◌≡◌, ℕ, List, Bool, true, false, refl, Option, Some, None}
use Rattle.std.specs.Prelude.{IfSome, ℤ, pos, ◌+ℤ◌, ◌*ℤ◌, ◌≤ℤ◌, ◌&&◌, int_le}
use Rattle.feed_faults.specs.FieldGrammars.{if_between, int_value, is_negative, signed_value}
use Rattle.feed_rows.specs.Numerals.{number_value}
use Rattle.plain_laws.specs.Plain.{when}
use Rattle.answer_page.specs.Amounts.{amount_by, whole_in, with_sign}

module _ (least most : ℤ) where
  low : (o : Option ℤ) → IfSome (if_between least most o) (λ z. least ≤ℤ z)
  low None = tt
  low (Some z) = by (int_le least z) (int_le z most) refl
    where
      by : (from to : Bool) → int_le least z ≡ from → IfSome (when (from && to) z) (λ z. least ≤ℤ z)
      by true true is = record { le = rw is tt }
      by true false is = tt
      by false to is = tt

  high : (o : Option ℤ) → IfSome (if_between least most o) (λ z. z ≤ℤ most)
  high None = tt
  high (Some z) = by (int_le least z) (int_le z most) refl
    where
      by : (from to : Bool) → int_le z most ≡ to → IfSome (when (from && to) z) (λ z. z ≤ℤ most)
      by true true is = record { le = rw is tt }
      by true false is = tt
      by false to is = tt

  pub int_low : (text : List ℕ) → IfSome (int_value least most text) (λ z. least ≤ℤ z)
  unfolding int_value
  int_low text = low (signed_value number_value text)

  pub int_high : (text : List ℕ) → IfSome (int_value least most text) (λ z. z ≤ℤ most)
  unfolding int_value
  int_high text = high (signed_value number_value text)

-- an amount that is put together
pub amount_is : (text whole seen : List ℕ) (part units sign total : ℤ) → seen ≡ text → Some units ≡ whole_in whole
    → sign ≡ with_sign (is_negative text) part → total ≡ units *ℤ pos 1000 +ℤ sign
    → Some (record { text = seen; units = total }) ≡ amount_by text whole (Some part)
amount_is text whole seen part units sign total same read signed sum = rw (same, ← read, sum, signed) refl

-- Amounts of money as answers write them, in thousandths of a whole, whatever the decimals of their currency are.
use Rattle.std.specs.Prelude.{ℕ, ◌+◌, ◌==◌, Bool, if◌then◌else◌, List, length, take, drop, Option, None, Some, ℤ, pos, negsuc, neg_ℤ, ◌+ℤ◌, ◌*ℤ◌}
use Rattle.std.specs.Option.{option_map_or}
use Rattle.feed_faults.specs.FieldGrammars.{int_value, is_negative, point_place}
use Rattle.plain_laws.specs.Plain.{given, given_last}
use Rattle.answer_page.specs.declared.answer.Amount.{Amount}

-- the digits behind a point, of which there are two or three, in thousandths
unfoldable pub thousandths_in : List ℕ → Option ℤ
thousandths_in digits =
    if is_negative digits then None
    else if length digits == 2 then given_last (int_value (pos 0) (pos 99) digits) (λ hundredths. hundredths *ℤ pos 10)
    else if length digits == 3 then int_value (pos 0) (pos 999) digits
    else None

-- whole units of at most 15 digits, with their sign
abbrev pub whole_in : List ℕ → Option ℤ
whole_in text = int_value (negsuc 999_999_999_999_998) (pos 999_999_999_999_999) text

-- a part with a sign
abbrev pub with_sign : Bool → ℤ → ℤ
with_sign negative part = if negative then neg_ℤ part else part

-- an amount by its whole units and the thousandths behind them, which have its sign
abbrev pub amount_by : List ℕ → List ℕ → Option ℤ → Option Amount
amount_by text whole part =
    given part (λ thousandths.
    given_last (whole_in whole) (λ units.
    record { text = text; units = units *ℤ pos 1000 +ℤ with_sign (is_negative text) thousandths }))

-- an amount
unfoldable pub amount_in : List ℕ → Option Amount
amount_in text =
    option_map_or (λ place. amount_by text (take place text) (thousandths_in (drop (place + 1) text))) (point_place text)
    (amount_by text text (Some (pos 0)))

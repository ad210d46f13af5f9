-- The values of fields by their grammars (Field Types). A text that isn't of the grammar has no value.
use Rattle.std.specs.Prelude.{ℕ, ◌+◌, ◌-◌, ◌*◌, ◌^◌, ◌==◌, ◌&&◌, ◌||◌, not, nat_le, if◌then◌else◌, Bool, List, [], ◌∷◌, length, take, drop, slice_index, slice_range, bytes_eq, codes, Option, None, Some, option_map, option_and_then, ℤ, pos, negsuc, neg_ℤ, int_le}
use Rattle.std.specs.List.{list_any, list_all}
use Rattle.std.specs.Option.{option_map_or}
use Rattle.std.specs.Str.{all_ascii_digits}
use Rattle.std.specs.Str.Parse.{digits_value}
use Rattle.transit_base.specs.Dates.{is_date, day_number}
use Rattle.feed_rows.specs.Numerals.{number_value}
use Rattle.plain_laws.specs.Plain.{when, find_below, int_same}

-- a tab, a line feed or a carriage return
abbrev pub is_break : ℕ → Bool
is_break c = (c == 9) || (c == 10) || (c == 13)

-- an id: 1 to 255 bytes without tab, line feed and carriage return (ID; the limits are of the profile)
unfoldable pub is_id : List ℕ → Bool
is_id text = nat_le 1 (length text) && nat_le (length text) 255 && not (list_any is_break text)

-- the text begins with a minus sign
abbrev pub is_negative : List ℕ → Bool
is_negative text = slice_index text 0 == 45

-- an optional minus sign, and then what the grammar takes
abbrev pub signed_value : (List ℕ → Option ℕ) → List ℕ → Option ℤ
signed_value grammar text =
    if is_negative text then option_map (λ n. neg_ℤ (pos n)) (grammar (drop 1 text)) else option_map pos (grammar text)

-- a value from least to most
abbrev pub if_between : ℤ → ℤ → Option ℤ → Option ℤ
if_between least most value = option_and_then (λ z. when (int_le least z && int_le z most) z) value

-- the greatest integer of a column without a limit of its own (profile)
abbrev pub most_int : ℕ
most_int = 2147483647

-- an integer from least to most: an optional minus sign and one or more digits (Integer)
unfoldable pub int_value : ℤ → ℤ → List ℕ → Option ℤ
int_value least most text = if_between least most (signed_value number_value text)

-- a number of changes, or -1 for any number: an integer from -1 to 2147483647, but not 0 (transfer_count)
unfoldable pub count_value : List ℕ → Option ℤ
count_value text = option_and_then (λ z. when (not (int_same z (pos 0))) z) (int_value (negsuc 0) (pos most_int) text)

-- a date: eight digits YYYYMMDD that name a day of the years 0001 to 9999; its value is the day's number (Date)
unfoldable pub date_value : List ℕ → Option ℤ
date_value text =
    let year = digits_value 10 (take 4 text) in
    let month = digits_value 10 (slice_range text 4 6) in
    let day = digits_value 10 (drop 6 text) in
    when ((length text == 8) && all_ascii_digits text && is_date year month day) (day_number year month day)

-- the text is one of these
abbrev pub is_among : List (List ℕ) → List ℕ → Bool
is_among texts text = list_any (bytes_eq text) texts

-- currencies without decimals
abbrev pub whole_currencies : List (List ℕ)
whole_currencies =
    codes "BIF" ∷ codes "CLP" ∷ codes "DJF" ∷ codes "GNF" ∷ codes "ISK" ∷ codes "JPY" ∷ codes "KMF" ∷ codes "KRW"
    ∷ codes "PYG" ∷ codes "RWF" ∷ codes "UGX" ∷ codes "VND" ∷ codes "VUV" ∷ codes "XAF" ∷ codes "XOF" ∷ codes "XPF" ∷ []

-- currencies of three decimals
abbrev pub three_decimal_currencies : List (List ℕ)
three_decimal_currencies =
    codes "BHD" ∷ codes "IQD" ∷ codes "JOD" ∷ codes "KWD" ∷ codes "LYD" ∷ codes "OMR" ∷ codes "TND" ∷ []

-- codes of units that are out of scope
abbrev pub unit_codes : List (List ℕ)
unit_codes = codes "CLF" ∷ codes "UYI" ∷ codes "UYW" ∷ []

-- a letter A to Z
abbrev pub is_capital : ℕ → Bool
is_capital c = nat_le 65 c && nat_le c 90

-- the text is the code of a currency: three letters A to Z (Currency code; the exceptions are of the profile)
abbrev pub is_currency : List ℕ → Bool
is_currency text = (length text == 3) && list_all is_capital text && not (is_among unit_codes text)

-- the decimals of a currency (profile)
unfoldable pub currency_decimals : List ℕ → Option ℕ
currency_decimals text =
    when (is_currency text) (if is_among whole_currencies text then 0 else if is_among three_decimal_currencies text then 3 else 2)

-- the place of the first point
abbrev pub point_place : List ℕ → Option ℕ
point_place text = find_below (length text) (λ i. slice_index text i == 46)

-- the digits behind a point in minor units: those past the decimals are zeros, and missing ones count as zeros
unfoldable pub fraction_value : ℕ → List ℕ → Option ℕ
fraction_value decimals digits =
    when (nat_le 1 (length digits) && all_ascii_digits digits && list_all (λ c. c == 48) (drop decimals digits))
    (digits_value 10 (take decimals digits) * 10 ^ (decimals - length digits))

-- whole units and minor units together, in minor units
abbrev pub minor_units : ℕ → Option ℕ → Option ℕ → Option ℕ
minor_units decimals (Some whole) (Some fraction) = Some (whole * 10 ^ decimals + fraction)
minor_units decimals (Some whole) None = None
minor_units decimals None fraction = None

-- one or more digits, and optionally a point with one or more digits, in minor units
unfoldable pub unsigned_amount : ℕ → List ℕ → Option ℕ
unsigned_amount decimals text =
    option_map_or (λ place. minor_units decimals (number_value (take place text)) (fraction_value decimals (drop (place + 1) text)))
    (point_place text) (minor_units decimals (number_value text) (Some 0))

-- the greatest amount that is read, and the least, which is its opposite
abbrev pub most_amount : ℤ
most_amount = pos 1000000000000

-- an amount in minor units of a currency with so many decimals (Currency amount; the limit is of the profile)
unfoldable pub amount_value : ℕ → List ℕ → Option ℤ
amount_value decimals text = if_between (neg_ℤ most_amount) most_amount (signed_value (unsigned_amount decimals) text)

-- an amount in the currency of this code
abbrev pub amount_in : List ℕ → List ℕ → Option ℤ
amount_in currency text = option_and_then (λ decimals. amount_value decimals text) (currency_decimals currency)

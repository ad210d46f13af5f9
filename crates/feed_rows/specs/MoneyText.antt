-- The texts of amounts of money, which are whole numbers of minor units.
use Rattle.std.specs.Prelude.{ℕ, ◌/◌, ◌%◌, ◌==◌, ◌||◌, if◌then◌else◌, List, [], ◌∷◌, ◌++◌, ℤ, pos, negsuc, unsigned_abs, decimal}
use Rattle.transit_base.specs.DateTexts.{digit, two_digits}

-- `-` of a negative amount
abbrev pub sign_text : ℤ → List ℕ
sign_text (pos n) = []
sign_text (negsuc n) = 45 ∷ []

-- the minor units of one whole, for 0, 2 or 3 decimals
abbrev pub units_of_whole : ℕ → ℕ
units_of_whole decimals = if decimals == 0 then 1 else if decimals == 2 then 100 else 1000

-- a point and the last 2 or 3 digits of a number, or nothing for 0 decimals
abbrev pub decimals_text : ℕ → ℕ → List ℕ
decimals_text decimals n =
    if decimals == 0 then [] else if decimals == 2 then 46 ∷ two_digits (n % 100)
    else 46 ∷ digit (n % 1000 / 100) ∷ two_digits (n % 100)

-- an amount of a currency with 0, 2 or 3 decimals; no text for others
unfoldable pub money_text : ℕ → ℤ → List ℕ
money_text decimals amount =
    if (decimals == 0) || (decimals == 2) || (decimals == 3) then
    sign_text amount ++ decimal (unsigned_abs amount / units_of_whole decimals)
    ++ decimals_text decimals (unsigned_abs amount)
    else []

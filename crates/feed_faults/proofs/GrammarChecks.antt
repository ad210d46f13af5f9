-- The grammars of fields at their edges.
use Rattle.std.proofs.Common.{◌≡◌, ℕ, true, false, List, [], ◌∷◌, None, Some, refl}
use Rattle.std.specs.Prelude.{codes, map, replicate, ◌++◌, pos, negsuc}
use Rattle.std.specs.List.{concat}
use Rattle.transit_base.specs.Dates.{day_number}
use Rattle.feed_rows.specs.TimeGrammar.{time_value}
use Rattle.feed_faults.specs.FieldGrammars.{is_id, int_value, count_value, date_value, currency_decimals, amount_value, amount_in}
use Rattle.feed_faults.specs.OnLiterals.{grammars_on_literals}

-- each text is read as the value beside it
abbrev AreRead : {V : Type 0} → (List ℕ → V) → List (List ℕ × V) → Type 0
AreRead read cases = map (λ c. read c.0) cases ≡ map (λ c. c.1) cases

-- ids: any byte but tabs and line ends, from 1 to 255 of them
ids : AreRead is_id
    ((codes "A", true) ∷ (codes "Zürich HB: 3-4", true) ∷ (codes "a\"b, c", true) ∷ ([], false)
    ∷ (65 ∷ 9 ∷ 66 ∷ [], false) ∷ (65 ∷ 10 ∷ 66 ∷ [], false) ∷ (65 ∷ 13 ∷ 66 ∷ [], false)
    ∷ (replicate 255 65, true) ∷ (replicate 256 65, false) ∷ [])
unfolding grammars_on_literals
ids = refl

-- other control characters may stand within an id: a vertical tab, a form feed, a unit separator and a zero
ids_with_controls : AreRead is_id
    ((65 ∷ 11 ∷ 66 ∷ [], true) ∷ (65 ∷ 12 ∷ 66 ∷ [], true) ∷ (65 ∷ 31 ∷ 66 ∷ [], true) ∷ (65 ∷ 0 ∷ 66 ∷ [], true) ∷ [])
unfolding grammars_on_literals
ids_with_controls = refl

-- an id's bytes are counted, and not its characters: 127 characters of two bytes are 254 bytes, and 128 are 256
abbrev umlauts : ℕ → List ℕ
umlauts count = concat (replicate count (195 ∷ 188 ∷ []))

ids_of_two_bytes : AreRead is_id ((umlauts 127, true) ∷ (umlauts 127 ++ codes "A", true) ∷ (umlauts 128, false) ∷ [])
unfolding grammars_on_literals
ids_of_two_bytes = refl

-- integers from 0 to 4
small_integers : AreRead (int_value (pos 0) (pos 4))
    ((codes "0", Some (pos 0)) ∷ (codes "4", Some (pos 4)) ∷ (codes "5", None) ∷ (codes "-0", Some (pos 0)) ∷ (codes "-00", Some (pos 0))
    ∷ (codes "04", Some (pos 4)) ∷ (replicate 40 48 ++ codes "3", Some (pos 3)) ∷ (codes "-1", None) ∷ (codes "+3", None) ∷ (codes "", None)
    ∷ (codes "-", None) ∷ (codes "--1", None) ∷ (codes " 3", None) ∷ (codes "3 ", None) ∷ (codes "1 2", None) ∷ (codes "3.0", None) ∷ (codes "3a", None) ∷ [])
unfolding grammars_on_literals
small_integers = refl

-- the greatest integers
great_integers : AreRead (int_value (pos 0) (pos 2147483647))
    ((codes "2147483647", Some (pos 2147483647)) ∷ (codes "2147483648", None) ∷ (codes "0002147483647", Some (pos 2147483647))
    ∷ (codes "18446744073709551616", None) ∷ (codes "340282366920938463463374607431768211456", None) ∷ [])
unfolding grammars_on_literals
great_integers = refl

-- counts of changes
counts : AreRead count_value
    ((codes "-1", Some (negsuc 0)) ∷ (codes "-01", Some (negsuc 0)) ∷ (codes "0", None) ∷ (codes "00", None) ∷ (codes "-0", None)
    ∷ (codes "1", Some (pos 1)) ∷ (codes "-2", None) ∷ (codes "2147483647", Some (pos 2147483647)) ∷ (codes "2147483648", None) ∷ [])
unfolding grammars_on_literals
counts = refl

-- times of at most 167:59:59
times : AreRead (time_value 604799)
    ((codes "08:05:09", Some 29109) ∷ (codes "8:00:00", Some 28800) ∷ (codes "008:00:00", Some 28800) ∷ (codes "0008:00:00", None)
    ∷ (codes "24:00:00", Some 86400) ∷ (codes "25:10:00", Some 90600) ∷ (codes "99:59:59", Some 359999) ∷ (codes "167:59:59", Some 604799)
    ∷ (codes "168:00:00", None) ∷ (codes "08:60:00", None) ∷ (codes "08:00:60", None) ∷ (codes "08:59:59", Some 32399) ∷ (codes "09:0", None)
    ∷ (codes "8:0:00", None) ∷ (codes ":00:00", None) ∷ (codes "08:00", None) ∷ (codes "08:00:0", None) ∷ (codes "08:00:000", None)
    ∷ (codes "-8:00:00", None) ∷ (codes "+8:00:00", None) ∷ (codes "08-00:00", None) ∷ (codes "08-00-00", None) ∷ (codes "08:00-00", None) ∷ (codes "08:00:00 ", None)
    ∷ (codes "0a:00:00", None) ∷ (codes "", None) ∷ [])
unfolding grammars_on_literals
times = refl

-- hours are at most 167, also where the greatest time would permit more
many_hours : AreRead (time_value 1000000) ((codes "167:59:59", Some 604799) ∷ (codes "168:00:00", None) ∷ (codes "200:00:00", None) ∷ [])
unfolding grammars_on_literals
many_hours = refl

-- times of at most 24:00:00
times_of_day : AreRead (time_value 86400)
    ((codes "24:00:00", Some 86400) ∷ (codes "24:00:01", None) ∷ (codes "23:59:59", Some 86399) ∷ (codes "0:00:00", Some 0) ∷ [])
unfolding grammars_on_literals
times_of_day = refl

-- dates
dates : AreRead date_value
    ((codes "20250602", Some (day_number 2025 6 2)) ∷ (codes "20250631", None) ∷ (codes "20250630", Some (day_number 2025 6 30))
    ∷ (codes "00010101", Some (day_number 1 1 1)) ∷ (codes "00000101", None) ∷ (codes "99991231", Some (day_number 9999 12 31))
    ∷ (codes "20240229", Some (day_number 2024 2 29)) ∷ (codes "20250229", None) ∷ (codes "19000229", None) ∷ (codes "20000229", Some (day_number 2000 2 29))
    ∷ (codes "20251301", None) ∷ (codes "20250001", None) ∷ (codes "20250600", None) ∷ (codes "2025060", None) ∷ (codes "202506020", None)
    ∷ (codes "2025-6-2", None) ∷ (codes "2025 602", None) ∷ (codes "-2025602", None) ∷ (codes "", None) ∷ [])
unfolding grammars_on_literals
dates = refl

-- currencies and their decimals
currencies : AreRead currency_decimals
    ((codes "EUR", Some 2) ∷ (codes "JPY", Some 0) ∷ (codes "KWD", Some 3) ∷ (codes "XPF", Some 0) ∷ (codes "TND", Some 3) ∷ (codes "CLP", Some 0)
    ∷ (codes "CLF", None) ∷ (codes "UYI", None) ∷ (codes "UYW", None) ∷ (codes "UYU", Some 2) ∷ (codes "eur", None) ∷ (codes "EUr", None)
    ∷ (codes "EU", None) ∷ (codes "EURO", None) ∷ (codes "E1R", None) ∷ (codes "", None) ∷ [])
unfolding grammars_on_literals
currencies = refl

-- every other code has two decimals, also that of forints, whose small coins are gone, and those that are no currency
currencies_of_two_decimals : AreRead currency_decimals
    ((codes "HUF", Some 2) ∷ (codes "XXX", Some 2) ∷ (codes "XTS", Some 2) ∷ (codes "TWD", Some 2) ∷ [])
unfolding grammars_on_literals
currencies_of_two_decimals = refl

amounts_in_forints : AreRead (amount_in (codes "HUF"))
    ((codes "250", Some (pos 25000)) ∷ (codes "250.5", Some (pos 25050)) ∷ (codes "250.50", Some (pos 25050))
    ∷ (codes "250.505", None) ∷ [])
unfolding grammars_on_literals
amounts_in_forints = refl

amounts_without_money : AreRead (amount_in (codes "XXX"))
    ((codes "1", Some (pos 100)) ∷ (codes "1.25", Some (pos 125)) ∷ (codes "1.255", None) ∷ [])
unfolding grammars_on_literals
amounts_without_money = refl

-- amounts of two decimals
amounts_of_two : AreRead (amount_value 2)
    ((codes "2.50", Some (pos 250)) ∷ (codes "2.5", Some (pos 250)) ∷ (codes "2.500", Some (pos 250)) ∷ (codes "2.505", None) ∷ (codes "2", Some (pos 200))
    ∷ (codes "5.", None) ∷ (codes ".5", None) ∷ (codes "-.5", None) ∷ (codes "-2.05", Some (negsuc 204)) ∷ (codes "-0.00", Some (pos 0)) ∷ (codes "-0", Some (pos 0))
    ∷ (codes "0.05", Some (pos 5)) ∷ (codes "-0.05", Some (negsuc 4)) ∷ (codes "0.005", None) ∷ (codes "1.2.3", None) ∷ (codes "1,50", None) ∷ (codes "+5", None) ∷ (codes "", None) ∷ (codes "-", None)
    ∷ (codes ".", None) ∷ (codes " 5", None) ∷ (codes "1.-5", None) ∷ (codes "2.5" ++ replicate 40 48, Some (pos 250)) ∷ (replicate 40 48 ++ codes "7", Some (pos 700))
    ∷ (codes "10000000000.00", Some (pos 1000000000000)) ∷ (codes "10000000000.01", None) ∷ (codes "-10000000000", Some (negsuc 999999999999)) ∷ (codes "-10000000000.01", None) ∷ [])
unfolding grammars_on_literals
amounts_of_two = refl

-- amounts without decimals, and of three
amounts_in_yen : AreRead (amount_in (codes "JPY"))
    ((codes "300", Some (pos 300)) ∷ (codes "4.00", Some (pos 4)) ∷ (codes "2.50", None) ∷ (codes "5.", None) ∷ (codes "1000000000000", Some (pos 1000000000000))
    ∷ (codes "1000000000001", None) ∷ (codes "-1000000000001", None) ∷ [])
unfolding grammars_on_literals
amounts_in_yen = refl

amounts_in_dinar : AreRead (amount_in (codes "KWD"))
    ((codes "2.505", Some (pos 2505)) ∷ (codes "2.5", Some (pos 2500)) ∷ (codes "2.5050", Some (pos 2505)) ∷ (codes "2.5055", None) ∷ [])
unfolding grammars_on_literals
amounts_in_dinar = refl

-- where the currency has a fault no amount has a value
amounts_in_none : AreRead (amount_in (codes "eur")) ((codes "2.50", None) ∷ [])
unfolding grammars_on_literals
amounts_in_none = refl

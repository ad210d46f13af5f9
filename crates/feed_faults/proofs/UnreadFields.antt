-- What fields, names and rows give that can't be read or aren't there, as they stand only in files with a fault.
use Rattle.std.proofs.Common.{◌≡◌, ℕ, true, false, List, [], ◌∷◌, None, Some, refl}
use Rattle.std.specs.Prelude.{codes, map, pos, negsuc}
use Rattle.feed_files.specs.declared.names.FileName.TheVariants as file
use Rattle.feed_files.specs.declared.names.ColumnName.TheVariants as column
use Rattle.feed_faults.specs.Records.{FileTable}
use Rattle.feed_faults.specs.FieldValues.{nat_of, int_or_zero, time_or, day_or_zero, amount_or_zero}
use Rattle.feed_faults.specs.FeedTables.{FeedTables}
use Rattle.feed_faults.specs.FareRelations.{is_currency_mixed}
use Rattle.feed_faults.specs.RowChecks.{same_key}
use Rattle.feed_faults.specs.AcceptedFeed.{row_number, name_number, service_names, feed_currency, feed_decimals}
use Rattle.feed_faults.specs.OnLiterals.{relations_on_literals, rows_on_literals}

-- a field that tells no value counts as an empty one: no number is 0, as is one below 0; no time is the one that is
-- given, no date is the first day of 1970, and no amount is 0, also where the currency is none
unread_fields :
    (map nat_of (None ∷ Some (pos 3) ∷ Some (negsuc 4) ∷ []) ≡ 0 ∷ 3 ∷ 0 ∷ [])
    × (map (int_or_zero 1 4) (codes "x" ∷ codes "5" ∷ codes "-1" ∷ [] ∷ codes "4" ∷ []) ≡ 0 ∷ 0 ∷ 0 ∷ 0 ∷ 4 ∷ [])
    × (map (time_or 7 86400) (codes "9" ∷ codes "24:00:01" ∷ [] ∷ codes "0:00:09" ∷ []) ≡ 7 ∷ 7 ∷ 7 ∷ 9 ∷ [])
    × (map day_or_zero (codes "20250631" ∷ [] ∷ []) ≡ pos 0 ∷ pos 0 ∷ [])
    × (map (amount_or_zero (codes "EUR")) (codes "2.505" ∷ [] ∷ codes "2.5" ∷ []) ≡ pos 0 ∷ pos 0 ∷ pos 250 ∷ [])
    × (amount_or_zero (codes "eur") (codes "2.5") ≡ pos 0)
unfolding rows_on_literals
unread_fields = (refl, refl, refl, refl, refl, refl)

-- a table of one column with these fields
abbrev column_table : List ℕ → List (List ℕ) → FileTable
column_table name fields = (name ∷ []) ∷ map (λ field. field ∷ []) fields

-- an id that no row has, and a name that there is not, have the number behind the last
unknown_names :
    (map (row_number (column_table (codes "stop_id") (codes "A" ∷ codes "B" ∷ codes "B" ∷ [])) column.StopId)
    (codes "A" ∷ codes "B" ∷ codes "C" ∷ []) ≡ 0 ∷ 1 ∷ 3 ∷ [])
    × (row_number [] column.StopId (codes "A") ≡ 0)
    × (map (name_number (codes "a" ∷ codes "b" ∷ [])) (codes "a" ∷ codes "b" ∷ codes "c" ∷ []) ≡ 0 ∷ 1 ∷ 2 ∷ [])
unfolding rows_on_literals
unknown_names = (refl, refl, refl)

-- products in these currencies
abbrev products : List (List ℕ) → FileTable
products currencies = column_table (codes "currency") currencies

-- the currency is that of the first product, whose decimals are 2 where it is none
unread_currencies :
    (feed_currency (products (codes "JPY" ∷ codes "EUR" ∷ [])) ≡ Some (codes "JPY"))
    × (feed_currency (products []) ≡ None)
    × (map feed_decimals
    (products (codes "JPY" ∷ codes "EUR" ∷ []) ∷ products (codes "eur" ∷ []) ∷ products [] ∷ [] ∷ [])
    ≡ 0 ∷ 2 ∷ 2 ∷ 2 ∷ [])
unfolding rows_on_literals
unread_currencies = (refl, refl, refl)

-- a currency is compared with that of the first product, and not with that of the one before
mixed_currencies :
    map (is_currency_mixed (products (codes "EUR" ∷ codes "USD" ∷ codes "USD" ∷ codes "EUR" ∷ []))) (0 ∷ 1 ∷ 2 ∷ 3 ∷ [])
    ≡ false ∷ true ∷ true ∷ false ∷ []
unfolding relations_on_literals
mixed_currencies = refl

-- rows of a file whose key is one column have no key of several
other_keys : map (λ name. same_key name (column_table (codes "stop_id") (codes "A" ∷ codes "A" ∷ [])) 0 1)
    (file.Stops ∷ file.Transfers ∷ file.FareLegRules ∷ []) ≡ false ∷ false ∷ false ∷ []
other_keys = refl

-- tables of trips, calendars, their dates and timeframes, whose services are these
abbrev tables : List (List ℕ) → List (List ℕ) → List (List ℕ) → List (List ℕ) → FeedTables
tables trips calendar dates frames =
    [] ∷ [] ∷ services trips ∷ [] ∷ services calendar ∷ services dates ∷ [] ∷ [] ∷ [] ∷ [] ∷ [] ∷ []
    ∷ services frames ∷ []
  where
    services : List (List ℕ) → FileTable
    services names = column_table (codes "service_id") names

-- services are numbered as trips name them first, then calendars, then their dates, and timeframes last
order_of_services :
    service_names
    (tables (codes "T" ∷ codes "" ∷ codes "T" ∷ []) (codes "C" ∷ codes "T" ∷ []) (codes "D" ∷ codes "C" ∷ [])
    (codes "F" ∷ codes "D" ∷ []))
    ≡ codes "T" ∷ codes "C" ∷ codes "D" ∷ codes "F" ∷ []
unfolding rows_on_literals
order_of_services = refl

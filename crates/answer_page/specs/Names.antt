-- Names of stops and lines, as a feed's files give them.
use Rattle.std.specs.Prelude.{◌≡◌, ◌++◌, ℕ, ◌+◌, ◌-◌, ◌*◌, ◌==◌, ◌%◌, Bool, ◌&&◌, if◌then◌else◌, List, [], ◌∷◌, length, map, get_or, slice_get, unwrap_or, bytes_eq, Option}
use Rattle.std.specs.List.{list_all}
use Rattle.std.specs.Char.{is_ascii_hexdigit}
use Rattle.std.specs.Option.{option_map_or}
use Rattle.std.specs.Str.{is_utf8}
use Rattle.plain_laws.specs.Plain.{find_below}
use Rattle.feed_faults.specs.Records.{FileTable, table_of_bytes}

-- what a column of a file names by the ids of another, row by row
pub record NamePairs : Type 0 where
  pub ids : List (List ℕ)
  pub names : List (List ℕ)

abbrev pub no_names : NamePairs
no_names = record { ids = []; names = [] }

-- a row more
abbrev pub with_pair : NamePairs → List ℕ → List ℕ → NamePairs
with_pair pairs id name = record { ids = pairs.ids ++ id ∷ []; names = pairs.names ++ name ∷ [] }

-- the place of the first column of this name in a header
abbrev pub column_place : List (List ℕ) → List ℕ → Option ℕ
column_place header name = find_below (length header) (λ place. bytes_eq (get_or header place []) name)

-- the field of a row at a place; empty where there is none
abbrev pub cell : Option ℕ → List (List ℕ) → List ℕ
cell place row = option_map_or (λ p. get_or row p []) place []

-- what the columns at these places name in these rows
abbrev pub pairs_at : Option ℕ → Option ℕ → FileTable → NamePairs
pairs_at id name rows = record { ids = map (cell id) rows; names = map (cell name) rows }

-- what a table names
abbrev pub table_names : FileTable → List ℕ → List ℕ → NamePairs
table_names [] id name = no_names
table_names (header ∷ rows) id name = pairs_at (column_place header id) (column_place header name) rows

-- the table of a text has this header, and these are what two of its columns name
pub record NamesRows (text : List ℕ) (header : List (List ℕ)) (id name : Option ℕ) (pairs : NamePairs) : Type 0 where
  pub rows : FileTable
  pub is_table : table_of_bytes text ≡ header ∷ rows
  pub is_named : pairs ≡ pairs_at id name rows

-- what a file's bytes name: nothing, where they are no text
unfoldable pub names_in : List ℕ → List ℕ → List ℕ → NamePairs
names_in bytes id name = if is_utf8 bytes then table_names (table_of_bytes bytes) id name else no_names

-- the name in the first row with this id; empty where there is none
unfoldable pub name_in : NamePairs → List ℕ → List ℕ
name_in pairs id =
    option_map_or (λ place. unwrap_or (slice_get pairs.names place) [])
    (find_below (length pairs.ids) (λ place. bytes_eq (unwrap_or (slice_get pairs.ids place) []) id)) []

-- a text, or another where it is empty
abbrev pub filled_or : List ℕ → List ℕ → List ℕ
filled_or text other = if length text == 0 then other else text

-- six hexadecimal digits
abbrev pub is_colour : List ℕ → Bool
is_colour text = (length text == 6) && list_all is_ascii_hexdigit text

-- the place in the palette of a line's colour, by the first and the last byte of its name
abbrev pub palette_place : List ℕ → ℕ
palette_place line = (unwrap_or (slice_get line 0) 0 + 3 * unwrap_or (slice_get line (length line - 1)) 0) % 8

-- What columns of files name, row by row, and what is found of it.
use Rattle.std.proofs.Common.{◌≡◌, refl, sym, ℕ, ◌<◌, List, [], ◌∷◌, ◌++◌, true, false, length, get_or, Option, Some, None}
use Rattle.std.specs.Prelude.{bytes_eq, slice_get, unwrap_or}
use Rattle.std.specs.Str.{is_utf8}
use Rattle.std.proofs.lemmas.List.{map-append}
use Rattle.plain_laws.proofs.Laws.{find_below_hit, find_below_none}
use Rattle.feed_faults.specs.Records.{FileTable, table_of_bytes}
use Rattle.answer_page.specs.Names.{NamePairs, NamesRows, pairs_at, with_pair, cell, column_place, name_in, names_in, no_names}

-- the first place of a column's name
pub column_hit : (header : List (List ℕ)) (name : List ℕ) (i : ℕ) → i < length header → bytes_eq (get_or header i []) name ≡ true
    → ((k : ℕ) → k < i → bytes_eq (get_or header k []) name ≡ false) → column_place header name ≡ Some i
column_hit header name i inside here before =
    find_below_hit (λ place. bytes_eq (get_or header place []) name) (length header) i (record { within = inside; passes = here; earlier = before })

-- no such column
pub column_none : (header : List (List ℕ)) (name : List ℕ) → ((k : ℕ) → k < length header → bytes_eq (get_or header k []) name ≡ false) → column_place header name ≡ None
column_none header name none = find_below_none (λ place. bytes_eq (get_or header place []) name) (length header) none

-- the name of the first row with an id
pub name_hit : (pairs : NamePairs) (id : List ℕ) (i : ℕ) → i < length pairs.ids → bytes_eq (unwrap_or (slice_get pairs.ids i) []) id ≡ true
    → ((k : ℕ) → k < i → bytes_eq (unwrap_or (slice_get pairs.ids k) []) id ≡ false) → name_in pairs id ≡ unwrap_or (slice_get pairs.names i) []
unfolding name_in
name_hit pairs id i inside here before =
    rw (find_below_hit (λ place. bytes_eq (unwrap_or (slice_get pairs.ids place) []) id) (length pairs.ids) i (record { within = inside; passes = here; earlier = before })) refl

-- no such row
pub name_none : (pairs : NamePairs) (id : List ℕ) → ((k : ℕ) → k < length pairs.ids → bytes_eq (unwrap_or (slice_get pairs.ids k) []) id ≡ false) → name_in pairs id ≡ []
unfolding name_in
name_none pairs id none = rw (find_below_none (λ place. bytes_eq (unwrap_or (slice_get pairs.ids place) []) id) (length pairs.ids) none) refl

-- a row more
pub pairs_more : (id name : Option ℕ) (rows : FileTable) (row : List (List ℕ)) → with_pair (pairs_at id name rows) (cell id row) (cell name row) ≡ pairs_at id name (rows ++ row ∷ [])
pairs_more id name rows row = rw (map-append (cell id) rows (row ∷ []), map-append (cell name) rows (row ∷ [])) refl

-- what a text names
pub text_names : (bytes id name : List ℕ) (header : List (List ℕ)) (pairs : NamePairs) → is_utf8 bytes ≡ true
    → NamesRows bytes header (column_place header id) (column_place header name) pairs → names_in bytes id name ≡ pairs
unfolding names_in
text_names bytes id name header pairs text named = rw (text, named.is_table) (sym named.is_named)

-- a text without a record names nothing, and neither does what is no text
pub none_named : (bytes id name : List ℕ) → is_utf8 bytes ≡ true → table_of_bytes bytes ≡ [] → names_in bytes id name ≡ no_names
unfolding names_in
none_named bytes id name text empty = rw (text, empty) refl

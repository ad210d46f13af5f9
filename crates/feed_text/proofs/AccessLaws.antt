-- Reading in a table whose records are kept flat among its fields.
use Rattle.std.proofs.Common.{◌≡◌, ℕ, ◌+◌, ◌-◌, ◌<◌, ◌≤◌, List, [], ◌∷◌, bytes_eq, length, take, drop, get_or, refl, sym, ap, ◌∙◌, arith, false, Bool, length-drop, length-take}
use Rattle.std.specs.Prelude.{nat_le, ◌&&◌, map, Some, None}
use Rattle.std.specs.List.{list_any, range_with_len}
use Rattle.std.proofs.lemmas.List.{get_or-take, get_or-drop, get_or_past}
use Rattle.plain_laws.specs.Plain.{find_below, any_below}
use Rattle.item_groups.specs.Parts.{parts, Rise, start_of}
use Rattle.plain_laws.proofs.Laws.{find_below-same, find_below_tells, any_below-same}
use Rattle.item_groups.proofs.PartLaws.{part_at, rise_at}
use Rattle.feed_files.specs.declared.names.ColumnName.{ColumnName}
use Rattle.feed_files.specs.Names.{all_columns, column_text}
use Rattle.feed_faults.specs.Records.{header, column_of, is_filled}
use Rattle.feed_faults.specs.FormFaults.{is_twice}
use Rattle.feed_text.proofs.RangeLaws.{any_between, any_from, twice_behind, none_twice}

-- the field of a row and a column, counted with the header; empty where the row is short
abbrev pub field_in : List (List (List ℕ)) → ℕ → ℕ → List ℕ
field_in table row column = get_or (get_or table row []) column []

module _ (rows : List ℕ) (fields : List (List ℕ)) (row : ℕ) (lt : row < length rows) where
  -- a field that is there
  pub field_there : (column : ℕ) → column < get_or rows row 0 - start_of 0 rows row → field_in (parts 0 rows fields) row column ≡ get_or fields (start_of 0 rows row + column) []
  field_there column in_row =
      rw (
        part_at 0 rows fields row [] lt,
        get_or-take (get_or rows row 0 - start_of 0 rows row) (drop (start_of 0 rows row) fields) column [] in_row,
        get_or-drop (start_of 0 rows row) fields column [],
      ) refl

  -- and one that is not
  pub field_short : (column : ℕ) → get_or rows row 0 - start_of 0 rows row ≤ column → field_in (parts 0 rows fields) row column ≡ []
  field_short column out =
      rw (part_at 0 rows fields row [] lt) (get_or_past (take (get_or rows row 0 - start_of 0 rows row) (drop (start_of 0 rows row) fields)) column []
      (rw (length-take (get_or rows row 0 - start_of 0 rows row) (drop (start_of 0 rows row) fields)) (omega (arith, out))))

  -- how many fields a row has
  pub width_at : Rise 0 rows (length fields) → length (get_or (parts 0 rows fields) row []) ≡ get_or rows row 0 - start_of 0 rows row
  width_at rise =
      let at = rise_at 0 rows (length fields) row rise lt in
      rw (part_at 0 rows fields row [] lt, length-take (get_or rows row 0 - start_of 0 rows row) (drop (start_of 0 rows row) fields), length-drop (start_of 0 rows row) fields)
      (omega (arith, at.0, at.1))

-- how many columns the header has
pub header_width : (ends : List ℕ) (fields : List (List ℕ)) → Rise 0 ends (length fields) → get_or ends 0 0 ≡ length (get_or (parts 0 ends fields) 0 [])
header_width [] fields rise = refl
header_width (end ∷ ends) fields rise = omega (arith, width_at (end ∷ ends) fields 0 (omega arith) rise)

header_field : (ends : List ℕ) (fields : List (List ℕ)) (column : ℕ) → column < get_or ends 0 0 → get_or fields column [] ≡ field_in (parts 0 ends fields) 0 column
header_field [] fields column lt = absurd (omega (arith, lt))
header_field (end ∷ ends) fields column lt =
    let e : 0 + column ≡ column = omega arith in
    ap (λ k. get_or fields k []) (sym e) ∙ sym (field_there (end ∷ ends) fields 0 (omega arith) column (omega (arith, lt)))

-- the place of a column, by the fields of the header
pub column_at : (ends : List ℕ) (fields : List (List ℕ)) → Rise 0 ends (length fields) → (name : ColumnName)
    → find_below (get_or ends 0 0) (λ c. bytes_eq (get_or fields c []) (column_text name)) ≡ column_of (parts 0 ends fields) name
unfolding column_of
column_at ends fields rise name =
    find_below-same (λ c. bytes_eq (get_or fields c []) (column_text name)) (λ c. bytes_eq (field_in (parts 0 ends fields) 0 c) (column_text name)) (get_or ends 0 0)
    (λ c lt. ap (λ text. bytes_eq text (column_text name)) (header_field ends fields c lt))
    ∙ ap (λ n. find_below n (λ c. bytes_eq (field_in (parts 0 ends fields) 0 c) (column_text name))) (header_width ends fields rise)

-- whether a column stands twice, by the place of the first
pub twice_at : (ends : List ℕ) (fields : List (List ℕ)) → Rise 0 ends (length fields) → (name : ColumnName) (first columns : ℕ)
    → column_of (parts 0 ends fields) name ≡ Some first → columns ≡ length (header (parts 0 ends fields))
    → list_any (λ k. bytes_eq (get_or fields k []) (column_text name)) (range_with_len (first + 1) (columns - (first + 1))) ≡ is_twice (parts 0 ends fields) name
unfolding column_of is_twice
twice_at ends fields rise name first columns found wide =
    any_from (λ k. bytes_eq (get_or fields k []) (column_text name)) (first + 1) columns
    ∙ any_below-same (λ c. nat_le (first + 1) c && bytes_eq (get_or fields c []) (column_text name)) (λ c. nat_le (first + 1) c && test c) columns
    (λ c lt. ap (λ text. nat_le (first + 1) c && bytes_eq text (column_text name)) (header_field ends fields c (omega (arith, lt, wide, header_width ends fields rise))))
    ∙ ap (λ n. any_below n (λ c. nat_le (first + 1) c && test c)) wide
    ∙ sym (twice_behind test (length (header (parts 0 ends fields))) first found)
  where
    test : ℕ → Bool
    test = λ (c : ℕ). bytes_eq (field_in (parts 0 ends fields) 0 c) (column_text name)

pub absent_once : (table : List (List (List ℕ))) (name : ColumnName) → column_of table name ≡ None → is_twice table name ≡ false
unfolding column_of is_twice
absent_once table name none = none_twice (λ c. bytes_eq (get_or (header table) c []) (column_text name)) (length (header table)) none

-- whether a row has a field from a column on that isn't empty
pub long_at : (ends : List ℕ) (fields : List (List ℕ)) → Rise 0 ends (length fields) → (row past from end : ℕ) → row < length ends
    → from ≡ start_of 0 ends row + past → end ≡ get_or ends row 0
    → list_any (λ k. is_filled (get_or fields k [])) (range_with_len from (end - from))
    ≡ any_below (length (get_or (parts 0 ends fields) row [])) (λ c. nat_le past c && is_filled (field_in (parts 0 ends fields) row c))
long_at ends fields rise row past from end lt begins stops =
    any_between (λ k. is_filled (get_or fields k [])) (start_of 0 ends row) past end from (length (get_or (parts 0 ends fields) row [])) begins
    (width_at ends fields row lt rise ∙ ap (λ e. e - start_of 0 ends row) (sym stops))
    ∙ any_below-same (λ c. nat_le past c && is_filled (get_or fields (start_of 0 ends row + c) [])) (λ c. nat_le past c && is_filled (field_in (parts 0 ends fields) row c))
    (length (get_or (parts 0 ends fields) row []))
    (λ c within. ap (λ text. nat_le past c && is_filled text) (sym (field_there ends fields row lt c (omega (arith, within, width_at ends fields row lt rise)))))

-- the places of all columns, by the fields of the header
pub places_at : (ends : List ℕ) (fields : List (List ℕ)) → Rise 0 ends (length fields) → (columns : ℕ) → columns ≡ get_or ends 0 0
    → map (λ name. find_below columns (λ c. bytes_eq (get_or fields c []) (column_text name))) all_columns ≡ map (column_of (parts 0 ends fields)) all_columns
places_at ends fields rise columns wide = rw wide (map_same all_columns)
  where
    map_same : (names : List ColumnName) → map (λ name. find_below (get_or ends 0 0) (λ c. bytes_eq (get_or fields c []) (column_text name))) names ≡ map (column_of (parts 0 ends fields)) names
    map_same [] = refl
    map_same (name ∷ names) = rw (column_at ends fields rise name, map_same names) refl

-- a column that is found is one of the header
pub column_within : (table : List (List (List ℕ))) (name : ColumnName) (column : ℕ) → column_of table name ≡ Some column → column < length (header table)
unfolding column_of
column_within table name column found = (find_below_tells (λ c. bytes_eq (get_or (header table) c []) (column_text name)) (length (header table)) column found).within

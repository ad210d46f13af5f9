-- What is kept of the numbers of a table's rows.
use Rattle.std.proofs.Common.{◌≡◌, ◌∙◌, sym, ap, ℕ, suc, ◌+◌, ◌-◌, refl, ◌<◌, ◌≤◌, List, [], ◌∷◌, ◌++◌, length, true, Option, Some, arith, rules}
use denote.Enum.Declared.{tag_of}
use Rattle.feed_files.specs.contracts.names.FileName.{the_type}
use Rattle.std.specs.Prelude.{slice_get, get_or, map, ℤ}
use Rattle.std.proofs.lemmas.Option.{same_Some}
use Rattle.std.proofs.lemmas.List.{get_or-map, get_or-append-add, length-map}
use Rattle.std.proofs.Math.ListN.{get_or-append}
use Rattle.feed_files.specs.declared.names.FileName.{FileName}
use Rattle.feed_files.specs.declared.names.FileName.TheVariants as file
use Rattle.feed_files.specs.Names.{all_files, place}
use Rattle.folder_io.proofs.PlaceLaws.{named, inside}
use Rattle.feed_faults.specs.FeedTables.{table_in}
use Rattle.feed_faults.specs.Records.{FileTable, field, row_count}
use Rattle.plain_laws.proofs.Laws.{length-list_below, slice_get-list_below}
use Rattle.feed_text.specs.FieldNumbers.{numbers_of}
use Rattle.feed_tables.specs.RowNumbers.{TableOf, numbers_by_row, has_table, first_files, other_files}
use Rattle.feed_tables.specs.KeptTables.{tables_with}

module _ (file : FileName) (table : FileTable) (rows : List (List (Option ℤ))) (row : ℕ) (are : rows ≡ numbers_by_row file table) (lt : row < row_count table) where
  -- there are those of each row
  pub kept_within : row < length rows
  kept_within = rw (are, length-list_below (row_count table) (λ k. numbers_of file (field table k))) lt

  -- which are what the row tells
  pub kept_row : (found : List (Option ℤ)) → slice_get rows row ≡ Some found → found ≡ numbers_of file (field table row)
  kept_row found at = same_Some _ _ (sym at ∙ ap (λ rs. slice_get rs row) are ∙ slice_get-list_below (row_count table) (λ k. numbers_of file (field table k)) row lt)

module _ {X : Type 0} (first : List X) (calls : X) (others : List X) (three : length first ≡ 3) (d : X) where
  -- the tables of all files, by the place of a file
  in_first : (k : ℕ) → k < 3 → get_or (first ++ calls ∷ others) k d ≡ get_or first k d
  in_first k lt = get_or-append first (calls ∷ others) d k (omega (arith, three, lt))

  in_others : (k : ℕ) → get_or (first ++ calls ∷ others) (k + 4) d ≡ get_or others k d
  in_others k =
      let e : k + 4 ≡ length first + suc k = omega (arith, three) in
      rw e (get_or-append-add first (calls ∷ others) (suc k) d)

three_first : (first : List TableOf) → map (λ (read : TableOf). read.file) first ≡ first_files → length first ≡ 3
three_first first are = sym (length-map first (λ (r : TableOf). r.file)) ∙ ap length are

-- the table of a file that isn't stop_times.txt is kept
pub kept_unless : (name : FileName) → (name ≡ file.StopTimes → ⊥) → has_table name ≡ true
kept_unless file.StopTimes other = absurd (other refl)
kept_unless name other = refl

-- the number of a file is its place
pub place_is : (name : FileName) → tag_of the_type name ≡ place name
place_is name = search rules

-- such a file stands before it or behind it
pub stands_behind : (name : FileName) → has_table name ≡ true → 3 ≤ place name → 4 ≤ place name
stands_behind file.StopTimes has le = absurd (cc)
stands_behind name has le = omega arith

pub first_within : (first : List TableOf) → map (λ (read : TableOf). read.file) first ≡ first_files → (name : FileName) → place name < 3 → place name < length first
first_within first are name lt = rw (three_first first are) lt

pub others_within : (others : List TableOf) → map (λ (read : TableOf). read.file) others ≡ other_files → (name : FileName) → 4 ≤ place name → place name - 4 < length others
others_within others are name le =
    let long : length others ≡ length other_files = sym (length-map others (λ (r : TableOf). r.file)) ∙ ap length are in
    omega (arith, long, le, inside name)

-- each file's table stands at its place
module _ (first others : List TableOf) (calls : FileTable) (first_are : map (λ (read : TableOf). read.file) first ≡ first_files) (others_are : map (λ (read : TableOf). read.file) others ≡ other_files) (name : FileName) (read : TableOf) where
  module _ (lt : place name < 3) (at : read ≡ get_or first (place name) read) where
    pub first_file : read.file ≡ name
    first_file =
        ap (λ (r : TableOf). r.file) at
        ∙ sym (get_or-map (λ (r : TableOf). r.file) first (place name) read name (first_within first first_are name lt))
        ∙ ap (λ files. get_or files (place name) name) first_are
        ∙ sym (in_first first_files file.StopTimes other_files refl name (place name) lt)
        ∙ named name name

    pub first_table : table_in (tables_with first calls others) name ≡ read.table
    first_table =
        in_first (map (λ (r : TableOf). r.table) first) calls (map (λ (r : TableOf). r.table) others) (length-map first (λ (r : TableOf). r.table) ∙ three_first first first_are) [] (place name) lt
        ∙ get_or-map (λ (r : TableOf). r.table) first (place name) read [] (first_within first first_are name lt) ∙ ap (λ (r : TableOf). r.table) (sym at)

  module _ (le : 4 ≤ place name) (at : read ≡ get_or others (place name - 4) read) where
    here : place name - 4 + 4 ≡ place name
    here = omega (arith, le)

    pub other_file : read.file ≡ name
    other_file =
        ap (λ (r : TableOf). r.file) at
        ∙ sym (get_or-map (λ (r : TableOf). r.file) others (place name - 4) read name (others_within others others_are name le))
        ∙ ap (λ files. get_or files (place name - 4) name) others_are
        ∙ sym (in_others first_files file.StopTimes other_files refl name (place name - 4))
        ∙ ap (λ k. get_or all_files k name) here
        ∙ named name name

    pub other_table : table_in (tables_with first calls others) name ≡ read.table
    other_table =
        ap (λ k. get_or (tables_with first calls others) k []) (sym here)
        ∙ in_others (map (λ (r : TableOf). r.table) first) calls (map (λ (r : TableOf). r.table) others) (length-map first (λ (r : TableOf). r.table) ∙ three_first first first_are) [] (place name - 4)
        ∙ get_or-map (λ (r : TableOf). r.table) others (place name - 4) read [] (others_within others others_are name le) ∙ ap (λ (r : TableOf). r.table) (sym at)

-- between them stands that of stop_times.txt
pub calls_between : (first others : List TableOf) (calls : FileTable) → map (λ (read : TableOf). read.file) first ≡ first_files → table_in (tables_with first calls others) file.StopTimes ≡ calls
calls_between first others calls are =
    let three : length (map (λ (r : TableOf). r.table) first) ≡ 3 = length-map first (λ (r : TableOf). r.table) ∙ three_first first are in
    let e : 3 ≡ length (map (λ (r : TableOf). r.table) first) + 0 = omega (arith, three) in
    rw e (get_or-append-add (map (λ (r : TableOf). r.table) first) (calls ∷ map (λ (r : TableOf). r.table) others) 0 [])

-- The ids of a column: their keys, the earliest row with each, and the slots in which they are looked for first.
use Rattle.std.specs.Prelude.{◌≡◌, ◌≢◌, ℕ, zero, suc, ◌+◌, ◌*◌, ◌<◌, ◌≤◌, ◌^◌, List, length, slice_index, min, true, Some, IfSome, All, Any}
use Rattle.std.specs.Cmp.Lexicographic.{slice_cmp}
use Rattle.std.specs.List.Sorted.{IsStrictlySortedBy}
use Rattle.std.specs.Ordering.{nat_cmp, ordering_then}
use Rattle.std.specs.declared.cmp.Ordering.{Ordering}
use Rattle.feed_files.specs.declared.names.ColumnName.{ColumnName}
use Rattle.feed_faults.specs.FieldGrammars.{is_id}
use Rattle.feed_faults.specs.Records.{FileTable, row_count, field}
use Rattle.feed_faults.specs.RowKeys.{row_of}
use Rattle.feed_text.specs.RowLimits.{row_limit}
use Rattle.feed_tables.specs.declared.id_rows.IdRow.{IdRow}
use Rattle.feed_tables.specs.declared.slots.Slot.{Slot}
use Rattle.feed_tables.specs.declared.slots.Slots.{Slots}
use Rattle.feed_tables.specs.declared.index.IdStart.{IdStart}

-- the number that the first n bytes make, the first of them the least; past the end of a text bytes count as 0
abbrev pub start_below : ℕ → List ℕ → ℕ
start_below zero text = 0
start_below (suc n) text = start_below n text + slice_index text n * 256 ^ n

-- a number is the key of an id, a text of bytes: its first seven bytes and, above these, its length, of which one byte is kept
pub record IsKeyOf (key : ℕ) (id : List ℕ) : Type 0 where
  pub number : key ≡ start_below 7 id + min (length id) 255 * 256 ^ 7
  pub bytes : (k : ℕ) → slice_index id k < 256

-- the order of ids: that of their keys, and of those with one key that of their bytes
abbrev pub id_order : IdRow → IdRow → Ordering
id_order a b = ordering_then (nat_cmp a.key b.key) (slice_cmp nat_cmp a.id.now b.id.now)

-- the list has each id of the column once, with its key and the earliest row with it, in the order of ids
pub record AreIdRows (table : FileTable) (name : ColumnName) (rows : List IdRow) : Type 0 where
  pub sorted : IsStrictlySortedBy id_order rows
  pub keyed : All (λ (entry : IdRow). IsKeyOf entry.key entry.id.now) rows
  pub earliest : All (λ (entry : IdRow). row_of table name entry.id.now ≡ Some entry.row) rows
  pub all : (row : ℕ) → row < row_count table → Any (λ (entry : IdRow). entry.id.now ≡ field table row name) rows
  pub few : length rows ≤ row_limit

-- the key that a slot keeps by halves
abbrev pub slot_key : Slot → ℕ
slot_key slot = slot.low + slot.high * 2 ^ 32

-- the key of a slot without an id, which no id has
abbrev pub no_key : ℕ
no_key = 1

-- an id of the grammar of ids with the key and the row of a slot
abbrev pub IsEntry : Slot → IdRow → Type 0
IsEntry slot entry = (entry.key ≡ slot_key slot) × (entry.row ≡ slot.row) × (is_id entry.id.now ≡ true)

-- there are buckets and slots, and a slot that isn't free has the key and the row of an id
pub record AreSlots (rows : List IdRow) (slots : Slots) : Type 0 where
  pub piloted : 1 ≤ length slots.pilots.items
  pub few_pilots : length slots.pilots.items < 2 ^ 32
  pub some : 1 ≤ length slots.entries.items
  pub few : length slots.entries.items < 2 ^ 32
  pub are : All (λ (slot : Slot). slot_key slot ≢ no_key → Any (IsEntry slot) rows) slots.entries.items

-- the earliest row with a text is this one, and the text is an id by the grammar
abbrev pub IsFound : FileTable → ColumnName → ℕ → List ℕ → Type 0
IsFound table name row text = (row_of table name text ≡ Some row) × (is_id text ≡ true)

-- a look-up has the key of this id and, where it knows a row already, the one that is looked for
pub record IsBegun (table : FileTable) (name : ColumnName) (start : IdStart) (id : List ℕ) : Type 0 where
  pub key : IsKeyOf start.key id
  pub known : IfSome start.known (λ row. IsFound table name row id)

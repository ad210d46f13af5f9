-- Slots hold ids of a column.
use Rattle.std.proofs.Common.{◌≡◌, sym, ◌∙◌, ap, subst, ℕ, ◌^◌, ◌<◌, ◌≤◌, List, length, get_or, true}
use Rattle.std.specs.Prelude.{◌≢◌, replicate, Some, Any}
use Rattle.std.proofs.lemmas.List.{length-replicate, length-set}
use Rattle.std.proofs.lemmas.List.Elements.{All-contains, All-replicate, All-set}
use Rattle.std.proofs.Math.ListN.{set}
use Rattle.feed_files.specs.declared.names.ColumnName.{ColumnName}
use Rattle.feed_faults.specs.FieldGrammars.{is_id}
use Rattle.feed_faults.specs.Records.{FileTable, row_count, field}
use Rattle.feed_faults.specs.RowKeys.{row_of}
use Rattle.feed_tables.specs.declared.id_rows.IdRow.{IdRow}
use Rattle.feed_tables.specs.declared.slots.Slot.{Slot}
use Rattle.feed_tables.specs.declared.slots.Slots.{Slots}
use Rattle.feed_tables.specs.IdRows.{IsKeyOf, IsFound, AreIdRows, slot_key, no_key, IsEntry, AreSlots}
use Rattle.feed_tables.proofs.KeyLaws.{same_id, has_key}
use Rattle.feed_tables.proofs.IdLaws.{field_there, row_of_within}

-- a slot is free, or has an id's key and row
abbrev IsRight : List IdRow → Slot → Type 0
IsRight rows slot = slot_key slot ≢ no_key → Any (IsEntry slot) rows

-- slots without ids are right
pub free_slots : (rows : List IdRow) (slots : Slots) (count some : ℕ) (free : Slot) → 1 ≤ count → count < 2 ^ 32 → 1 ≤ some → some < 2 ^ 32
    → slots.pilots.items ≡ replicate some 0 → slots.entries.items ≡ replicate count free → slot_key free ≡ no_key → AreSlots rows slots
free_slots rows slots count some free le lt one below pilots entries none = record {
  piloted = rw (pilots, length-replicate {A = ℕ} some 0) one;
  few_pilots = rw (pilots, length-replicate {A = ℕ} some 0) below;
  some = rw (entries, length-replicate {A = Slot} count free) le;
  few = rw (entries, length-replicate {A = Slot} count free) lt;
  are = rw entries (All-replicate (IsRight rows) count free (λ taken. absurd (taken none)));
}

-- they stay right where one gets an id
pub put_id : (rows : List IdRow) (before after : Slots) (place slot : ℕ) (entry : IdRow) (made : Slot) → AreSlots rows before
    → place < length rows → get_or rows place entry ≡ entry → is_id entry.id.now ≡ true → slot_key made ≡ entry.key → made.row ≡ entry.row
    → after.pilots ≡ before.pilots → after.entries.items ≡ set before.entries.items slot made → AreSlots rows after
put_id rows before after place slot entry made was lt is sound key row same entries = record {
  piloted = rw same was.piloted;
  few_pilots = rw same was.few_pilots;
  some = rw (entries, length-set before.entries.items slot made) was.some;
  few = rw (entries, length-set before.entries.items slot made) was.few;
  are = rw entries (All-set (IsRight rows) before.entries.items slot made (λ taken. (place, entry, lt, is, (sym key, sym row, sound))) was.are);
}

-- the row in a slot with the key of an id
module _ (table : FileTable) (name : ColumnName) (rows : List IdRow) (slots : Slots) (right : AreSlots rows slots) (ids : AreIdRows table name rows)
    (place : ℕ) (slot : Slot) (lt : place < length slots.entries.items) (at : slot ≡ get_or slots.entries.items place slot) (id : List ℕ) (is : IsKeyOf (slot_key slot) id) where
  there : Any (IsEntry slot) rows
  there = subst (IsRight rows) (sym at) (right.are place slot lt) (has_key (slot_key slot) id is)

  found : row_of table name there.1.id.now ≡ Some slot.row
  found = All-contains (λ (x : IdRow). row_of table name x.id.now ≡ Some x.row) rows there.1 ids.earliest (there.0, there.2, there.3) ∙ ap Some there.4.1

  own : IsFound table name slot.row there.1.id.now
  own = (found, there.4.2)

  -- is one of the table
  pub row_within : slot.row < row_count table
  row_within = row_of_within table name there.1.id.now (Some slot.row) (sym found)

  -- and is found by its id
  pub by_text : field table slot.row name ≡ id → IsFound table name slot.row id
  by_text same = subst (IsFound table name slot.row) (field_there table name there.1.id.now slot.row found ∙ same) own

  -- and, where this is short, by its key
  pub by_key : length id ≤ 7 → IsFound table name slot.row id
  by_key short =
      let keyed : IsKeyOf there.1.key there.1.id.now = All-contains (λ (x : IdRow). IsKeyOf x.key x.id.now) rows there.1 ids.keyed (there.0, there.2, there.3) in
      subst (IsFound table name slot.row) (same_id there.1.id.now id (slot_key slot) (subst (λ k. IsKeyOf k there.1.id.now) there.4.0 keyed) is short) own

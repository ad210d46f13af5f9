-- Headers, and the columns that are found in them.
use Rattle.std.proofs.Common.{◌≡◌, ℕ, zero, suc, ◌<◌, ◌≤◌, Bool, true, false, [], ◌∷◌, length, refl, sym, ap, ap₂, ◌∙◌, arith, None, Some, nat_lt}
use Rattle.std.specs.Prelude.{nat_le, not, ◌&&◌, List, Option, option_map, option_and_then, is_none, slice_get, if◌then◌else◌}
use Rattle.std.specs.List.{find}
use Rattle.std.specs.Option.{option_or}
use Rattle.std.specs.Str.{is_utf8}
use Rattle.std.proofs.lemmas.Bool.Decides.{nat_tests}
use Rattle.feed_files.specs.declared.names.FileName.{FileName}
use Rattle.feed_files.specs.declared.faults.FaultKind.TheVariants as kind
use Rattle.plain_laws.specs.Plain.{when, any_below, first_below, first_in}
use Rattle.plain_laws.proofs.Laws.{option_or-assoc}
use Rattle.feed_faults.specs.Records.{FileTable, row_count, column_of, table_of_bytes}
use Rattle.feed_faults.specs.FaultPlaces.{file_fault, column_fault}
use Rattle.feed_faults.specs.FileColumns.{columns_of}
use Rattle.feed_faults.specs.declared.columns.ColumnRule.{ColumnRule}
use Rattle.feed_faults.specs.FormFaults.{form_fault_of_bytes, form_fault_of_table, header_fault, doubled_column, missing_column, is_needed_column, is_twice}

-- no number below the first that may pass does
pub none_before : (past : ℕ) (test : ℕ → Bool) (n : ℕ) → n ≤ past → any_below n (λ c. nat_le past c && test c) ≡ false
none_before past test zero le = refl
none_before past test (suc n) le =
    let no : nat_le past n ≡ false = grind (arith, nat_tests, le) in
    rw (none_before past test n (omega (arith, le)), no) refl

-- a table with too many rows
pub too_many : (needed : Bool) (most : ℕ) (file : FileName) (table : FileTable) → None ≡ when (nat_le (row_count table) most) table
    → form_fault_of_table needed most file table ≡ Some (file_fault file kind.TooManyRows)
unfolding form_fault_of_table
too_many needed most file table e =
    let past = over (row_count table) most table (nat_le (row_count table) most) refl e in
    let some : nat_lt 0 (length table) ≡ true = grind (arith, nat_tests, past) in
    let more : nat_lt most (row_count table) ≡ true = grind (arith, nat_tests, past) in
    rw (some, more) refl
  where
    over : {X : Type 0} (n most : ℕ) (x : X) (b : Bool) → nat_le n most ≡ b → None ≡ when b x → most < n
    over n most x true t e = absurd (cc)
    over n most x false t e = grind (arith, nat_tests, t)

-- and one with few enough
pub few_enough : (most : ℕ) (kept table : FileTable) → Some kept ≡ when (nat_le (row_count table) most) table
    → (kept ≡ table) × (nat_lt most (row_count table) ≡ false)
few_enough most kept table e = fitting (nat_le (row_count table) most) refl e
  where
    fitting : (b : Bool) → nat_le (row_count table) most ≡ b → Some kept ≡ when b table → (kept ≡ table) × (nat_lt most (row_count table) ≡ false)
    fitting true fits e = (cc, grind (arith, nat_tests, fits))
    fitting false fits e = absurd (cc)

-- bytes that aren't UTF-8
pub not_text : (needed : Bool) (most : ℕ) (file : FileName) (bytes : List ℕ) → is_utf8 bytes ≡ false
    → form_fault_of_bytes needed most file bytes ≡ Some (file_fault file kind.NotUtf8)
unfolding form_fault_of_bytes
not_text needed most file bytes other = rw other refl

-- those that are and make too long a table
pub too_long_text : (needed : Bool) (most : ℕ) (file : FileName) (bytes : List ℕ) → is_utf8 bytes ≡ true
    → None ≡ when (nat_le (row_count (table_of_bytes bytes)) most) (table_of_bytes bytes)
    → form_fault_of_bytes needed most file bytes ≡ Some (file_fault file kind.TooManyRows)
unfolding form_fault_of_bytes
too_long_text needed most file bytes is long = rw (is, too_many needed most file (table_of_bytes bytes) long) refl

-- and those that make one that is kept: without a record it may be needed, and with one its header has the first fault
module _ (needed : Bool) (most : ℕ) (file : FileName) (bytes : List ℕ) (kept : FileTable) (is : is_utf8 bytes ≡ true)
    (fits : Some kept ≡ when (nat_le (row_count (table_of_bytes bytes)) most) (table_of_bytes bytes)) where
  kept_text : (some : Bool) → nat_lt 0 (length kept) ≡ some
      → form_fault_of_bytes needed most file bytes ≡ (if some then header_fault file kept else when needed (file_fault file kind.MissingFile))
  unfolding form_fault_of_bytes form_fault_of_table
  kept_text some e = let few = few_enough most kept (table_of_bytes bytes) fits in rw (is, few.1, ← few.0, e) refl

  pub empty_text : not (nat_lt 0 (length kept)) ≡ true → form_fault_of_bytes needed most file bytes ≡ when needed (file_fault file kind.MissingFile)
  empty_text none = kept_text false (flipped (nat_lt 0 (length kept)) none)
    where
      flipped : (b : Bool) → not b ≡ true → b ≡ false
      flipped true e = absurd (cc)
      flipped false e = refl

  pub filled_text : not (nat_lt 0 (length kept)) ≡ false → form_fault_of_bytes needed most file bytes ≡ header_fault file kept
  filled_text some = kept_text true (flipped (nat_lt 0 (length kept)) some)
    where
      flipped : (b : Bool) → not b ≡ false → b ≡ true
      flipped true e = refl
      flipped false e = absurd (cc)

-- what stands at the first number, or the first behind it
first_head : {X : Type 0} (g : ℕ → Option X) (n : ℕ) → first_below (suc n) g ≡ option_or (g 0) (first_below n (λ i. g (suc i)))
first_head g zero = none_right (g 0)
  where
    none_right : {X : Type 0} (o : Option X) → o ≡ option_or o None
    none_right None = refl
    none_right (Some x) = refl
first_head g (suc n) = ap (λ o. option_or o (g (suc n))) (first_head g n) ∙ option_or-assoc (g 0) (first_below n (λ i. g (suc i))) (g (suc n))

-- the first fault of those that have one is that of the first that fails
pub first_made : {X Y : Type 0} (ys : List Y) (test : Y → Bool) (make : Y → X) → first_in ys (λ y. when (test y) (make y)) ≡ option_map make (find test ys)
first_made [] test make = refl
first_made {X} {Y} (y ∷ ys) test make =
    first_head (λ i. option_and_then (λ y. when (test y) (make y)) (slice_get (y ∷ ys) i)) (length ys)
    ∙ ap (λ o. option_or (when (test y) (make y)) o) (first_made ys test make) ∙ choose (test y)
  where
    choose : (b : Bool) → option_or (when b (make y)) (option_map make (find test ys)) ≡ option_map make (if b then Some y else find test ys)
    choose true = refl
    choose false = refl

-- the first fault of a header, by the first columns that are wrong
pub wrong_columns : (file : FileName) (table : FileTable) (doubled missing : Option ColumnRule)
    → doubled ≡ find (λ (rule : ColumnRule). is_twice table rule.name) (columns_of file)
    → missing ≡ find (λ (rule : ColumnRule). is_needed_column rule.empty && is_none (column_of table rule.name)) (columns_of file)
    → option_or (option_map (λ (rule : ColumnRule). column_fault file rule.name kind.DoubledColumn) doubled) (option_map (λ (rule : ColumnRule). column_fault file rule.name kind.MissingColumn) missing) ≡ header_fault file table
unfolding header_fault doubled_column missing_column
wrong_columns file table doubled missing twice absent =
    ap₂ option_or
    (ap (option_map (λ (rule : ColumnRule). column_fault file rule.name kind.DoubledColumn)) twice ∙ sym (first_made (columns_of file) (λ (rule : ColumnRule). is_twice table rule.name) (λ (rule : ColumnRule). column_fault file rule.name kind.DoubledColumn)))
    (ap (option_map (λ (rule : ColumnRule). column_fault file rule.name kind.MissingColumn)) absent ∙ sym (first_made (columns_of file) (λ (rule : ColumnRule). is_needed_column rule.empty && is_none (column_of table rule.name)) (λ (rule : ColumnRule). column_fault file rule.name kind.MissingColumn)))

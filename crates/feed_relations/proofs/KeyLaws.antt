-- Keys of numbers in place of texts: rows have one key exactly where they are the same.
use Rattle.std.proofs.Common.{◌≡◌, refl, sym, ◌∙◌, ap, ℕ, ◌<◌, ◌≤◌, Bool, true, false, List, [], ◌∷◌, arith}
use Rattle.std.specs.Prelude.{◌==◌, ◌&&◌, bytes_eq, pos, Option, Some, None}
use Rattle.std.specs.Cmp.{IsTotalOrder}
use Rattle.std.specs.declared.cmp.Ordering.{Ordering}
use Rattle.std.specs.Ordering.{nat_cmp, int_cmp, int_eq, ordering_then, eq_by_cmp}
use Rattle.std.proofs.lemmas.Cmp.{then_total, on_total, nat_cmp_total, int_cmp_total}
use Rattle.std.proofs.lemmas.Bool.{eqb-true, eq-eqb}
use Rattle.std.proofs.lemmas.Bool.Decides.{Decides-int_eq, nat_tests}
use Rattle.std.proofs.lemmas.Slice.Eq.{bytes_eq-Decides}
use Rattle.feed_files.specs.declared.names.FileName.{FileName}
use Rattle.feed_files.specs.declared.names.FileName.TheVariants as file
use Rattle.feed_files.specs.declared.names.ColumnName.{ColumnName}
use Rattle.feed_files.specs.declared.names.ColumnName.TheVariants.{TripId, ServiceId, Date, FareProductId, RiderCategoryId, FareMediaId}
use Rattle.plain_laws.specs.Plain.{any_below}
use Rattle.plain_laws.proofs.Laws.{find_below_some, same_test, int_eq-int_same, any_below-same, then_equal, number_equal}
use Rattle.feed_faults.specs.Records.{FileTable, row_count, field, is_filled}
use Rattle.feed_faults.specs.FeedTables.{FeedTables, table_in}
use Rattle.feed_faults.specs.FieldValues.{day_or_zero}
use Rattle.feed_faults.specs.RowKeys.{row_of, is_unknown, is_repeated, same_field}
use Rattle.feed_faults.specs.RowChecks.{same_key}
use Rattle.feed_faults.specs.ServiceRelations.{same_exception, same_start}
use Rattle.feed_faults.specs.FareRelations.{same_product}
use Rattle.feed_faults.specs.AcceptedFeed.{row_number}
use Rattle.feed_tables.specs.RowNumbers.{has_table}
use Rattle.feed_relations.specs.declared.keys.RowKey.{RowKey}
use Rattle.feed_relations.specs.RowKeys.{key, row_key, IsKeyKnown}
use Rattle.feed_relations.proofs.TripNumberLaws.{row_tells}

-- an empty text is the only one that isn't filled
not_filled : (text : List ℕ) → is_filled text ≡ false → text ≡ []
not_filled [] e = refl
not_filled (c ∷ cs) e = absurd (cc)

-- texts that aren't unknown have one number exactly where they are one
pub number_same : (table : FileTable) (name : ColumnName) (a b : List ℕ) → is_unknown table name a ≡ false → is_unknown table name b ≡ false → (row_number table name a == row_number table name b) ≡ bytes_eq a b
number_same table name a b known also =
    same_test (row_number table name a == row_number table name b) (bytes_eq a b)
    (λ e. (bytes_eq-Decides a b).1 (step (row_of table name a) refl (row_of table name b) refl (eqb-true (row_number table name a) (row_number table name b) e)))
    (λ e. eq-eqb (row_number table name a) (row_number table name b) (ap (row_number table name) ((bytes_eq-Decides a b).0 e)))
  where
    none : (text : List ℕ) → is_unknown table name text ≡ false → row_of table name text ≡ None → text ≡ []
    none text is e = not_filled text (by (is_filled text) (rw e at is))
      where
        by : (f : Bool) → (f && true) ≡ false → f ≡ false
        by true is = is
        by false is = refl

    step : (o : Option ℕ) → row_of table name a ≡ o → (p : Option ℕ) → row_of table name b ≡ p → row_number table name a ≡ row_number table name b → a ≡ b
    step (Some r) ea (Some s) eb same =
        let at : r ≡ s = rw (ea, eb) at same in
        (row_tells table name a r ea).1 ∙ ap (λ k. field table k name) at ∙ sym (row_tells table name b s eb).1
    step None ea (Some s) eb same =
        let lt = (row_tells table name b s eb).0 in
        let at : row_count table ≡ s = rw (ea, eb) at same in
        absurd (omega arith)
    step (Some r) ea None eb same =
        let lt = (row_tells table name a r ea).0 in
        let at : r ≡ row_count table = rw (ea, eb) at same in
        absurd (omega arith)
    step None ea None eb same = none a known ea ∙ sym (none b also eb)

-- what stands in a column isn't unknown there
pub own_known : (table : FileTable) (name : ColumnName) (row : ℕ) → row < row_count table → is_unknown table name (field table row name) ≡ false
unfolding row_of
own_known table name row lt =
    let found = find_below_some (λ r. bytes_eq (field table row name) (field table r name)) (row_count table) row lt ((bytes_eq-Decides (field table row name) (field table row name)).1 refl) in
    rw found.1 (by (is_filled (field table row name)))
  where
    by : (f : Bool) → (f && false) ≡ false
    by true = refl
    by false = refl

-- rows have one number in their own column exactly where they have one field
pub own_same : (table : FileTable) (name : ColumnName) (a b : ℕ) → a < row_count table → b < row_count table → (row_number table name (field table a name) == row_number table name (field table b name)) ≡ same_field table name a b
own_same table name a b la lb = number_same table name (field table a name) (field table b name) (own_known table name a la) (own_known table name b lb)

-- by each number in turn
abbrev pub key_order : RowKey → RowKey → Ordering
key_order a b = ordering_then (nat_cmp a.0 b.0) (ordering_then (int_cmp a.1 b.1) (nat_cmp a.2 b.2))

key_parts : (a b : RowKey) → eq_by_cmp key_order a b ≡ ((a.0 == b.0) && (int_eq a.1 b.1 && (a.2 == b.2)))
key_parts a b =
    then_equal (nat_cmp a.0 b.0) (ordering_then (int_cmp a.1 b.1) (nat_cmp a.2 b.2))
    ∙ rw (then_equal (int_cmp a.1 b.1) (nat_cmp a.2 b.2), number_equal a.0 b.0, number_equal a.2 b.2) refl

-- the order of keys is one
pub key_total : IsTotalOrder key_order
key_total = then_total (on_total (λ (k : RowKey). k.0) nat_cmp_total) (then_total (on_total (λ (k : RowKey). k.1) int_cmp_total) (on_total (λ (k : RowKey). k.2) nat_cmp_total))

pos_same : (m n : ℕ) → int_eq (pos m) (pos n) ≡ (m == n)
pos_same m n = same_test (int_eq (pos m) (pos n)) (m == n) (λ e. eq-eqb m n (let is = (Decides-int_eq (pos m) (pos n)).0 e in cc)) (λ e. (Decides-int_eq (pos m) (pos n)).1 (ap pos (eqb-true m n e)))

alone : (a b : Bool) → a && (b && true) ≡ a && b
alone true true = refl
alone true false = refl
alone false b = refl

grouped : (a b c : Bool) → a && (b && c) ≡ a && b && c
grouped true b c = refl
grouped false b c = refl

-- rows whose keys are known have one key of numbers exactly where they have one key
abbrev DoKeysTell : FeedTables → FileName → Type 0
DoKeysTell t name =
    (a b : ℕ) → a < b → b < row_count (table_in t name) → IsKeyKnown t name a → IsKeyKnown t name b
    → eq_by_cmp key_order (row_key t name b) (row_key t name a) ≡ same_key name (table_in t name) b a

-- the numbers of two rows differ
differ : (a b : ℕ) → a < b → eq_by_cmp key_order (key b (pos 0) 0) (key a (pos 0) 0) ≡ false
differ a b lt = key_parts (key b (pos 0) 0) (key a (pos 0) 0) ∙ grind (arith, nat_tests)

module _ (t : FeedTables) where
  exceptions_tell : DoKeysTell t file.CalendarDates
  unfolding same_exception
  exceptions_tell a b lt within ka kb =
      let table = table_in t file.CalendarDates in
      key_parts (row_key t file.CalendarDates b) (row_key t file.CalendarDates a)
      ∙ rw (own_same table ServiceId b a within (omega arith), int_eq-int_same (day_or_zero (field table b Date)) (day_or_zero (field table a Date))) (alone _ _)

  frequencies_tell : DoKeysTell t file.Frequencies
  unfolding same_start
  frequencies_tell a b lt within ka kb =
      let table = table_in t file.Frequencies in
      key_parts (row_key t file.Frequencies b) (row_key t file.Frequencies a)
      ∙ rw (number_same (table_in t file.Trips) TripId (field table b TripId) (field table a TripId) kb ka, pos_same _ _) (alone _ _)

  products_tell : DoKeysTell t file.FareProducts
  unfolding same_product
  products_tell a b lt within ka kb =
      let table = table_in t file.FareProducts in
      key_parts (row_key t file.FareProducts b) (row_key t file.FareProducts a)
      ∙ rw (own_same table FareProductId b a within (omega arith), pos_same _ _, number_same (table_in t file.RiderCategories) RiderCategoryId (field table b RiderCategoryId) (field table a RiderCategoryId) kb.0 ka.0, number_same (table_in t file.FareMedia) FareMediaId (field table b FareMediaId) (field table a FareMediaId) kb.1 ka.1) (grouped (same_field table FareProductId b a) (same_field table RiderCategoryId b a) (same_field table FareMediaId b a))

  keys_tell : (name : FileName) → has_table name ≡ true → DoKeysTell t name
  keys_tell file.CalendarDates kept = exceptions_tell
  keys_tell file.Frequencies kept = frequencies_tell
  keys_tell file.FareProducts kept = products_tell
  keys_tell file.StopTimes kept = absurd (cc)
  keys_tell name kept = λ a b lt within ka kb. differ a b lt

  -- a row's key of numbers is repeated where its key is
  pub repeated_by_numbers : (name : FileName) (row below : ℕ) → has_table name ≡ true → below ≤ row_count (table_in t name) → ((row : ℕ) → row < below → IsKeyKnown t name row) → row < below → any_below row (λ r. eq_by_cmp key_order (row_key t name row) (row_key t name r)) ≡ is_repeated (same_key name (table_in t name)) row
  repeated_by_numbers name row below kept le known lt =
      any_below-same (λ r. eq_by_cmp key_order (row_key t name row) (row_key t name r)) (same_key name (table_in t name) row) row (λ r small.
      keys_tell name kept r row small (omega arith) (known r (omega arith)) (known row lt))

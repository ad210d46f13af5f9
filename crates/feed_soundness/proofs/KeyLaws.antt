-- Ids: what it says that a reference is known, and that no row repeats an earlier one.
use Rattle.std.proofs.Common.{◌≡◌, refl, sym, ◌∙◌, ap, ℕ, ◌<◌, ◌⊎◌, inl, inr, Bool, true, false, List}
use Rattle.std.specs.Prelude.{◌≢◌, Some, None, bytes_eq}
use Rattle.feed_files.specs.declared.names.ColumnName.{ColumnName}
use Rattle.plain_laws.specs.Plain.{find_below}
use Rattle.plain_laws.proofs.Laws.{IsFirst, NonePass, find_below_cases, find_below_tells, none_any, bytes_eq-true, eq-bytes_eq}
use Rattle.feed_faults.specs.Records.{FileTable, row_count, field, is_filled}
use Rattle.feed_faults.specs.RowKeys.{row_of, is_unknown, same_field, is_repeated, is_doubled}
use Rattle.feed_faults.specs.AcceptedFeed.{row_number}

-- some row has this id, and its number is that of the earliest
pub record IsKnown (table : FileTable) (name : ColumnName) (id : List ℕ) : Type 0 where
  pub within : row_number table name id < row_count table
  pub has : field table (row_number table name id) name ≡ id
  pub found : row_of table name id ≡ Some (row_number table name id)

-- a reference that may be empty is known where it is filled
abbrev pub MayBeKnown : FileTable → ColumnName → List ℕ → Type 0
MayBeKnown table name id = is_filled id ≡ true → IsKnown table name id

-- a reference that isn't unknown
pub known : (table : FileTable) (name : ColumnName) (id : List ℕ) → is_filled id ≡ true → is_unknown table name id ≡ false → IsKnown table name id
unfolding row_of
known table name id filled e = step (find_below_cases (λ row. bytes_eq id (field table row name)) (row_count table))
  where
    step : ((i : ℕ) × (find_below (row_count table) (λ row. bytes_eq id (field table row name)) ≡ Some i) × IsFirst (λ row. bytes_eq id (field table row name)) (row_count table) i)
        ⊎ ((find_below (row_count table) (λ row. bytes_eq id (field table row name)) ≡ None) × NonePass (λ row. bytes_eq id (field table row name)) (row_count table)) → IsKnown table name id
    step (inl hit) =
        let first = hit.2 in
        record {
          within = rw hit.1 first.within;
          has = rw hit.1 (sym (bytes_eq-true id (field table hit.0 name) first.passes));
          found = rw hit.1 refl;
        }
    step (inr none) = absurd (let no = rw (filled, none.0) at e in cc)

-- known ids of one number are equal
pub same_number : (table : FileTable) (name : ColumnName) (a b : List ℕ) → IsKnown table name a → IsKnown table name b → row_number table name a ≡ row_number table name b → a ≡ b
same_number table name a b one other same = sym one.has ∙ ap (λ row. field table row name) same ∙ other.has

-- a row that repeats no earlier one
pub apart : (same : ℕ → ℕ → Bool) (i j : ℕ) → is_repeated same j ≡ false → i < j → same j i ≡ false
apart same i j e lt = none_any (same j) j i e lt

-- no test both passes and fails
pub never_both : {b : Bool} → b ≡ true → b ≡ false → ⊥
never_both passes fails = cc

-- no two rows have one id
pub ids_apart : (table : FileTable) (name : ColumnName) (i j : ℕ) → is_doubled table name j ≡ false → i < j → field table i name ≢ field table j name
unfolding is_doubled
ids_apart table name i j e lt same =
    never_both (eq-bytes_eq (field table j name) (field table i name) (sym same)) (apart (same_field table name) i j e lt)

-- a row that is found is a row
pub row_within : (table : FileTable) (name : ColumnName) (id : List ℕ) (row : ℕ) → row_of table name id ≡ Some row → row < row_count table
unfolding row_of
row_within table name id row e = (find_below_tells (λ r. bytes_eq id (field table r name)) (row_count table) row e).within

-- Names and their numbers.
use Rattle.std.specs.Prelude.{◌≡◌, ℕ, ◌<◌, ◌≤◌, ◌^◌, All, List, length, map, true}
use Rattle.std.specs.Borrow.{Bor}
use Rattle.indexmap.specs.IndexSet.{IndexSet}
use Rattle.feed_files.specs.declared.names.ColumnName.{ColumnName}
use Rattle.feed_faults.specs.Records.{FileTable, row_count, field, is_filled}
use Rattle.feed_build.specs.declared.names.NameHash.{NameHash}

-- the names that a set has, in its order
abbrev pub names_in : IndexSet (Bor (List ℕ)) NameHash → List (List ℕ)
names_in set = map (λ k. k.now) set.keys

-- the places of these names are numbers of 32 bits, and each name can be an id
pub record IsNumbering (names : List (List ℕ)) : Type 0 where
  pub few : length names < 2 ^ 32
  pub filled : All (λ name. 1 ≤ length name) names
  pub short : All (λ name. length name ≤ 255) names

-- a name isn't longer than an id, if it is filled
abbrev pub IsShort : List ℕ → Type 0
IsShort name = is_filled name ≡ true → length name ≤ 255

-- so it is with each name of a column
abbrev pub AreShort : FileTable → ColumnName → Type 0
AreShort table column = (row : ℕ) → row < row_count table → IsShort (field table row column)

-- The tables of a feed, of which that of stop_times.txt isn't kept.
use Rattle.std.specs.Prelude.{◌≡◌, ◌++◌, ◌∷◌, ℕ, ◌≤◌, List, map}
use Rattle.feed_faults.specs.Records.{FileTable, row_count}
use Rattle.feed_faults.specs.FeedTables.{FeedTables}
use Rattle.feed_text.specs.RowLimits.{row_limit}
use Rattle.feed_tables.specs.RowNumbers.{TableOf, first_files, other_files}

-- the tables that are kept and that of stop_times.txt between them, in the order of the files
abbrev pub tables_with : List TableOf → FileTable → List TableOf → FeedTables
tables_with first calls others = map (λ (read : TableOf). read.table) first ++ calls ∷ map (λ (read : TableOf). read.table) others

-- the tables that are kept are those of the files before stop_times.txt and behind it, and there are so many stop times
pub record AreKept (first others : List TableOf) (calls : FileTable) (count : ℕ) : Type 0 where
  pub first_are : map (λ (read : TableOf). read.file) first ≡ first_files
  pub others_are : map (λ (read : TableOf). read.file) others ≡ other_files
  pub count_is : count ≡ row_count calls
  pub few : count ≤ row_limit

-- The rows of tables by their ids.
use Rattle.std.specs.Prelude.{◌≡◌, List, map}
use Rattle.feed_faults.specs.declared.checks.IdColumn.{IdColumn}
use Rattle.feed_faults.specs.declared.checks.IdColumn.TheVariants.{Stop, Trip}
use Rattle.feed_faults.specs.FeedTables.{FeedTables, table_in}
use Rattle.feed_faults.specs.RowChecks.{id_place}
use Rattle.feed_tables.specs.IndexedColumns.{IndexedColumn}
use Rattle.feed_tables.specs.declared.ids.CallIds.{CallIds}
use Rattle.feed_tables.specs.declared.ids.TheConstants.{OTHERS}

-- the rows of the tables by the ids of a column
abbrev pub indexed : FeedTables → IdColumn → IndexedColumn
indexed t column = record { table = table_in t (id_place column).0; name = (id_place column).1 }

-- the rows by the ids that stop times name
abbrev pub call_ids : FeedTables → CallIds
call_ids t = record { stops = indexed t Stop; trips = indexed t Trip }

-- these are the rows of the tables by all ids
pub record AreIds (t : FeedTables) (calls : CallIds) (others : List IndexedColumn) : Type 0 where
  pub calls_are : calls ≡ call_ids t
  pub others_are : others ≡ map (indexed t) OTHERS

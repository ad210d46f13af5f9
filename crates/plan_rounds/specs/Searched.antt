-- What is asked of a search by rounds for a table, and what its table must hold.
use Rattle.std.specs.Prelude.{◌≡◌, Bool, true, false, List}
use Rattle.feed_rows.specs.declared.fares.Triple.{Triple}
use Rattle.feed_rows.specs.declared.journeys.Query.{Query}
use Rattle.feed_rows.specs.FeedRows.{FeedRows}
use Rattle.feed_rows.specs.Journeys.{Asked}
use Rattle.feed_rows.specs.RoundTables.{RoundTable}
use Rattle.feed_rows.specs.ClosedTable.{IsClosedTable}
use Rattle.feed_rows.specs.SoundTable.{CoversJourneys}
use Rattle.round_terms.specs.declared.aim.Aim.{Aim}
use Rattle.round_table.specs.Tables.{FindsBut, IsExactTable, IsRealTable}

-- what the labels of a search are to cover: all partial journeys but those that a final outdoes, or those alone that matter for
-- the answer beside triples that are given; or they need cover nothing, where any finals will do
pub record AimParts : Type 0 where
  pub whole : Bool
  pub loose : Bool
  pub given : List Triple

abbrev pub aim_of : Aim → AimParts
aim_of aim = record { whole = aim.whole; loose = aim.loose; given = aim.given.now }

-- a feed, a query over it, and the aim
pub record Searched : Type 0 where
  pub feed : FeedRows
  pub query : Query
  pub whole : Bool
  pub loose : Bool
  pub given : List Triple

abbrev pub searched : Asked → AimParts → Searched
searched asked aim = record { feed = asked.feed; query = asked.query; whole = aim.whole; loose = aim.loose; given = aim.given }

-- the table of a search: its labels are real; one that isn't loose finds whatever is offered, but for what is given; and one that
-- is to be whole is exact, covers all partial journeys but those of which all is found that they lead to, and is closed
pub record IsTableOf (task : Searched) (table : RoundTable) : Type 0 where
  pub real : IsRealTable task.feed task.query table
  pub finds : task.loose ≡ false → FindsBut task.feed task.query task.given table
  pub exact : task.whole ≡ true → IsExactTable task.feed task.query table
  pub covers : task.whole ≡ true → CoversJourneys task.feed task.query table
  pub closed : task.whole ≡ true → IsClosedTable task.feed task.query table

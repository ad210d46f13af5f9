-- What a plan comes to: a table, and entries that were known before it.
use Rattle.std.specs.Prelude.{◌≡◌, ◌⊎◌, Bool, true, false, List, map, All, Contains}
use Rattle.feed_rows.specs.declared.fares.Entry.{Entry}
use Rattle.feed_rows.specs.declared.journeys.Query.{Query}
use Rattle.feed_rows.specs.FeedRows.{FeedRows}
use Rattle.feed_rows.specs.JourneyEntries.{IsEntry}
use Rattle.feed_rows.specs.ParetoTriples.{at_most}
use Rattle.pareto_front.specs.Fronts.{has_as_good}
use Rattle.plain_laws.specs.Adds.{Adds, OnlyBesides}
use Rattle.feed_rows.specs.Journeys.{Asked}
use Rattle.round_table.specs.Tables.{TableParts}
use Rattle.plan_rounds.specs.Searched.{IsTableOf, searched}
use Rattle.round_table.specs.Tables.{table_by}

-- a query over a feed, and whether the plan is to be whole, or to matter for the answer alone
pub record PlanOf : Type 0 where
  pub asked : Asked
  pub whole : Bool

-- the table is that of a search which isn't loose, to which the triples of these entries were given; and they are of the query
pub record IsPlanned (asked : Asked) (whole : Bool) (table : TableParts) (known : List Entry) : Type 0 where
  pub right : All (IsEntry asked.feed asked.query) known
  pub exact : IsTableOf
      (searched asked (record { whole = whole; loose = false; given = map (λ (entry : Entry). entry.triple) known })) (table_by table)

-- entries by their triples
abbrev pub as_good : Entry → Entry → Bool
as_good a b = at_most a.triple b.triple

-- what had something as good still has, and each of these entries has; what else is there was there before
abbrev pub AddsEntries : List Entry → List Entry → List Entry → Type 0
AddsEntries entries =
    Adds (OnlyBesides (Contains entries)) (λ list entry. has_as_good as_good list entry ≡ true) (Contains entries)

-- of each entry of the query some entry of the one list or of the other is at most its triple
abbrev pub CoversAllBy : FeedRows → Query → List Entry → List Entry → Type 0
CoversAllBy feed query known found =
    (entry : Entry) → IsEntry feed query entry →
    (has_as_good as_good found entry ≡ true) ⊎ (has_as_good as_good known entry ≡ true)

-- Tables of labels as the program keeps them, and what they must hold.
use Rattle.std.specs.Prelude.{◌≡◌, ◌⊎◌, ◌==◌, ◌&&◌, ℕ, Bool, true, List, All, Some}
use Rattle.std.specs.List.{list_any}
use Rattle.transit_base.specs.declared.numbers.StopId.{StopId}
use Rattle.feed_rows.specs.declared.journeys.Query.{Query}
use Rattle.feed_rows.specs.declared.states.Move.{Move}
use Rattle.feed_rows.specs.declared.fares.Entry.{Entry}
use Rattle.feed_rows.specs.declared.fares.Triple.{Triple}
use Rattle.feed_rows.specs.JourneyEntries.{CoversOffers, IsEntry}
use Rattle.feed_rows.specs.ParetoTriples.{at_most}
use Rattle.feed_rows.specs.FeedRows.{FeedRows}
use Rattle.feed_rows.specs.RoundTables.{RoundTable, entries_of}
use Rattle.feed_rows.specs.SoundTable.{AreReal, AreBags, IsWithoutExcess, EndsExactly, IsPruned}
use Rattle.plain_laws.specs.Plain.{ids_where}
use Rattle.fare_tariff.specs.declared.fare.Fare.{Fare}
use Rattle.round_terms.specs.declared.finals.Final.{Final}
use Rattle.round_terms.specs.declared.label.Label.{Label}
use Rattle.round_table.specs.Finals.{finals_of}
use Rattle.round_table.specs.Labels.{labels_of}

-- the label has so many rides and is at the stop
abbrev pub is_at : ℕ → StopId → Label Fare Move → Bool
is_at rides stop label = (label.rides == rides) && (label.stop.0 == stop.0)

-- the table of these labels and finals
abbrev pub table_in : List (Label Fare Move) → List Final → RoundTable
table_in labels finals =
    record { labels = labels_of labels; bag = λ rides stop. ids_where (λ i. i) (is_at rides stop) labels; finals = finals_of finals }

-- what the program keeps of a table
pub record TableParts : Type 0 where
  pub labels : List (Label Fare Move)
  pub finals : List Final

-- the table of these parts
abbrev pub table_by : TableParts → RoundTable
table_by parts = table_in parts.labels parts.finals

-- whatever is offered, some entry by which a final ends is at most it
abbrev pub CoversAllOffers : FeedRows → Query → RoundTable → Type 0
CoversAllOffers feed query table =
    (entries : List Entry) → entries_of table ≡ Some entries → CoversOffers feed query entries

-- its finals end by entries of the query
abbrev pub HasEntries : FeedRows → Query → RoundTable → Type 0
HasEntries feed query table = (entries : List Entry) × (entries_of table ≡ Some entries) × All (IsEntry feed query) entries

-- the labels are real, the bags have them, none is in excess or outdone by a final with fewer rides, and the finals end by entries
pub record IsRealTable (feed : FeedRows) (query : Query) (table : RoundTable) : Type 0 where
  pub real : AreReal feed query table
  pub bags : AreBags table
  pub no_excess : IsWithoutExcess table
  pub pruned : IsPruned feed query table
  pub entries : HasEntries feed query table

-- the finals are the exact answer, and cover whatever is offered
pub record IsExactTable (feed : FeedRows) (query : Query) (table : RoundTable) : Type 0 where
  pub exact : EndsExactly feed query table
  pub offers : CoversAllOffers feed query table

-- some of these triples is at most this one
abbrev pub is_given : List Triple → Triple → Type 0
is_given given triple = list_any (λ other. at_most other triple) given ≡ true

-- of each entry of the query some entry by which a final ends is at most its triple, or one of these triples is
abbrev pub FindsBut : FeedRows → Query → List Triple → RoundTable → Type 0
FindsBut feed query given table =
    (entries : List Entry) → entries_of table ≡ Some entries → (entry : Entry) → IsEntry feed query entry →
    (list_any (λ found. at_most found.triple entry.triple) entries ≡ true) ⊎ is_given given entry.triple

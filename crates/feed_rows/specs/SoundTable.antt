-- What a table of labels must hold to answer a query exactly.
use Rattle.std.specs.Prelude.{◌≡◌, ◌≢◌, ℕ, ◌<◌, ◌⊎◌, List, slice_get, AllPairs, Contains, Any, Some, IsTrue}
use Rattle.transit_base.specs.declared.numbers.StopId.{StopId}
use Rattle.feed_rows.specs.declared.fares.Entry.{Entry}
use Rattle.feed_rows.specs.declared.fares.Triple.{Triple}
use Rattle.feed_rows.specs.declared.journeys.Query.{Query}
use Rattle.feed_rows.specs.FeedRows.{FeedRows}
use Rattle.feed_rows.specs.Completions.{IsCompletion}
use Rattle.feed_rows.specs.FareFloor.{is_outdone}
use Rattle.feed_rows.specs.JourneyEntries.{IsExactAnswer}
use Rattle.feed_rows.specs.LabelCover.{Covers}
use Rattle.feed_rows.specs.ParetoTriples.{at_most}
use Rattle.feed_rows.specs.PartialJourneys.{PartialJourney, LabelFacts, IsPartialJourney, label_facts}
use Rattle.feed_rows.specs.RoundTables.{Label, Final, RoundTable, traced, entries_of}

-- the table has this label under this number
abbrev pub IsLabel : RoundTable → ℕ → Label → Type 0
IsLabel table number label = slice_get table.labels number ≡ Some label

-- the parents of the label lead back to a partial journey of the query, whose facts are the label's
pub record IsReal (feed : FeedRows) (query : Query) (table : RoundTable) (number : ℕ) (label : Label) : Type 0 where
  pub part : PartialJourney
  pub is_traced : traced table.labels label.facts.rides number ≡ Some part
  pub is_partial : IsPartialJourney feed query part
  pub has_facts : label_facts feed query part ≡ Some label.facts

abbrev pub AreReal : FeedRows → Query → RoundTable → Type 0
AreReal feed query table =
    (number : ℕ) (label : Label) → IsLabel table number label → IsReal feed query table number label

-- the bag has the numbers of exactly the labels of so many rides at the stop, each once
pub record IsBag (table : RoundTable) (rides : ℕ) (stop : StopId) : Type 0 where
  pub right : (number : ℕ) → Contains (table.bag rides stop) number
      → (label : Label) × IsLabel table number label × (label.facts.rides ≡ rides) × (label.facts.stop ≡ stop)
  pub all : (number : ℕ) (label : Label)
      → IsLabel table number label → label.facts.rides ≡ rides → label.facts.stop ≡ stop
      → Contains (table.bag rides stop) number
  pub once : AllPairs (λ m n. m ≢ n) (table.bag rides stop)

abbrev pub AreBags : RoundTable → Type 0
AreBags table = (rides : ℕ) (stop : StopId) → IsBag table rides stop

-- no label covers another
abbrev pub IsWithoutExcess : RoundTable → Type 0
IsWithoutExcess table =
    (m n : ℕ) (a b : Label) → IsLabel table m a → IsLabel table n b → m ≢ n → ¬ Covers a.facts b.facts

-- some label covers such facts
abbrev pub IsCovered : RoundTable → LabelFacts → Type 0
IsCovered table facts = Any (λ label. Covers label.facts facts) table.labels

-- what the partial journey leads to is found: some final is at most each triple of it
abbrev pub IsBettered : FeedRows → Query → RoundTable → PartialJourney → Type 0
IsBettered feed query table part =
    Any (λ final. (triple : Triple) → IsCompletion feed query part triple → IsTrue (at_most final.triple triple))
    table.finals

-- each partial journey is covered by a label, or what it leads to is found
abbrev pub CoversJourneys : FeedRows → Query → RoundTable → Type 0
CoversJourneys feed query table =
    (part : PartialJourney) (facts : LabelFacts)
    → IsPartialJourney feed query part → label_facts feed query part ≡ Some facts
    → IsCovered table facts ⊎ IsBettered feed query table part

-- the finals, each ended at its last stop, are the exact answer
abbrev pub EndsExactly : FeedRows → Query → RoundTable → Type 0
EndsExactly feed query table =
    (entries : List Entry) × (entries_of table ≡ Some entries) × IsExactAnswer feed query entries

-- no label is outdone by a final with fewer rides
abbrev pub IsPruned : FeedRows → Query → RoundTable → Type 0
IsPruned feed query table =
    (number : ℕ) (label : Label) (final : Final) → IsLabel table number label → Contains table.finals final
    → final.triple.rides < label.facts.rides → ¬ IsTrue (is_outdone feed query final.triple label.facts)

-- the table is sound: its labels are real, none of them is in excess or outdone, they cover all that the query needs,
-- and its finals are the exact answer
pub record IsSoundTable (feed : FeedRows) (query : Query) (table : RoundTable) : Type 0 where
  pub real : AreReal feed query table
  pub bags : AreBags table
  pub no_excess : IsWithoutExcess table
  pub covers : CoversJourneys feed query table
  pub exact : EndsExactly feed query table
  pub pruned : IsPruned feed query table

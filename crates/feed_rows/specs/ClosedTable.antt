-- What shows of a table of labels by itself that it lacks nothing: each label's continuations by one ride are in it
-- again.
use Rattle.std.specs.Prelude.{◌≡◌, ℕ, ◌<◌, ◌⊎◌, Any, Some, None, IsTrue}
use Rattle.transit_base.specs.declared.numbers.StopId.{StopId}
use Rattle.feed_rows.specs.declared.journeys.Query.{Query}
use Rattle.feed_rows.specs.declared.journeys.Ride.{Ride}
use Rattle.feed_rows.specs.declared.states.Move.{Move}
use Rattle.feed_rows.specs.FeedRows.{FeedRows}
use Rattle.feed_rows.specs.FareFloor.{is_outdone}
use Rattle.feed_rows.specs.Journeys.{stands_for}
use Rattle.feed_rows.specs.PartialJourneys.{PartialJourney, LabelFacts, IsPartialJourney, label_facts}
use Rattle.feed_rows.specs.RoundTables.{Label, RoundTable, traced, with_ride}
use Rattle.feed_rows.specs.SoundTable.{IsLabel, IsCovered}

-- some final outdoes such facts
abbrev pub IsOutdone : FeedRows → Query → RoundTable → LabelFacts → Type 0
IsOutdone feed query table facts = Any (λ final. IsTrue (is_outdone feed query final.triple facts)) table.finals

-- what one more ride makes of the partial journey of a label is covered by a label or outdone by a final, where it is
-- one of the query
abbrev pub IsClosed : FeedRows → Query → RoundTable → Type 0
IsClosed feed query table =
    (number : ℕ) (label : Label) (part : PartialJourney) (ride : Ride) (taken : Move) (facts : LabelFacts)
    → IsLabel table number label → traced table.labels label.facts.rides number ≡ Some part
    → IsPartialJourney feed query (with_ride part ride taken)
    → label_facts feed query (with_ride part ride taken) ≡ Some facts
    → IsCovered table facts ⊎ IsOutdone feed query table facts

-- each stop of the origin has a label without ride
abbrev pub HasStarts : FeedRows → Query → RoundTable → Type 0
HasStarts feed query table =
    (stop : StopId) → IsTrue (stands_for feed query.from stop)
    → Any (λ label. (label.facts.stop ≡ stop) × (label.ride ≡ None)) table.labels

-- a parent has a lesser number than its label
abbrev pub HasEarlierParents : RoundTable → Type 0
HasEarlierParents table =
    (number parent : ℕ) (label : Label) → IsLabel table number label → label.parent ≡ Some parent → parent < number

-- a label without ride has neither a parent nor a move
abbrev pub HasBareStarts : RoundTable → Type 0
HasBareStarts table =
    (number : ℕ) (label : Label) → IsLabel table number label → label.ride ≡ None
    → (label.parent ≡ None) × (label.taken ≡ None)

-- the table is closed
pub record IsClosedTable (feed : FeedRows) (query : Query) (table : RoundTable) : Type 0 where
  pub closed : IsClosed feed query table
  pub starts : HasStarts feed query table
  pub earlier : HasEarlierParents table
  pub bare : HasBareStarts table

-- What of the offer of a query a partial journey leads to.
use Rattle.std.specs.Prelude.{◌≡◌}
use Rattle.feed_rows.specs.declared.fares.Entry.{Entry}
use Rattle.feed_rows.specs.declared.fares.Triple.{Triple}
use Rattle.feed_rows.specs.declared.journeys.Query.{Query}
use Rattle.feed_rows.specs.FeedRows.{FeedRows}
use Rattle.feed_rows.specs.FareExtensions.{StartsWith, BeginsWith}
use Rattle.feed_rows.specs.JourneyEntries.{IsEntry}
use Rattle.feed_rows.specs.PartialJourneys.{PartialJourney}

-- the entry's journey starts where the partial one does, and its rides and its choice begin with that one's
pub record Completes (part : PartialJourney) (entry : Entry) : Type 0 where
  pub first : entry.journey.first ≡ part.first
  pub rides : StartsWith part.rides entry.journey.rides
  pub choice : BeginsWith part.choice entry.choice

-- the triple is that of an entry of the query which completes the partial journey
abbrev pub IsCompletion : FeedRows → Query → PartialJourney → Triple → Type 0
IsCompletion feed query part triple =
    (entry : Entry) × IsEntry feed query entry × Completes part entry × (entry.triple ≡ triple)

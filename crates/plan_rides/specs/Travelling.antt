-- The stops at which a traveller may board.
use Rattle.std.specs.Prelude.{◌≡◌, ◌⊎◌, ℕ, ◌<◌, List, None, Some, slice_get}
use Rattle.feed_rows.specs.declared.journeys.Ride.{Ride}
use Rattle.feed_rows.specs.FeedRows.{FeedRows}
use Rattle.feed_rows.specs.JourneyStands.{Stand}
use Rattle.feed_rows.specs.StopLinks.{link}
use Rattle.feed_walks.specs.declared.steps.Step.{Step}
use Rattle.plan_rides.specs.Departures.{BoardsAt}

-- the ride boards where one stands, and no walk leads from there to itself
abbrev pub IsBarred : FeedRows → Stand → Ride → Type 0
IsBarred feed stand ride = (link feed stand.stop stand.stop ≡ None) × BoardsAt feed stand.stop.0 ride

-- the ride boards where one of the first n walks leads
abbrev pub BoardsAmong : FeedRows → List Step → ℕ → Ride → Type 0
BoardsAmong feed walks n ride = (k : ℕ) × (k < n) × (step : Step) × (slice_get walks k ≡ Some step) × BoardsAt feed step.to.0 ride

-- the ride boards there, or where one stands though no walk leads to itself
abbrev pub BoardsNear : FeedRows → Stand → List Step → ℕ → Ride → Type 0
BoardsNear feed stand walks n ride = IsBarred feed stand ride ⊎ BoardsAmong feed walks n ride

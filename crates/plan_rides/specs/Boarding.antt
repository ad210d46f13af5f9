-- Where the rides of a search may board.
use Rattle.std.specs.Prelude.{◌≡◌, ◌⊎◌, ℕ, ◌<◌, Bool, true, ◌&&◌, List, slice_get, slice_index_or, Some, IsTrue}
use Rattle.transit_base.specs.declared.numbers.StopId.{StopId}
use Rattle.feed_rows.specs.declared.journeys.Query.{Query}
use Rattle.feed_rows.specs.declared.rows.StopTimeRow.{StopTimeRow}
use Rattle.feed_rows.specs.FeedRows.{FeedRows}
use Rattle.feed_rows.specs.JourneyStands.{Stand, first_stand, way_to}
use Rattle.feed_rows.specs.Journeys.{stands_for}
use Rattle.feed_walks.specs.declared.steps.Step.{Step}
use Rattle.plain_laws.specs.Adds.{Adds, AsMany}
use Rattle.plan_rides.specs.declared.scope.Scope.{Scope}

-- the stop is marked; a stop past the end of the marks counts as such
abbrev pub is_marked : List Bool → ℕ → Bool
is_marked marks stop = slice_index_or marks stop true

-- for which queries rides are sought, and marks of the stops at which these may board
pub record Seeking : Type 0 where
  pub scope : Scope
  pub marks : List Bool

abbrev pub seeking : Scope → List Bool → Seeking
seeking scope marks = record { scope = scope; marks = marks }

-- riders may board at the stop time, and its stop is marked
abbrev pub is_boarding : Seeking → StopTimeRow → Bool
is_boarding sought row = row.pickup && is_marked sought.marks row.stop.0

-- each stop is marked at which one may board from here
abbrev pub MarksFrom : FeedRows → Query → List Bool → Stand → Type 0
MarksFrom feed query marks stand = (stop : StopId) (way : ℕ) → way_to feed query stand stop ≡ Some way →
    is_marked marks stop.0 ≡ true

-- the stops are marked at which a first ride of a query from this stop may board, whenever it departs
abbrev pub AreFirstMarks : FeedRows → StopId → List Bool → Type 0
AreFirstMarks feed from marks =
    (query : Query) → query.from ≡ from → (first : StopId) → IsTrue (stands_for feed from first) →
    MarksFrom feed query marks (first_stand query first)

-- those are marked, and for more than one ride all
pub record AreMarks (feed : FeedRows) (sought : Seeking) : Type 0 where
  pub first : AreFirstMarks feed sought.scope.from sought.marks
  pub all : 1 < sought.scope.rides → (stop : ℕ) → is_marked sought.marks stop ≡ true

-- the new marks have those that were there, and one for each stop of this part
abbrev pub AddsMarks : (ℕ → Type 0) → List Bool → List Bool → Type 0
AddsMarks = Adds AsMany (λ (marks : List Bool) (stop : ℕ). is_marked marks stop ≡ true)

-- the stop is this first stop, or one of the first n walks leads there
abbrev pub IsNear : StopId → List Step → ℕ → ℕ → Type 0
IsNear first walks n stop =
    (stop ≡ first.0) ⊎ ((k : ℕ) × (k < n) × (step : Step) × (slice_get walks k ≡ Some step) × (step.to.0 ≡ stop))

-- the stops are marked at which a first ride may board from one of the first k of these stops
abbrev pub MarksFirsts : FeedRows → Query → List StopId → ℕ → List Bool → Type 0
MarksFirsts feed query firsts k marks =
    (first : StopId) → (i : ℕ) × (i < k) × (slice_get firsts i ≡ Some first) →
    MarksFrom feed query marks (first_stand query first)

-- the query has rides, and where it has one alone, one stands at a first stop
pub record MayRide (feed : FeedRows) (query : Query) (stand : Stand) : Type 0 where
  pub some : 0 < query.rides
  pub one : query.rides ≡ 1 →
      (first : StopId) × IsTrue (stands_for feed query.from first) × (stand ≡ first_stand query first)

-- the query has rides, and the stops are marked at which one may board from here
pub record MayBoard (feed : FeedRows) (query : Query) (marks : List Bool) (stand : Stand) : Type 0 where
  pub some : 0 < query.rides
  pub marked : MarksFrom feed query marks stand

-- the stop stands among the first k of a list
abbrev pub IsAmong : List StopId → ℕ → StopId → Type 0
IsAmong stops k stop = (i : ℕ) × (i < k) × (slice_get stops i ≡ Some stop)

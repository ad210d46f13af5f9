-- When the runs of a pattern depart: a column for each position.
use Rattle.std.specs.Prelude.{◌≡◌, ◌≢◌, ℕ, ◌<◌, ◌≤◌, ◌^◌, drop, List, length, map, slice_get, slice_index_or, Some, All, Contains, ℤ, ◌≤ℤ◌, ◌<ℤ◌}
use Rattle.std.specs.List.{AllPairs, AllWithin}
use Rattle.feed_rows.specs.declared.journeys.Call.{Call}
use Rattle.feed_rows.specs.FeedRows.{FeedRows}
use Rattle.feed_rows.specs.Calls.{calls_of}
use Rattle.plan_patterns.specs.declared.pattern.Boarding.{Boarding}
use Rattle.plan_patterns.specs.declared.pattern.Pattern.{Pattern}
use Rattle.plan_patterns.specs.declared.halts.Halt.{Halt}
use Rattle.plan_patterns.specs.declared.runs.Run.{Run}
use Rattle.plan_patterns.specs.Halts.{halts_of}
use Rattle.plan_patterns.specs.Runs.{IsKnown, moment_of}

-- one of the runs, by its number, and when it departs from its trip's call at a position
pub record IsBoarding (feed : FeedRows) (runs : List Run) (position : ℕ) (boarding : Boarding) : Type 0 where
  pub run : Run
  pub run_is : slice_get runs boarding.run ≡ Some run
  pub call : Call
  pub call_is : slice_get (calls_of feed run.trip) position ≡ Some call
  pub at : boarding.at.0 ≡ moment_of run call.departure

-- the run's trip has a call at the position
pub record CallsAt (feed : FeedRows) (position : ℕ) (run : Run) : Type 0 where
  pub known : IsKnown feed run
  pub calls : position < length (calls_of feed run.trip)

-- and at so many positions
pub record CallsAtAll (feed : FeedRows) (positions : ℕ) (run : Run) : Type 0 where
  pub known : IsKnown feed run
  pub calls : length (calls_of feed run.trip) ≡ positions

-- the first n runs by their numbers, with their departures from the position
pub record AreFirst (feed : FeedRows) (runs : List Run) (position n : ℕ) (boardings : List Boarding) : Type 0 where
  pub many : length boardings ≡ n
  pub right : All (IsBoarding feed runs position) boardings
  pub numbered : (k : ℕ) (d : Boarding) → k < n → (slice_index_or boardings k d).run ≡ k

-- none departs before one that stands earlier
abbrev pub AreInOrder : List Boarding → Type 0
AreInOrder boardings = AllPairs (λ (a : Boarding) (b : Boarding). a.at.0 ≤ℤ b.at.0) boardings

-- no run stands twice
abbrev pub AreApart : List Boarding → Type 0
AreApart boardings = AllPairs (λ (a : Boarding) (b : Boarding). a.run ≢ b.run) boardings

-- the departures of all runs from a position, each once, in order
pub record IsColumn (feed : FeedRows) (runs : List Run) (position : ℕ) (column : List Boarding) : Type 0 where
  pub right : All (IsBoarding feed runs position) column
  pub all : (boarding : Boarding) → IsBoarding feed runs position boarding → Contains column boarding
  pub once : AreApart column
  pub rises : AreInOrder column

-- the columns of so many positions
pub record AreColumns (feed : FeedRows) (runs : List Run) (positions : ℕ)
    (columns : List (List Boarding)) : Type 0 where
  pub many : length columns ≡ positions
  pub each : (position : ℕ) (column : List Boarding) → slice_get columns position ≡ Some column →
      IsColumn feed runs position column

-- what of a column is at the moment or later, where it is in order: all but the first so many
pub record IsSince (column : List Boarding) (from : ℤ) (listed : List Boarding) : Type 0 where
  pub first : ℕ
  pub within : first ≤ length column
  pub before : AllWithin (λ (b : Boarding). b.at.0 <ℤ from) column 0 first
  pub since : AllWithin (λ (b : Boarding). from ≤ℤ b.at.0) column first (length column)
  pub is : listed ≡ drop first column

-- the runs that depart from a position at the moment or later, each once, in order of departure
pub record AreBoardable (feed : FeedRows) (runs : List Run) (position : ℕ) (from : ℤ)
    (listed : List Boarding) : Type 0 where
  pub right : All (IsBoarding feed runs position) listed
  pub since : All (λ (b : Boarding). from ≤ℤ b.at.0) listed
  pub all : (b : Boarding) → IsBoarding feed runs position b → from ≤ℤ b.at.0 → Contains listed b
  pub once : AreApart listed
  pub rises : AreInOrder listed

-- the run is of a trip with these halts
pub record IsRunAt (feed : FeedRows) (halts : List Halt) (run : Run) : Type 0 where
  pub known : IsKnown feed run
  pub calls : halts_of feed run.trip ≡ halts

-- the columns of a pattern are those of its positions and its runs
pub record IsPattern (feed : FeedRows) (pattern : Pattern) : Type 0 where
  pub stops : pattern.stops.items ≡ map (λ (p : Halt). p.stop) pattern.halts.items
  pub few : length pattern.halts.items < 2 ^ 32
  pub runs : All (IsRunAt feed pattern.halts.items) pattern.runs.items
  pub departures : AreColumns feed pattern.runs.items (length pattern.halts.items) pattern.departures

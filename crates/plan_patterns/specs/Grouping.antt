-- Runs by patterns.
use Rattle.std.specs.Prelude.{◌≡◌, ◌≢◌, ℕ, List, [], map, slice_get, All, Contains}
use Rattle.std.specs.List.{AllPairs, flat_map}
use Rattle.std.specs.Option.{option_map_or}
use Rattle.transit_base.specs.declared.numbers.TripId.{TripId}
use Rattle.feed_rows.specs.FeedRows.{FeedRows}
use Rattle.plan_patterns.specs.declared.span.Span.{Span}
use Rattle.plan_patterns.specs.declared.pattern.Pattern.{Pattern}
use Rattle.plan_patterns.specs.declared.halts.Halt.{Halt}
use Rattle.plan_patterns.specs.declared.runs.Run.{Run}
use Rattle.plan_patterns.specs.Halts.{halts_of}
use Rattle.plan_patterns.specs.Runs.{IsHeldOf, IsKnown}

-- a pattern: the halts that all its trips have, and those of their runs that are held
pub record PatternOf : Type 0 where
  pub halts : List Halt
  pub runs : List Run

-- patterns of a feed
pub record PatternsOf : Type 0 where
  pub feed : FeedRows
  pub patterns : List PatternOf

-- a pattern without its columns
abbrev pub pattern_of : Pattern → PatternOf
pattern_of pattern = record { halts = pattern.halts.items; runs = pattern.runs.items }

-- the halts and the runs of a pattern by its number; none where there is no such pattern
abbrev pub halts_at : List PatternOf → ℕ → List Halt
halts_at patterns pattern = option_map_or (λ (p : PatternOf). p.halts) (slice_get patterns pattern) []

abbrev pub runs_at : List PatternOf → ℕ → List Run
runs_at patterns pattern = option_map_or (λ (p : PatternOf). p.runs) (slice_get patterns pattern) []

-- the halts of each
abbrev pub halts_by_pattern : List PatternOf → List (List Halt)
halts_by_pattern patterns = map (λ (p : PatternOf). p.halts) patterns

-- the runs of all patterns
abbrev pub all_runs : List PatternOf → List Run
all_runs patterns = flat_map (λ (p : PatternOf). p.runs) patterns

-- the run's trip has these halts
abbrev pub HasHalts : FeedRows → List Halt → Run → Type 0
HasHalts feed halts run = halts_of feed run.trip ≡ halts

-- two trips are of one pattern exactly where they have the same halts; the runs of these trips with a ride that departs
-- no earlier than the span begins and arrives no later than it ends stand in them, each once, and no others
pub record ArePatterns (feed : FeedRows) (span : Span) (trips : List TripId)
    (patterns : List PatternOf) : Type 0 where
  pub halts : All (λ (p : PatternOf). All (HasHalts feed p.halts) p.runs) patterns
  pub apart : AllPairs (λ (p : PatternOf) (q : PatternOf). p.halts ≢ q.halts) patterns
  pub held : (run : Run) → IsHeldOf feed span trips run → Contains (all_runs patterns) run
  pub right : All (IsHeldOf feed span trips) (all_runs patterns)
  pub known : All (IsKnown feed) (all_runs patterns)
  pub once : AllPairs (λ (a : Run) (b : Run). a ≢ b) (all_runs patterns)

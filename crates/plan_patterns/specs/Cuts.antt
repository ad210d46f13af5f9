-- Runs by the halts of their trips, and the patterns that they make up.
use Rattle.std.specs.Prelude.{◌≡◌, ◌≢◌, ℕ, ◌+◌, ◌<◌, ◌≤◌, Bool, not, false, List, length, map, take, slice_index_or, All}
use Rattle.std.specs.List.{AllPairs, flat_map}
use Rattle.std.specs.List.Sorted.{IsPermutation}
use Rattle.std.specs.Ordering.{is_lt}
use Rattle.std.specs.declared.cmp.Ordering.TheVariants.{Less}
use Rattle.feed_rows.specs.FeedRows.{FeedRows}
use Rattle.plain_laws.specs.Plain.{at_and}
use Rattle.plan_patterns.specs.declared.cuts.RunWithHalts.{RunWithHalts}
use Rattle.plan_patterns.specs.declared.pattern.Pattern.{Pattern}
use Rattle.plan_patterns.specs.declared.halts.Halt.{Halt}
use Rattle.plan_patterns.specs.declared.runs.Run.{Run}
use Rattle.plan_patterns.specs.Columns.{IsPattern, IsRunAt}
use Rattle.plan_patterns.specs.Halts.{halts_cmp}

-- entries without the halts
abbrev pub entry_runs : List RunWithHalts → List Run
entry_runs entries = map (λ (entry : RunWithHalts). entry.run) entries

-- the halts of each
abbrev pub entry_halts : List RunWithHalts → List (List Halt)
entry_halts entries = map (λ (entry : RunWithHalts). entry.halts.now) entries

-- the runs, each with the halts that stand at its place
pub record AreWithHalts (halts : List (List Halt)) (runs : List Run) (entries : List RunWithHalts) : Type 0 where
  pub runs_are : entry_runs entries ≡ runs
  pub halts_are : entry_halts entries ≡ halts

-- no run stands behind one whose halts come later
abbrev pub AreInHaltOrder : List RunWithHalts → Type 0
AreInHaltOrder entries =
    AllPairs (λ (a : RunWithHalts) (b : RunWithHalts). is_lt (halts_cmp b.halts.now a.halts.now) ≡ false) entries

-- the runs with their halts, in the order of these
pub record AreTogether (halts : List (List Halt)) (runs : List Run) (together : List RunWithHalts) : Type 0 where
  pub entries : List RunWithHalts
  pub are : AreWithHalts halts runs entries
  pub moved : IsPermutation entries together
  pub rises : AreInHaltOrder together

-- a run of the feed with the halts of its trip
abbrev pub IsOwn : FeedRows → RunWithHalts → Type 0
IsOwn feed entry = IsRunAt feed entry.halts.now entry.run

-- the run at a place is followed by one whose halts don't come later
abbrev pub goes_on : List RunWithHalts → ℕ → Bool
goes_on entries at =
    at_and entries (at + 1)
    (λ next. at_and entries at (λ entry. not (is_lt (halts_cmp entry.halts.now next.halts.now))))

-- the runs of patterns, one pattern after another
abbrev pub runs_in : List Pattern → List Run
runs_in patterns = flat_map (λ (p : Pattern). p.runs.items) patterns

-- the patterns of these runs
pub record AreCut (feed : FeedRows) (runs : List Run) (patterns : List Pattern) : Type 0 where
  pub built : All (IsPattern feed) patterns
  pub all : runs_in patterns ≡ runs
  pub apart : AllPairs (λ (p : Pattern) (q : Pattern). p.halts.items ≢ q.halts.items) patterns

-- the same of the runs in some order
pub record ArePatternsOf (feed : FeedRows) (runs : List Run) (patterns : List Pattern) : Type 0 where
  pub in_order : List Run
  pub moved : IsPermutation runs in_order
  pub cut : AreCut feed in_order patterns

-- the patterns of the runs before a place; those from there up to another have the same halts
pub record IsCutTo (feed : FeedRows) (entries : List RunWithHalts) (start at : ℕ)
    (patterns : List Pattern) : Type 0 where
  pub built : All (IsPattern feed) patterns
  pub all : runs_in patterns ≡ take start (entry_runs entries)
  pub rises : AllPairs (λ (p : Pattern) (q : Pattern). halts_cmp p.halts.items q.halts.items ≡ Less) patterns
  pub before : (d : RunWithHalts) → start < length entries →
      All (λ (p : Pattern). halts_cmp p.halts.items (slice_index_or entries start d).halts.now ≡ Less) patterns
  pub within : start ≤ at
  pub same : (j : ℕ) (d : RunWithHalts) → start ≤ j → j ≤ at → j < length entries →
      (slice_index_or entries j d).halts.now ≡ (slice_index_or entries start d).halts.now
  pub last : at ≡ length entries → start ≡ at

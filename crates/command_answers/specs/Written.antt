-- The lines that are written.
use Rattle.std.specs.Prelude.{◌≡◌, ℕ, ◌+◌, List, Option, Some, slice_get, take, true}
use Rattle.std.specs.List.{concat}
use Rattle.feed_files.specs.FaultCounts.{Rose, Stayed}
use Rattle.folder_io.specs.declared.sink.Wrote.{Wrote}
use Rattle.folder_io.specs.declared.sink.Wrote.TheVariants as wrote
use Rattle.folder_io.specs.CallLogs.{Makes}
use Rattle.folder_io.specs.SinkCalls.{SinkState, Writes}

-- all lines were written, each by one write, and no write failed
pub record WritesAll (sink : SinkState) (lines : List (List ℕ)) (after : SinkState) : Type 0 where
  pub counts : Stayed sink.faults after.faults
  pub text : Writes sink.written after.written (concat lines) wrote.All
  pub writes : Makes sink.writes lines after.writes

-- a write failed, and it is the last one that was made: the lines before it were written, each by one write, and of its line
-- a first part is
pub record WritesSome (sink : SinkState) (lines : List (List ℕ)) (after : SinkState) : Type 0 where
  pub counts : Rose sink.faults after.faults
  pub ended : after.failed ≡ true
  -- how many lines come before it, and what was written by then
  pub whole : ℕ
  pub before : Option (List ℕ)
  pub text : Writes sink.written before (concat (take whole lines)) wrote.All
  pub line : List ℕ
  pub next : slice_get lines whole ≡ Some line
  pub part : Writes before after.written line wrote.Failed
  pub writes : Makes sink.writes (take (whole + 1) lines) after.writes

-- the one or the other, as the last write answers
abbrev pub WritesLines : SinkState → List (List ℕ) → SinkState → Wrote → Type 0
WritesLines sink lines after wrote.All = WritesAll sink lines after
WritesLines sink lines after wrote.Failed = WritesSome sink lines after

-- Texts that are written line by line.
use Rattle.std.proofs.Common.{◌≡◌, refl, subst, ◌∙◌, append_assoc, append-nil}
use Rattle.std.specs.Prelude.{ℕ, ◌+◌, List, [], ◌∷◌, ◌++◌, take, slice_get, Option, Some, None, true}
use Rattle.std.specs.List.{concat}
use Rattle.std.proofs.lemmas.List.Folds.{concat-append}
use Rattle.feed_files.specs.FaultCounts.{Stayed, Rose}
use Rattle.folder_io.specs.declared.sink.Wrote.TheVariants as wrote
use Rattle.folder_io.specs.CallLogs.{Makes}
use Rattle.folder_io.specs.SinkCalls.{SinkState, Writes}
use Rattle.folder_io.proofs.LogLaws.{makes_none, makes_more}
use Rattle.fare_price.proofs.GatherLaws.{take_next}
use Rattle.command_answers.specs.Written.{WritesAll, WritesSome}

-- nothing is written yet
none_yet : (before : Option (List ℕ)) → Writes before before [] wrote.All
none_yet None = refl
none_yet (Some b) = rw (append-nil b) refl

-- one more piece
one_more : (before now after : Option (List ℕ)) (text piece : List ℕ) → Writes before now text wrote.All
    → Writes now after piece wrote.All → Writes before after (text ++ piece) wrote.All
one_more None now after text piece w t = rw w at t
one_more (Some b) now after text piece w t = let is = rw w at t in is ∙ rw append_assoc refl

-- no line is written yet
pub none_written : (sink : SinkState) (lines : List (List ℕ)) → WritesAll sink (take 0 lines) sink
none_written sink lines = record { counts = refl; text = none_yet sink.written; writes = makes_none sink.writes }

-- of the lines, the next one is to be written
module _ (sink now later : SinkState) (lines : List (List ℕ)) (i : ℕ) (line : List ℕ) where
  -- their text up to it
  more_text : slice_get lines i ≡ Some line → concat (take (i + 1) lines) ≡ concat (take i lines) ++ line
  more_text at = rw (take_next lines i line at, concat-append, append-nil) refl

  -- it is written
  pub one_more_written : slice_get lines i ≡ Some line → WritesAll sink (take i lines) now
      → Stayed now.faults later.faults → Writes now.written later.written line wrote.All
      → Makes now.writes (line ∷ []) later.writes → WritesAll sink (take (i + 1) lines) later
  one_more_written at so_far counts text writes = record {
    counts = counts ∙ so_far.counts;
    text = rw (more_text at) (one_more sink.written now.written later.written _ line so_far.text text);
    writes = rw (take_next lines i line at) (makes_more so_far.writes writes);
  }

  -- its write failed
  pub failed_behind : slice_get lines i ≡ Some line → WritesAll sink (take i lines) now
      → Rose now.faults later.faults → later.failed ≡ true → Writes now.written later.written line wrote.Failed
      → Makes now.writes (line ∷ []) later.writes → WritesSome sink lines later
  failed_behind at so_far counts ended text writes = record {
    counts = subst (λ n. Rose n later.faults) so_far.counts counts;
    ended = ended;
    whole = i;
    before = now.written;
    text = so_far.text;
    line = line;
    next = at;
    part = text;
    writes = rw (take_next lines i line at) (makes_more so_far.writes writes);
  }

-- What the calls of a sink say, over plain values: bytes and answers.
use Rattle.std.specs.Prelude.{◌≡◌, ℕ, ◌-◌, List, [], length, take, ◌++◌, Option, None, Some, Bool, true, false, nat_le}
use Rattle.folder_io.specs.declared.sink.Wrote.{Wrote}
use Rattle.folder_io.specs.declared.sink.Wrote.TheVariants as wrote
use Rattle.folder_io.specs.CallLogs.{CallLog}

-- what a sink tells of itself
pub record SinkState : Type 0 where
  -- what was written so far, where it tells that
  pub written : Option (List ℕ)
  -- whether the last write answered Failed
  pub failed : Bool
  -- how many writes failed, up to the last number that is counted
  pub faults : ℕ
  -- the pieces that were to be written
  pub writes : CallLog

-- whether a write answers Failed
abbrev pub is_failed_write : Wrote → Bool
is_failed_write wrote.All = false
is_failed_write wrote.Failed = true

-- what was written before and after a write, where it is told: the piece was appended, or where the write failed its
-- first so many bytes; a sink that doesn't tell goes on not to tell
abbrev pub Writes : Option (List ℕ) → Option (List ℕ) → List ℕ → Wrote → Type 0
Writes None after piece answer = after ≡ None
Writes (Some before) after piece wrote.All = after ≡ Some (before ++ piece)
Writes (Some before) after piece wrote.Failed = (kept : ℕ) × (after ≡ Some (before ++ take kept piece))

-- whether a piece has_room_for what is left of a room of so many bytes behind what was written
abbrev pub has_room_for : ℕ → List ℕ → List ℕ → Bool
has_room_for room written piece = nat_le (length piece) (room - length written)

-- what a write answers that goes well, and one that doesn't
abbrev pub wrote_of : Bool → Wrote
wrote_of true = wrote.All
wrote_of false = wrote.Failed

-- the whole piece, or none of it
abbrev pub whole_or_none : Bool → List ℕ → List ℕ
whole_or_none true piece = piece
whole_or_none false piece = []

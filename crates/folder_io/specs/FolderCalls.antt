-- What the calls of a folder say, over plain values: counts, names, bytes and answers.
use Rattle.std.specs.Prelude.{◌≡◌, ℕ, ◌≤◌, List, [], length, take, drop, Option, None, Some, Bool, true, false, IfSome}
use Rattle.feed_files.specs.FaultCounts.{Rose, Stayed}
use Rattle.folder_io.specs.declared.folder.Opened.{Opened}
use Rattle.folder_io.specs.declared.folder.Opened.TheVariants as opened
use Rattle.folder_io.specs.declared.folder.Piece.{Piece}
use Rattle.folder_io.specs.declared.folder.Piece.TheVariants as piece
use Rattle.folder_io.specs.CallLogs.{CallLog, untold}

-- what a folder holds: the bytes under each name that it holds
abbrev pub Contents : Type 0
Contents = List ℕ → Option (List ℕ)

-- what files come from, which no call changes
pub record FolderSource : Type 0 where
  -- the path of the folder, where it is one of the system
  pub path : Option (List ℕ)
  -- what it holds, where it tells that
  pub contents : Option Contents

-- what a folder tells of itself
pub record FolderState : Type 0 where
  pub source : FolderSource
  -- the bytes of the open file that are not read yet, where it tells them
  pub left : Option (List ℕ)
  -- whether one may read on: the last call opened a file, or gave bytes of it
  pub readable : Bool
  -- whether the last open or read answered Failed
  pub failed : Bool
  -- how many calls failed, up to the last number that is counted
  pub faults : ℕ
  -- the names that were opened
  pub opens : CallLog

-- what a folder tells of its source that tells nothing
abbrev pub untold_source : FolderSource
untold_source = record { path = None; contents = None }

-- what a folder tells that tells nothing and has no file open
abbrev pub nothing_told : FolderState
nothing_told =
    record { source = untold_source; left = None; readable = false; failed = false; faults = 0; opens = untold }

-- this is so of what a folder holds, where it tells that; of one that doesn't tell, nothing is said
abbrev pub WhereTold : FolderState → (Contents → Type 0) → Type 0
WhereTold folder fact = IfSome folder.source.contents fact

-- the count before and after a call: it rose where the call failed, and stayed where it didn't
abbrev pub CountsFault : Bool → ℕ → ℕ → Type 0
CountsFault true before now = Rose before now
CountsFault false before now = Stayed before now

-- whether an open answers Present
abbrev pub is_present : Opened → Bool
is_present opened.Present = true
is_present opened.Absent = false
is_present opened.NoMemory = false
is_present opened.Failed = false

-- whether an open answers Failed
abbrev pub is_failed_open : Opened → Bool
is_failed_open opened.Present = false
is_failed_open opened.Absent = false
is_failed_open opened.NoMemory = false
is_failed_open opened.Failed = true

-- whether a read answers Failed
abbrev pub is_failed_read : Piece → Bool
is_failed_read (piece.Got n) = false
is_failed_read piece.End = false
is_failed_read piece.Failed = true

-- whether a read gives bytes
abbrev pub is_got : Piece → Bool
is_got (piece.Got n) = true
is_got piece.End = false
is_got piece.Failed = false

-- what an open answers of what is held under its name, and what is left to read after it
abbrev pub Finds : Option (List ℕ) → Option (List ℕ) → Opened → Type 0
Finds (Some bytes) left opened.Present = left ≡ Some bytes
Finds None left opened.Present = ⊥
Finds (Some bytes) left opened.Absent = ⊥
Finds None left opened.Absent = Unit {0}
Finds under left opened.NoMemory = Unit {0}
Finds under left opened.Failed = Unit {0}

-- what a read takes of the bytes that were left: the first so many, which stand in the room; it answers End only where
-- there are none, and a failed one takes none
abbrev pub Takes : List ℕ → Option (List ℕ) → List ℕ → Piece → Type 0
Takes bytes left room (piece.Got n) = (n ≤ length bytes) × (take n room ≡ take n bytes) × (left ≡ Some (drop n bytes))
Takes bytes left room piece.End = (bytes ≡ []) × (left ≡ Some bytes)
Takes bytes left room piece.Failed = left ≡ Some bytes

-- a piece has at least one byte, and no more than there is room
abbrev pub FitsRoom : ℕ → Piece → Type 0
FitsRoom room (piece.Got n) = (1 ≤ n) × (n ≤ room)
FitsRoom room piece.End = Unit {0}
FitsRoom room piece.Failed = Unit {0}

-- The open file of a folder, read piece by piece: what was taken of it, and how far it came.
use Rattle.std.specs.Prelude.{◌≡◌, ℕ, ◌+◌, ◌≤◌, ◌<◌, ◌==◌, if◌then◌else◌, List, [], length, take, ◌++◌, Option, Some, option_map, IfSome, Result, Ok, Err, true}
use Rattle.std.specs.Borrow.{GName}
use Rattle.std.specs.Io.KnownBytes.{Consumes}
use Rattle.feed_files.specs.FaultCounts.{Rose, Stayed}
use Rattle.folder_io.specs.declared.folder.Folder.{Ghosts}
use Rattle.folder_io.specs.declared.pieces.Pieces.{Pieces}
use Rattle.folder_io.specs.declared.pieces.PiecesEnd.{PiecesEnd}
use Rattle.folder_io.specs.declared.pieces.PiecesEnd.TheVariants.{Going, Ended, Failed, TooLarge}
use Rattle.folder_io.specs.declared.utf8.Utf8State.{Utf8State}
use Rattle.folder_io.specs.declared.utf8.Utf8State.TheVariants.{Whole}
use Rattle.folder_io.specs.FolderCalls.{FolderState}
use Rattle.folder_io.specs.Utf8Text.{utf8_after}

-- what a reading by pieces tells of itself
pub record PiecesState : Type 0 where
  -- what its folder tells
  pub folder : FolderState
  -- how many bytes more it takes at most
  pub room : ℕ
  -- how far it came
  pub end : PiecesEnd
  -- where the bytes that it took leave off, as text
  pub text : Utf8State

-- how far a reading came that takes so many bytes more: with no more to take the file is too large
abbrev pub end_within : ℕ → PiecesEnd → PiecesEnd
end_within room end = if room == 0 then TooLarge else end

module _ {F : Type 0} {g : Ghosts F} where
  -- the folder, as it is now
  abbrev pub read_folder : Pieces F g → F
  read_folder pieces = pieces.folder.now

  -- which folder it is
  abbrev pub folder_name : Pieces F g → GName
  folder_name pieces = pieces.folder.ghost_name

  -- how far the reading came
  abbrev pub pieces_end : Pieces F g → PiecesEnd
  pieces_end pieces = end_within pieces.room pieces.end

  -- what it tells of itself
  abbrev pub pieces_state : Pieces F g → PiecesState
  pieces_state pieces = record {
    folder = g.state (read_folder pieces);
    room = pieces.room;
    end = pieces_end pieces;
    text = pieces.text;
  }

-- the bytes that reads give from here on, where the folder tells those that are left: no more than so many, and none past
-- an end
abbrev pub to_come : PiecesEnd → ℕ → Option (List ℕ) → Option (List ℕ)
to_come Going room left = option_map (take room) left
to_come Ended room left = Some []
to_come Failed room left = option_map (take room) left
to_come TooLarge room left = Some []

-- the same of a reading
abbrev pub bytes_to_come : PiecesState → Option (List ℕ)
bytes_to_come pieces = to_come pieces.end pieces.room pieces.folder.left

-- the bytes that a read gives: those at the front of its room, or none where it is an error
abbrev pub given : {E : Type 0} → Result ℕ E → List ℕ → List ℕ
given (Ok count) room = take count room
given (Err error) room = []

-- what a reading's end says, of a folder that told this as the reading began and tells that now, where these bytes were
-- taken. A failure is the last call that was made. Where the folder tells what was left of its file, that was all taken by
-- the end
abbrev pub EndsAs : FolderState → ℕ → List ℕ → FolderState → PiecesEnd → Type 0
EndsAs start limit taken now Going = Stayed start.faults now.faults × (length taken ≤ limit) × (now.readable ≡ true)
EndsAs start limit taken now Ended = Stayed start.faults now.faults × (length taken ≤ limit) × IfSome start.left (λ bytes. taken ≡ bytes)
EndsAs start limit taken now Failed = Rose start.faults now.faults × (length taken ≤ limit) × (now.failed ≡ true)
EndsAs start limit taken now TooLarge = Stayed start.faults now.faults × (length taken ≡ limit + 1)

-- these bytes were taken since the folder told this, of at most so many and one more: they are those that were left of the
-- open file first, where the folder tells them, and nothing else was asked of it
pub record HasTaken (start : FolderState) (limit : ℕ) (taken : List ℕ) (now : PiecesState) : Type 0 where
  pub source : now.folder.source ≡ start.source
  pub opens : now.folder.opens ≡ start.opens
  pub bytes : Consumes start.left now.folder.left taken
  pub room : now.room + length taken ≡ limit + 1
  pub end : EndsAs start limit taken now.folder now.end
  pub text : now.text ≡ utf8_after Whole taken

-- some bytes were taken since then
abbrev pub HasTakenSome : FolderState → ℕ → PiecesState → Type 0
HasTakenSome start limit now = (taken : List ℕ) × HasTaken start limit taken now

-- whatever was taken before, these bytes were taken behind it
pub record TakesOn (before : PiecesState) (bytes : List ℕ) (now : PiecesState) : Type 0 where
  pub behind : (start : FolderState) (limit : ℕ) (taken : List ℕ) → HasTaken start limit taken before → HasTaken start limit (taken ++ bytes) now

-- some bytes were taken
abbrev pub TakesSome : PiecesState → PiecesState → Type 0
TakesSome before now = (bytes : List ℕ) × TakesOn before bytes now

-- what a read into so much room answers, by how far the reading came with it: an error exactly where it failed, no bytes
-- where it ended, and some bytes into room where it goes on
abbrev pub AnswersAs : {E : Type 0} → PiecesEnd → ℕ → Result ℕ E → Type 0
AnswersAs Going room (Ok count) = 0 < room → 0 < count
AnswersAs Ended room (Ok count) = count ≡ 0
AnswersAs Failed room (Ok count) = ⊥
AnswersAs TooLarge room (Ok count) = Unit {0}
AnswersAs Going room (Err error) = ⊥
AnswersAs Ended room (Err error) = ⊥
AnswersAs Failed room (Err error) = Unit {0}
AnswersAs TooLarge room (Err error) = ⊥

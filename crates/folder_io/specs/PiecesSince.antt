-- A reading by pieces whose type tells where it began.
use Rattle.std.specs.Prelude.{◌≡◌, ℕ, ◌<◌, ◌≤◌, length, IfSome, true}
use Rattle.feed_files.specs.FaultCounts.{Rose, Stayed}
use Rattle.folder_io.specs.declared.folder.Folder.{Ghosts as FolderOf}
use Rattle.folder_io.specs.declared.pieces_since.Beginning.{Ghosts as BeginningOf}
use Rattle.folder_io.specs.declared.pieces_since.PiecesSince.{PiecesSince}
use Rattle.folder_io.specs.declared.pieces.PiecesEnd.{PiecesEnd}
use Rattle.folder_io.specs.declared.pieces.PiecesEnd.TheVariants.{Going, Ended, Failed, TooLarge}
use Rattle.folder_io.specs.FolderCalls.{FolderState}
use Rattle.folder_io.specs.Pieces.{PiecesState, pieces_state, pieces_end, read_folder}

module _ {F S : Type 0} {g : FolderOf F} {b : BeginningOf S} where
  -- what it tells of itself
  abbrev pub since_state : PiecesSince F S g b → PiecesState
  since_state since = pieces_state since.pieces

  -- the folder, as it is now
  abbrev pub since_folder : PiecesSince F S g b → F
  since_folder since = read_folder since.pieces

  -- how far it came
  abbrev pub since_end : PiecesSince F S g b → PiecesEnd
  since_end since = pieces_end since.pieces

-- what a reading's end says of a folder that told this as the reading began and tells that now. Where the folder told what
-- was left of its file, the file has ended within the limit, or has more bytes than it
abbrev pub StandsAs : FolderState → ℕ → FolderState → PiecesEnd → Type 0
StandsAs start limit now Going = Stayed start.faults now.faults × (now.readable ≡ true)
StandsAs start limit now Ended = Stayed start.faults now.faults × IfSome start.left (λ bytes. length bytes ≤ limit)
StandsAs start limit now Failed = Rose start.faults now.faults × (now.failed ≡ true)
StandsAs start limit now TooLarge = Stayed start.faults now.faults × IfSome start.left (λ bytes. limit < length bytes)

-- nothing but bytes of its open file was asked of a folder since it told this, and so the reading stands
pub record IsSince (start : FolderState) (limit : ℕ) (now : FolderState) (end : PiecesEnd) : Type 0 where
  pub source : now.source ≡ start.source
  pub opens : now.opens ≡ start.opens
  pub stands : StandsAs start limit now end

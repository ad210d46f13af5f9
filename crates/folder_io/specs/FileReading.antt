-- What reading files answers.
use Rattle.std.specs.Prelude.{◌≡◌, ◌⊎◌, ℕ, ◌+◌, ◌<◌, ◌≤◌, List, map, take, drop, Option, option_map, true}
use Rattle.feed_files.specs.FaultCounts.{Rose, Stayed}
use Rattle.feed_files.specs.HeldFiles.{HeldFile, held_within, held, most_bytes}
use Rattle.feed_files.specs.Names.{file_text}
use Rattle.feed_files.specs.declared.names.FileName.{FileName}
use Rattle.folder_io.specs.declared.files.FileBytes.{FileBytes}
use Rattle.folder_io.specs.declared.files.FileBytes.TheVariants as kept
use Rattle.folder_io.specs.declared.reading.ReadError.{ReadError}
use Rattle.folder_io.specs.declared.reading.ReadError.TheVariants as error
use Rattle.folder_io.specs.CallLogs.{Makes}
use Rattle.feed_files.specs.Names.{all_files}
use Rattle.folder_io.specs.FolderCalls.{Contents, FolderState, WhereTold}
use Rattle.folder_io.specs.FilePlaces.{place}
use Rattle.folder_io.specs.KeptFiles.{held_of, held_in, file_in, IsWithin}

-- why a read gave up: a call of the folder failed, and it is the last one that was made; or memory was wanting
abbrev pub GivesUp : ReadError → FolderState → FolderState → Type 0
GivesUp error.ReadFault before now = Rose before.faults now.faults × (now.failed ≡ true)
GivesUp error.NoMemory before now = Stayed before.faults now.faults

-- what was read of a file is what is held under its name
abbrev pub IsRead : Contents → List ℕ → ℕ → FileBytes → Type 0
IsRead contents name limit bytes = held_of bytes ≡ held_within limit (contents name)

-- of a file that is too large, so many bytes and one were taken
abbrev pub StopsPast : Contents → List ℕ → ℕ → Option (List ℕ) → FileBytes → Type 0
StopsPast contents name limit left kept.TooLarge = left ≡ option_map (drop (limit + 1)) (contents name)
StopsPast contents name limit left kept.Absent = Unit {0}
StopsPast contents name limit left (kept.Bytes bytes) = Unit {0}

-- the files are those that a folder holds, where it tells what it holds
abbrev pub Gives : FolderState → (FileName → HeldFile) → Type 0
Gives folder files = WhereTold folder (λ contents. files ≡ held contents)

-- the names of a feed's files, in the order in which they are opened
abbrev pub file_names : List (List ℕ)
file_names = map file_text all_files

-- no call of the folder failed, and each file of a feed was opened once, in order
pub record OpensAll (before now : FolderState) : Type 0 where
  pub counts : Stayed before.faults now.faults
  pub opens : Makes before.opens file_names now.opens

-- the first so many files of a feed were opened, each once and in order
abbrev pub OpensSome : FolderState → FolderState → Type 0
OpensSome before now = (count : ℕ) × Makes before.opens (take count file_names) now.opens

-- no call of the folder failed since then, and so many files of a feed were opened, each once and in order
pub record ReadsTo (start : FolderState) (count : ℕ) (now : FolderState) : Type 0 where
  pub counts : Stayed start.faults now.faults
  pub opens : Makes start.opens (take count file_names) now.opens

-- why the reading of files gave up since then
pub record GivesUpOn (error : ReadError) (start now : FolderState) : Type 0 where
  pub why : GivesUp error start now
  pub opens : OpensSome start now

-- the files from one place and up to another are as the folder holds them, where it tells that, and within the limit; the
-- others are as they were
pub record AreReadBetween (folder : FolderState) (from to : ℕ) (before now : List FileBytes) : Type 0 where
  pub within : (name : FileName) → from ≤ place name → place name < to → IsWithin most_bytes (file_in now name)
  pub given : (name : FileName) → from ≤ place name → place name < to → WhereTold folder (λ contents. held_in now name ≡ held contents name)
  pub others : (name : FileName) → (place name < from) ⊎ (to ≤ place name) → file_in now name ≡ file_in before name

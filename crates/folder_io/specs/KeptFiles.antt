-- The files that are kept, as a folder holds them.
use Rattle.std.specs.Prelude.{ℕ, ◌≤◌, List, length, Option, None, Some, unwrap_or, option_and_then, slice_get, Bool, true, false}
use Rattle.std.specs.List.{list_all}
use Rattle.feed_files.specs.declared.names.FileName.{FileName}
use Rattle.feed_files.specs.HeldFiles.{HeldFile, most_bytes}
use Rattle.folder_io.specs.declared.files.FileBytes.{FileBytes}
use Rattle.folder_io.specs.declared.files.FileBytes.TheVariants.{Absent, TooLarge, Bytes}
use Rattle.folder_io.specs.FilePlaces.{place, file_named}

-- what is kept of a file, as what is held of it
abbrev pub held_of : FileBytes → HeldFile
held_of Absent = HeldFile.Missing
held_of TooLarge = HeldFile.TooLarge
held_of (Bytes bytes) = HeldFile.Bytes bytes

-- what is kept of one of a feed's files
abbrev pub file_in : List FileBytes → FileName → FileBytes
file_in files name = unwrap_or (slice_get files (place name)) Absent

-- what is kept of each file, as what is held of it
abbrev pub held_in : List FileBytes → FileName → HeldFile
held_in files name = held_of (file_in files name)

-- the bytes of a file, where they are kept
abbrev pub bytes_of : FileBytes → Option (List ℕ)
bytes_of Absent = None
bytes_of TooLarge = None
bytes_of (Bytes bytes) = Some bytes

-- what a folder of these files holds under a name
abbrev pub bytes_under : List FileBytes → List ℕ → Option (List ℕ)
bytes_under files name = option_and_then (λ file. bytes_of (file_in files file)) (file_named name)

-- whether a file is kept whole, or is absent
abbrev pub is_whole : FileBytes → Bool
is_whole Absent = true
is_whole TooLarge = false
is_whole (Bytes bytes) = true

-- whether each file is
abbrev pub are_whole : List FileBytes → Bool
are_whole files = list_all is_whole files

-- a file that is kept has at most so many bytes
abbrev pub IsWithin : ℕ → FileBytes → Type 0
IsWithin limit Absent = Unit {0}
IsWithin limit TooLarge = Unit {0}
IsWithin limit (Bytes bytes) = length bytes ≤ limit

-- each file that is kept has at most as many bytes as are read
abbrev pub AreWithin : List FileBytes → Type 0
AreWithin files = (name : FileName) → IsWithin most_bytes (file_in files name)

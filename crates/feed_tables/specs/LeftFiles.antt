-- Files of which the first are let go of.
use Rattle.std.specs.Prelude.{◌≡◌, ℕ, ◌+◌, ◌≤◌, List, length}
use Rattle.feed_files.specs.declared.names.FileName.{FileName}
use Rattle.feed_files.specs.Names.{place}
use Rattle.folder_io.specs.declared.files.FileBytes.{FileBytes}
use Rattle.folder_io.specs.KeptFiles.{file_in}
use Rattle.feed_tables.specs.RowNumbers.{StandFrom}

-- the files from a place on are as they were
abbrev pub AreLeft : List FileBytes → List FileBytes → ℕ → Type 0
AreLeft before now reached = (name : FileName) → reached ≤ place name → file_in now name ≡ file_in before name

-- so are those behind these
abbrev pub AreLeftBehind : List FileBytes → List FileBytes → List FileName → Type 0
AreLeftBehind before now names = (n : ℕ) → StandFrom n names → AreLeft before now (n + length names)

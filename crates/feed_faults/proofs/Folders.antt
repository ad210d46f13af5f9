-- Folders of a few files.
use Rattle.std.specs.Prelude.{ℕ, List, ◌∷◌, Option, bytes_eq, not, find, filter, option_map}
use Rattle.feed_files.specs.declared.names.FileName.{FileName}
use Rattle.feed_files.specs.HeldFiles.{HeldFile, held}

-- names with their bytes; the first of a name counts
abbrev pub Folder : Type 0
Folder = List (List ℕ × List ℕ)

-- the bytes that stand under a name
abbrev pub bytes_under : Folder → List ℕ → Option (List ℕ)
bytes_under folder name = option_map (λ f. f.1) (find (λ f. bytes_eq name f.0) folder)

-- the files that it holds
abbrev pub files_in : Folder → FileName → HeldFile
files_in folder = held (bytes_under folder)

-- a folder with a file put or replaced
abbrev pub with_file : List ℕ → List ℕ → Folder → Folder
with_file name bytes folder = (name, bytes) ∷ folder

-- a folder without a file
abbrev pub without_file : List ℕ → Folder → Folder
without_file name folder = filter (λ f. not (bytes_eq name f.0)) folder

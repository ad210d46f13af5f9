-- What a folder holds of a feed's files.
use Rattle.std.specs.Prelude.{ℕ, nat_lt, if◌then◌else◌, List, length, Option, None, Some}
use Rattle.feed_files.specs.declared.names.FileName.{FileName}
use Rattle.feed_files.specs.Names.{file_text}

-- a file of a feed, as a folder holds it
pub data HeldFile : Type 0 where
  -- the folder doesn't hold the name
  Missing : HeldFile
  -- the file has more bytes than are read
  TooLarge : HeldFile
  -- the file's bytes
  Bytes : List ℕ → HeldFile

-- the greatest number of bytes of a file that is read
abbrev pub most_bytes : ℕ
most_bytes = 268435456

-- what is held under a name that has these bytes, where at most so many are read
abbrev pub held_within : ℕ → Option (List ℕ) → HeldFile
held_within most None = HeldFile.Missing
held_within most (Some bytes) = if nat_lt most (length bytes) then HeldFile.TooLarge else HeldFile.Bytes bytes

-- the file that a folder holds; a folder is a function from names to bytes
unfoldable pub held : (List ℕ → Option (List ℕ)) → FileName → HeldFile
held folder file = held_within most_bytes (folder (file_text file))

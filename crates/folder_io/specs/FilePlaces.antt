-- The file of a name.
use Rattle.std.specs.Prelude.{ℕ, List, Option, find, bytes_eq}
use Rattle.feed_files.specs.declared.names.FileName.{FileName}
use Rattle.feed_files.specs.Names.{all_files, file_text}
pub use Rattle.feed_files.specs.Names.{place}

-- the place of stop_times.txt among the files of a feed, and that of the file behind it
abbrev pub stop_times_place : ℕ
stop_times_place = 3

abbrev pub place_behind : ℕ
place_behind = 4

-- the file of a name, if a file of a feed has it
abbrev pub file_named : List ℕ → Option FileName
file_named name = find (λ file. bytes_eq (file_text file) name) all_files

-- The tables of a feed, one for each file, in the order of the files.
use Rattle.std.specs.Prelude.{List, [], get_or, map}
use Rattle.feed_files.specs.declared.names.FileName.{FileName}
use Rattle.feed_files.specs.Names.{all_files, place}
use Rattle.feed_files.specs.HeldFiles.{HeldFile}
use Rattle.feed_faults.specs.Records.{FileTable, table_of_bytes}

abbrev pub FeedTables : Type 0
FeedTables = List FileTable

-- the table of a file
abbrev pub table_in : FeedTables → FileName → FileTable
table_in t file = get_or t (place file) []

-- the table of a file as it is held; empty where there are no bytes
abbrev pub table_of : HeldFile → FileTable
table_of HeldFile.Missing = []
table_of HeldFile.TooLarge = []
table_of (HeldFile.Bytes bytes) = table_of_bytes bytes

-- the tables of the files that are held
unfoldable pub tables_of : (FileName → HeldFile) → FeedTables
tables_of files = map (λ file. table_of (files file)) all_files

-- The first fault of a feed: of the files each by itself, and then of the files among each other.
use Rattle.std.specs.Prelude.{[], ◌∷◌, Option}
use Rattle.std.specs.Option.{option_or}
use Rattle.feed_files.specs.declared.names.FileName.{FileName}
use Rattle.feed_files.specs.declared.faults.FeedFault.{FeedFault}
use Rattle.feed_files.specs.Names.{all_files}
use Rattle.feed_files.specs.HeldFiles.{HeldFile}
use Rattle.plain_laws.specs.Plain.{first_below, first_in, first_of}
use Rattle.feed_faults.specs.Records.{row_count}
use Rattle.feed_faults.specs.FormFaults.{first_form_fault}
use Rattle.feed_faults.specs.FeedTables.{FeedTables, table_in, tables_of}
use Rattle.feed_faults.specs.NetworkRelations.{forbidden_fault}
use Rattle.feed_faults.specs.RowChecks.{relation_fault_of_row}

-- the first fault of a file among the others: that it is forbidden comes before its rows
unfoldable pub relation_fault : FeedTables → FileName → Option FeedFault
relation_fault t name = option_or (forbidden_fault t name) (first_below (row_count (table_in t name)) (relation_fault_of_row t name))

-- the first fault of the second pass, over all files in their order
unfoldable pub first_relation_fault : FeedTables → Option FeedFault
first_relation_fault t = first_in all_files (relation_fault t)

-- the first fault of a feed's files
unfoldable pub first_fault : (FileName → HeldFile) → Option FeedFault
first_fault files = first_of (first_form_fault files ∷ first_relation_fault (tables_of files) ∷ [])

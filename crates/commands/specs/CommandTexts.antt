-- The lines that tell of faults, the text of the command `check`, and the line of statistics.
use Rattle.std.specs.Prelude.{ℕ, List, [], ◌∷◌, length, Option, Some, None, codes, decimal}
use Rattle.feed_rows.specs.Lines.{line}
use Rattle.feed_files.specs.Names.{file_text, column_text}
use Rattle.feed_files.specs.Faults.{fault_number, fault_text}
use Rattle.commands.specs.UsageFaults.{usage_text, usage_argument}
use Rattle.feed_rows.specs.FeedRows.{FeedRows}
use Rattle.feed_files.specs.declared.names.ColumnName.{ColumnName}
use Rattle.feed_files.specs.declared.faults.FeedFault.{FeedFault}
use Rattle.commands.specs.declared.usage.UsageFault.{UsageFault}

-- the line of a usage fault: its name and its argument
abbrev pub usage_line : UsageFault → List ℕ
usage_line fault = line (codes "usage") (usage_text fault ∷ usage_argument fault ∷ [])

-- a column's name, or `-` where a fault is of no column
abbrev pub place_text : Option ColumnName → List ℕ
place_text None = codes "-"
place_text (Some column) = column_text column

-- the line of a feed's fault: its number, its name, the file, the row and the column
abbrev pub refused_line : FeedFault → List ℕ
refused_line fault =
    line (codes "refused")
    (decimal (fault_number fault.kind) ∷ fault_text fault.kind ∷ file_text fault.file ∷ decimal fault.row ∷ place_text fault.column ∷ [])

-- the text of `check` for an accepted feed: how many rows its main files have
abbrev pub check_text : FeedRows → List ℕ
check_text feed =
    line (codes "accepted")
    (decimal (length feed.stops) ∷ decimal (length feed.routes) ∷ decimal (length feed.trips) ∷ decimal (length feed.stop_times)
    ∷ decimal (length feed.leg_rules) ∷ decimal (length feed.transfer_rules) ∷ [])

-- the last line of a plan with statistics: how many labels its table has
abbrev pub stats_line : ℕ → List ℕ
stats_line labels = line (codes "stats") (decimal labels ∷ [])

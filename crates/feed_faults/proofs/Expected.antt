-- What a folder is expected to answer.
use Rattle.std.proofs.Common.{◌≡◌, ℕ, List, Option, None, Some}
use Rattle.std.specs.Prelude.{map}
use Rattle.feed_files.specs.declared.names.FileName.{FileName}
use Rattle.feed_files.specs.declared.names.ColumnName.{ColumnName}
use Rattle.feed_files.specs.declared.faults.FaultKind.{FaultKind}
use Rattle.feed_files.specs.declared.faults.FeedFault.{FeedFault}
use Rattle.feed_faults.specs.FirstFault.{first_fault}
use Rattle.feed_faults.proofs.Folders.{Folder, files_in, with_file}

-- a fault of a field, by its row as it is printed; row 0 is the header
abbrev pub fault : FaultKind → FileName → ℕ → ColumnName → Option FeedFault
fault kind file row column = Some (record { kind = kind; file = file; row = row; column = Some column })

-- a fault without a column; row 0 is the whole file
abbrev pub plain_fault : FaultKind → FileName → ℕ → Option FeedFault
plain_fault kind file row = Some (record { kind = kind; file = file; row = row; column = None })

-- the first fault of a folder
abbrev pub fault_of : Folder → Option FeedFault
fault_of folder = first_fault (files_in folder)

-- with each of these texts in the place of a file, a folder has the fault beside it
abbrev pub Answers : Folder → List ℕ → List (List ℕ × Option FeedFault) → Type 0
Answers folder name cases = map (λ c. fault_of (with_file name c.0 folder)) cases ≡ map (λ c. c.1) cases

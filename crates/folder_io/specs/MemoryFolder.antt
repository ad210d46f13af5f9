-- What a folder in memory holds and has left, what it counted, and which of its calls fail.
use Rattle.std.specs.Prelude.{ℕ, List, Option, None, Some, Bool}
use Rattle.folder_io.specs.declared.files.FileBytes.{FileBytes}
use Rattle.folder_io.specs.declared.memory_folder.MemFolder.{MemFolder}
use Rattle.folder_io.specs.CallLogs.{CallLog, counted}
use Rattle.folder_io.specs.FolderCalls.{Contents, FolderState}
use Rattle.folder_io.specs.MemoryCalls.{FailingCalls}
use Rattle.folder_io.specs.SureFolder.{sure_files, sure_contents, sure_left, sure_readable}

-- the files that it was made of
abbrev pub memory_files : MemFolder → List FileBytes
memory_files folder = sure_files folder.folder

-- what it holds under each name
abbrev pub memory_contents : MemFolder → Contents
memory_contents folder = sure_contents folder.folder

-- the bytes of the open file that are not read yet
abbrev pub memory_left : MemFolder → Option (List ℕ)
memory_left folder = sure_left folder.folder

-- whether one may read on
abbrev pub memory_readable : MemFolder → Bool
memory_readable folder = sure_readable folder.folder

-- whether the last call failed
abbrev pub memory_failed : MemFolder → Bool
memory_failed folder = folder.faults.failed

-- how many calls failed
abbrev pub memory_faults : MemFolder → ℕ
memory_faults folder = folder.faults.count

-- which calls fail, and how many were made
abbrev pub memory_calls : MemFolder → FailingCalls
memory_calls folder = record {
  failing_opens = folder.failing_opens.items;
  failing_reads = folder.failing_reads.items;
  opens_made = folder.opens;
  reads_made = folder.reads;
}

-- its opens, of which it tells how many there were
abbrev pub memory_opens : MemFolder → CallLog
memory_opens folder = counted folder.opens

-- what it tells of itself
abbrev pub memory_folder_state : MemFolder → FolderState
memory_folder_state folder = record {
  source = record { path = None; contents = Some (memory_contents folder) };
  left = memory_left folder;
  readable = memory_readable folder;
  failed = memory_failed folder;
  faults = memory_faults folder;
  opens = memory_opens folder;
}

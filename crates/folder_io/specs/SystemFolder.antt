-- The path and the counts of a folder of the system.
use Rattle.std.specs.Prelude.{ℕ, List, None, Some, Bool, is_some}
use Rattle.std.specs.Path.{path_buf_bytes}
use Rattle.folder_io.specs.declared.system_folder.DirFolder.{DirFolder}
use Rattle.folder_io.specs.CallLogs.{untold}
use Rattle.folder_io.specs.FolderCalls.{FolderState, nothing_told}

-- the path
abbrev pub system_path : {R File Dir : Type 0} → DirFolder R File Dir → List ℕ
system_path folder = path_buf_bytes folder.path

-- whether one may read on
abbrev pub system_readable : {R File Dir : Type 0} → DirFolder R File Dir → Bool
system_readable folder = is_some folder.file

-- whether the last call failed
abbrev pub system_failed : {R File Dir : Type 0} → DirFolder R File Dir → Bool
system_failed folder = folder.faults.failed

-- how many calls failed
abbrev pub system_faults : {R File Dir : Type 0} → DirFolder R File Dir → ℕ
system_faults folder = folder.faults.count

-- what it tells of itself: its path, and nothing of what it holds
abbrev pub system_folder_state : {R File Dir : Type 0} → DirFolder R File Dir → FolderState
system_folder_state folder = record {
  source = record { path = Some (system_path folder); contents = None };
  left = None;
  readable = system_readable folder;
  failed = system_failed folder;
  faults = system_faults folder;
  opens = untold;
}

-- what it tells of itself before the first call
abbrev pub unread_folder : List ℕ → FolderState
unread_folder path = record nothing_told { source = record { path = Some path; contents = None } }

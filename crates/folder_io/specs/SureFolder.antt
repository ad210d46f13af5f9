-- What a folder in memory holds and has left.
use Rattle.std.specs.Prelude.{ℕ, List, drop, Option, None, Some, Bool, false, option_map, option_and_then}
use Rattle.folder_io.specs.declared.files.FileBytes.{FileBytes}
use Rattle.folder_io.specs.declared.sure_folder.SureFolder.{SureFolder}
use Rattle.folder_io.specs.CallLogs.{untold}
use Rattle.folder_io.specs.FolderCalls.{Contents, FolderState}
use Rattle.folder_io.specs.KeptFiles.{file_in, bytes_of, bytes_under}

-- the files that it was made of
abbrev pub sure_files : SureFolder → List FileBytes
sure_files folder = folder.files

-- what it holds under each name
abbrev pub sure_contents : SureFolder → Contents
sure_contents folder = bytes_under folder.files

-- the bytes of the open file that are not read yet
abbrev pub sure_left : SureFolder → Option (List ℕ)
sure_left folder = option_map (drop folder.at) (option_and_then (λ file. bytes_of (file_in folder.files file)) folder.current)

-- whether one may read on
abbrev pub sure_readable : SureFolder → Bool
sure_readable folder = folder.readable

-- what it tells of itself
abbrev pub sure_folder_state : SureFolder → FolderState
sure_folder_state folder = record {
  source = record { path = None; contents = Some (sure_contents folder) };
  left = sure_left folder;
  readable = sure_readable folder;
  failed = false;
  faults = 0;
  opens = untold;
}

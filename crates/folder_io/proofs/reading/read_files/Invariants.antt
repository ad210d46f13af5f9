use Rattle.std.proofs.Common.{◌≡◌, ◌≤◌}
use Rattle.folder_io.specs.FolderCalls.{FolderState}
use Rattle.folder_io.specs.FileReading.{ReadsTo}
use Rattle.folder_io.proofs.FilesRead.{AreReadSoFar}
use Rattle.folder_io.proofs.reading.read_files.Given as goal

abbrev pub invariant-loop-place : goal.invariant-loop-place
invariant-loop-place g l = record {
  order : l.from ≤ l.place;
  ends : l.place ≤ l.to;
  source : (g.F.Folder.state l.folder).source ≡ (g.F.Folder.state l.fn.folder).source;
  reads : (start : FolderState) → ReadsTo start l.from (g.F.Folder.state l.fn.folder) → ReadsTo start l.place (g.F.Folder.state l.folder);
  so_far : AreReadSoFar (g.F.Folder.state l.fn.folder).source.contents l.from l.place l.fn.files l.files;
}

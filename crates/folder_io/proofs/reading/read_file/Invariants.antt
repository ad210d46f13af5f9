use Rattle.std.proofs.Common.{◌≡◌, ◌≤◌, ◌+◌, ◌-◌, [], ◌∷◌, length, true}
use Rattle.folder_io.specs.CallLogs.{Makes}
use Rattle.feed_files.specs.Names.{file_text}
use Rattle.folder_io.proofs.FilesRead.{IsSoFar}
use Rattle.folder_io.proofs.reading.read_file.Given as goal

abbrev pub invariant-loop-room : goal.invariant-loop-room
invariant-loop-room g l = record {
  readable : (g.F.Folder.state l.folder).readable ≡ true;
  stayed : (g.F.Folder.state l.folder).faults ≡ (g.F.Folder.state l.fn.folder).faults;
  source : (g.F.Folder.state l.folder).source ≡ (g.F.Folder.state l.fn.folder).source;
  opens : Makes (g.F.Folder.state l.fn.folder).opens (file_text l.fn.name ∷ []) (g.F.Folder.state l.folder).opens;
  most : l.most ≡ l.limit + 1;
  fits : length l.bytes.items ≤ l.most;
  so_far : IsSoFar (g.F.Folder.state l.fn.folder).source.contents (file_text l.fn.name) (g.F.Folder.state l.folder).left l.bytes.items;
}

abbrev pub decreases-loop-room : goal.decreases-loop-room
decreases-loop-room g l = l.most - length l.bytes.items

use Rattle.feed_files.specs.HeldFiles.{most_bytes}
use Rattle.feed_check.proofs.calls.folder_calls.Given as goal

abbrev pub ghosts-open_calls : goal.ghosts-open_calls
ghosts-open_calls g a = record { start = g.F.Folder.state a.folder.now; limit = most_bytes; name = a.folder.ghost_name }

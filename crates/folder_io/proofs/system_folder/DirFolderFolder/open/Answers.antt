use Rattle.std.proofs.Common.{arith}
use Rattle.std.proofs.lemmas.Grind.{common_steps}
use Rattle.folder_io.proofs.system_folder.DirFolderFolder.open.Goals as goal

pub returns : goal.returns
returns g c = grind (arith, common_steps)

pub returns-then-is_absent : goal.returns-then-is_absent
returns-then-is_absent g c = grind (arith, common_steps)

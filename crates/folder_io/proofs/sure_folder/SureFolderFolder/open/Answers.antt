use Rattle.std.proofs.Common.{arith}
use Rattle.std.proofs.lemmas.Grind.{common_steps}
use Rattle.folder_io.proofs.sure_folder.SureFolderFolder.open.Goals as goal

pub returns-in-Bytes : goal.returns-in-Bytes
returns-in-Bytes c = grind (arith, common_steps)

pub returns-in-Absent : goal.returns-in-Absent
returns-in-Absent c = grind (arith, common_steps)

pub returns-in_default : goal.returns-in_default
returns-in_default c = grind (arith, common_steps)

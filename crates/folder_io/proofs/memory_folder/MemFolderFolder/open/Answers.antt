use Rattle.std.proofs.Common.{arith}
use Rattle.std.proofs.lemmas.Grind.{common_steps}
use Rattle.folder_io.proofs.memory_folder.MemFolderFolder.open.Goals as goal

pub returns : goal.returns
returns c = grind (arith, common_steps)

pub returns-then-names : goal.returns-then-names
returns-then-names c = grind (arith, common_steps)

use Rattle.std.proofs.Common.{arith}
use Rattle.std.proofs.lemmas.Grind.{common_steps}
use Rattle.folder_io.proofs.memory_sink.MemSinkSink.write.Goals as goal

pub returns : goal.returns
returns c = grind (arith, common_steps)

pub returns-in-Some : goal.returns-in-Some
returns-in-Some c = grind (arith, common_steps)

pub returns-then-not-fits : goal.returns-then-not-fits
returns-then-not-fits c = grind (arith, common_steps)

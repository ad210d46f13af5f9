-- The run is one of the arguments that were read.
use Rattle.std.proofs.lemmas.Result.{IfOk-weaker}
use Rattle.page_cli.proofs.program.run_program.Goals as goal

pub returns : goal.returns
returns g c = IfOk-weaker c.run_on.result _ _ (λ ran is. (_, is)) c.run_on.ensures.ran

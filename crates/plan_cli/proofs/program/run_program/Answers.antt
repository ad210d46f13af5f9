-- The run is one of the arguments that were read.
use Rattle.std.proofs.lemmas.Result.{IfOk-weaker}
use Rattle.plan_cli.proofs.program.run_program.Goals as goal

pub returns : goal.returns
returns g c = IfOk-weaker c.run_command.result _ _ (λ ran is. (_, is)) c.run_command.ensures.ran

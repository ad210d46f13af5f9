use Rattle.std.specs.Prelude.{Ok}
use Rattle.std.proofs.lemmas.Result.{err_from_is_err_and}
use Rattle.plan_words.specs.Request.{command_request}
use Rattle.plan_app.specs.Run.{asks_folder}
use Rattle.plan_app.proofs.MadeLaws.{due_over, refused_over, read_stops}
use Rattle.plan_app.proofs.made.made_for.Goals as goal

pub returns-in_ok-outcome_of-in-Ok-clause-made : goal.returns-in_ok-outcome_of-in-Ok-clause-made
returns-in_ok-outcome_of-in-Ok-clause-made g c words named =
    due_over _ words (command_request c.args.command.now) _ _ _ c.in-Ok.ensures.feed named c.in_ok-outcome_of-in-Ok.ensures

pub returns-in_ok-refused-in-Err-Fault-clause-made : goal.returns-in_ok-refused-in-Err-Fault-clause-made
returns-in_ok-refused-in-Err-Fault-clause-made g c words named =
    let none = rw c.in-Err-Fault.field-0-is at c.in-Err-Fault.ensures.err in
    refused_over _ words (command_request c.args.command.now) _ _ _ none.1 named c.in_ok-refused-in-Err-Fault.ensures

pub returns-in_err-refused-in-Err-Fault-clause-err : goal.returns-in_err-refused-in-Err-Fault-clause-err
returns-in_err-refused-in-Err-Fault-clause-err g c =
    let none = rw c.in-Err-Fault.field-0-is at c.in-Err-Fault.ensures.err in
    let late = c.from_residual-in_err-refused-in-Err-Fault in
    let stop = err_from_is_err_and late.result late.ensures.1 in
    rw (stop.1, stop.2) (read_stops (asks_folder (Ok (command_request c.args.command.now))) _ _ none.0)

pub returns-in_err-outcome_of-in-Ok-clause-err : goal.returns-in_err-outcome_of-in-Ok-clause-err
returns-in_err-outcome_of-in-Ok-clause-err g c =
    let late = c.from_residual in
    let stop = err_from_is_err_and late.result late.ensures.1 in
    rw (stop.1, stop.2) (read_stops (asks_folder (Ok (command_request c.args.command.now))) _ _ c.in-Ok.ensures.ok)

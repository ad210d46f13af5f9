use Rattle.std.proofs.Common.{subst}
use Rattle.std.specs.Prelude.{IfErr, OnOk}
use Rattle.std.proofs.lemmas.Result.{IfOk-weaker}
use Rattle.plan_words.specs.Errors.{IsErrorOf}
use Rattle.plan_app.specs.Made.{Fails}
use Rattle.plan_app.specs.Run.{Reads}
use Rattle.plan_app.proofs.MadeLaws.{some_files}
use Rattle.plan_app.proofs.made.made.Goals as goal

pub returns-in-Ok-clause-made : goal.returns-in-Ok-clause-made
returns-in-Ok-clause-made g c =
    IfOk-weaker c.made_for.result _ _ (λ outcome made. made c.args.words.now c.in-Ok.ensures.value) c.made_for.ensures.made

pub returns-in-Ok-clause-ok : goal.returns-in-Ok-clause-ok
returns-in-Ok-clause-ok g c =
    let state = g.F.Folder.state in
    subst (λ asked. OnOk c.made_for.result (Reads asked (state c.args.folder.now) (state c.made_for.new.folder)))
    c.in-Ok.ensures.value c.made_for.ensures.ok

pub returns-in-Ok-clause-err : goal.returns-in-Ok-clause-err
returns-in-Ok-clause-err g c =
    let state = g.F.Folder.state in
    subst (λ asked. IfErr c.made_for.result (λ failure. Fails failure asked (state c.args.folder.now) (state c.made_for.new.folder)))
    c.in-Ok.ensures.value c.made_for.ensures.err

pub returns-in_ok-refused-in-Err-Usage-clause-made : goal.returns-in_ok-refused-in-Err-Usage-clause-made
returns-in_ok-refused-in-Err-Usage-clause-made g c =
    let some = some_files (g.F.Folder.state c.args.folder.now).source.contents in
    let wrong = subst (IsErrorOf _) c.in-Err-Usage.field-0-is c.in-Err-Usage.ensures.err in
    record { files = some.0; gives = some.1; is_due = rw (← wrong) c.in_ok-refused-in-Err-Usage.ensures }

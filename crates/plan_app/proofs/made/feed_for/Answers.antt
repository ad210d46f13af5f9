use Rattle.std.proofs.Common.{refl, subst}
use Rattle.feed_text.specs.TextErrors.{IsErrorOf}
use Rattle.plan_app.proofs.MadeLaws.{some_files}
use Rattle.plan_app.proofs.made.feed_for.Goals as goal

pub returns-in-Ok-clause-feed : goal.returns-in-Ok-clause-feed
returns-in-Ok-clause-feed g c =
    let some = some_files (g.F.Folder.state c.args.folder.now).source.contents in
    let made = c.in-Ok.ensures in
    rw c.in-Gen.is (record { files = some.0; gives = some.1; accepted = made.sound; is_feed = made.feed })

pub returns-in-Err-Fault-clause-err : goal.returns-in-Err-Fault-clause-err
returns-in-Err-Fault-clause-err g c =
    let some = some_files (g.F.Folder.state c.args.folder.now).source.contents in
    let first = subst (IsErrorOf _) c.in-Err-Fault.field-0-is c.in-Err-Fault.ensures.fault in
    rw c.in-Gen.is (refl, record { files = some.0; gives = some.1; is_first = first })

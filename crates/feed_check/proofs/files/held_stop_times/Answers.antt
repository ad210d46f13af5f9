use Rattle.std.proofs.Common.{◌≡◌, Some, rules}
use Rattle.std.specs.Prelude.{IfOk, IfErr}
use Rattle.std.proofs.lemmas.Result.{IfOk-weaker, IfErr-weaker}
use Rattle.feed_files.specs.HeldFiles.{HeldFile}
use Rattle.folder_io.specs.KeptFiles.{held_of}
use Rattle.feed_calls.specs.CallRows.{AreCallsOf, IsCallError}
use Rattle.feed_check.proofs.HeldCalls.{held_answer}
use Rattle.feed_check.proofs.files.held_stop_times.Goals as goal

pub returns : goal.returns
returns c =
    let text = c.bytes-text.result.now in
    let are : IfOk c.read_stop_times-calls.result (AreCallsOf (Some text) c.args.ids.now) =
    IfOk-weaker c.read_stop_times-calls.result _ _ (λ calls are. are _ c.of-records.ensures.begins) c.read_stop_times-calls.ensures.rows in
    let why : IfErr c.read_stop_times-calls.result (IsCallError (Some text)) =
    IfErr-weaker c.read_stop_times-calls.result _ _ (λ error is. is _ c.of-records.ensures.begins) c.read_stop_times-calls.ensures.why in
    let held : held_of c.args.held.now ≡ HeldFile.Bytes text = search rules in
    rw (held, c.answer.ensures) (held_answer text c.args.ids.now c.is_text.result c.read_stop_times-calls.result c.is_text.ensures are why)

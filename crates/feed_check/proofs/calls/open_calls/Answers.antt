use Rattle.std.proofs.Common.{◌≡◌, sym, ap, ◌∙◌, ◌+◌, take}
use Rattle.std.specs.Prelude.{option_map, IfSome, IfOk, IfErr}
use Rattle.std.specs.Str.{is_utf8}
use Rattle.folder_io.specs.declared.pieces.PiecesEnd.TheVariants.{Ended}
use Rattle.std.proofs.lemmas.Result.{IfOk-weaker, IfErr-weaker}
use Rattle.feed_calls.specs.CallRows.{AreCallsOf, IsCallError}
use Rattle.feed_check.proofs.HeldCalls.{left_answer, left_large, read_start}
use Rattle.feed_check.proofs.calls.open_calls.Goals as goal
use Rattle.feed_check.proofs.calls.open_calls.Goals.{in-Failed, in-TooLarge, in-Ended}

pub returns-clause-calls : goal.returns-clause-calls
returns-clause-calls g c =
    let s = g.S.Beginning in
    let start = c.new-pieces.ensures.bytes ∙ ap (λ limit. option_map (take (limit + 1)) s.start.left) c.requires.limit in
    let are : IfOk c.read_stop_times-calls.result (AreCallsOf (read_start s.start.left) c.args.ids.now) =
    IfOk-weaker c.read_stop_times-calls.result _ _ (λ calls are. rw start at (are _ c.of-records.ensures.begins)) c.read_stop_times-calls.ensures.rows in
    let why : IfErr c.read_stop_times-calls.result (IsCallError (read_start s.start.left)) =
    IfErr-weaker c.read_stop_times-calls.result _ _ (λ error is. rw start at (is _ c.of-records.ensures.begins)) c.read_stop_times-calls.ensures.why in
    let stands = rw (← c.finish-end.ensures.value, c.requires.limit) at c.release-folder.ensures.since.stands in
    let utf8 : c.finish-end.result ≡ Ended → IfSome s.start.left (λ bytes. c.is_text-is_text.result ≡ is_utf8 bytes) =
    λ ended. c.is_text-is_text.ensures.ended (sym c.finish-end.ensures.value ∙ ended) in
    elim c.match-end.branch [
      | in-Failed w ↦ rw w.calls2-is tt
      | in-TooLarge w ↦ rw (w.calls2-is, w.whole_fault.ensures) (left_large s.start.left c.args.ids.now (rw w.in-TooLarge.is at stands).1)
      | in-Ended w ↦
          rw (w.calls2-is, w.answer.ensures)
          (left_answer s.start.left c.args.ids.now c.is_text-is_text.result c.read_stop_times-calls.result (rw w.in-Ended.is at stands).1 (utf8 w.in-Ended.is) are why)
    ]

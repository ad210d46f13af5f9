use Rattle.std.proofs.Common.{◌∙◌, arith}
use Rattle.folder_io.proofs.FilesRead.{passed_on}
use Rattle.feed_check.proofs.LoadLaws.{opens_all, unread_gives, loaded_so, is_read, refused_so, loaded_feed}
use Rattle.feed_check.proofs.folder.load_behind.Goals as goal

pub returns-in_default-clause-err : goal.returns-in_default-clause-err
returns-in_default-clause-err g c = λ start begun. record { counts = begun.reads.counts; opens = (3, begun.reads.opens) }

pub returns-in_err-calls-clause-err : goal.returns-in_err-calls-clause-err
returns-in_err-calls-clause-err g c =
    passed_on _ c.from_residual.result _ c.from_residual.ensures.1 (λ start begun. unread_gives _ _ _ (c.in_err-calls.ensures.err _ begun.reads))

pub returns-in_err-read_files-clause-err : goal.returns-in_err-read_files-clause-err
returns-in_err-read_files-clause-err g c =
    passed_on _ c.from_residual-in_err-read_files.result _ c.from_residual-in_err-read_files.ensures.1
    (λ start begun. unread_gives _ _ _ (c.in_err-read_files.ensures.err _ (c.in_ok-calls.ensures.ok _ begun.reads)))

pub feed_behind-requires-clause-read : goal.feed_behind-requires-clause-read
feed_behind-requires-clause-read g c =
    let begun = c.requires.begun.1 in
    let loaded = loaded_so _ _ _ _ _ _ _ _ _ begun.are_first begun.reads begun.source c.in_ok-calls.ensures.calls c.in_ok-calls.ensures.ok c.in_ok-calls.ensures.source c.in_ok-read_files.ensures.files c.in_ok-read_files.ensures.ok in
    is_read _ _ _ _ _ _ loaded c.in-Ok.ensures

pub returns-clause-err : goal.returns-clause-err
returns-clause-err g c = λ start begun.
    let loaded = loaded_so _ _ _ _ _ _ _ _ _ begun.are_first begun.reads begun.source c.in_ok-calls.ensures.calls c.in_ok-calls.ensures.ok c.in_ok-calls.ensures.source c.in_ok-read_files.ensures.files c.in_ok-read_files.ensures.ok in
    rw c.from.ensures (refused_so _ _ _ _ _ _ loaded c.in-Ok.ensures _ c.in-Err.ensures.fault)

pub returns-in-Ok-feed_behind-clause-feed : goal.returns-in-Ok-feed_behind-clause-feed
returns-in-Ok-feed_behind-clause-feed g c = λ start begun.
    let loaded = loaded_so _ _ _ _ _ _ _ _ _ begun.are_first begun.reads begun.source c.in_ok-calls.ensures.calls c.in_ok-calls.ensures.ok c.in_ok-calls.ensures.source c.in_ok-read_files.ensures.files c.in_ok-read_files.ensures.ok in
    loaded_feed _ _ _ _ _ _ loaded c.in-Ok.ensures _ c.in-Ok-feed_behind.ensures.feed

pub returns-in-Ok-feed_behind-clause-ok : goal.returns-in-Ok-feed_behind-clause-ok
returns-in-Ok-feed_behind-clause-ok g c = λ start begun. opens_all _ _ (c.in_ok-read_files.ensures.ok _ (c.in_ok-calls.ensures.ok _ begun.reads))

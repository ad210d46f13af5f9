use Rattle.std.proofs.Common.{◌∙◌, []}
use Rattle.std.proofs.lemmas.Result.{IfErr-weaker}
use Rattle.feed_files.specs.HeldFiles.{HeldFile}
use Rattle.feed_files.specs.declared.names.FileName.{FileName}
use Rattle.folder_io.specs.KeptFiles.{held_in}
use Rattle.folder_io.proofs.FilesRead.{passed_on}
use Rattle.feed_check.specs.FilesBehind.{AreReadTo}
use Rattle.feed_check.proofs.FileLaws.{calls_error, others_error, others_stand}
use Rattle.feed_check.proofs.ReadFiles.{AreReadSo, accepts_so, read_so, are_kept, are_formed, are_read, fault_is, sound_is, feed_is}
use Rattle.feed_check.proofs.files.feed_behind.Goals as goal

pub returns-in_err-stop_times-clause-fault : goal.returns-in_err-stop_times-clause-fault
returns-in_err-stop_times-clause-fault c =
    passed_on _ c.from_residual.result _ c.from_residual.ensures.1
    (record { is_first = λ all read. calls_error all read.first_sound _ (rw c.in_err-stop_times.was at read.calls_are) })

pub read_tables-requires-clause-order : goal.read_tables-requires-clause-order
read_tables-requires-clause-order c = rw c.all.ensures (4, others_stand [] [])

pub returns-in_err-others-clause-fault : goal.returns-in_err-others-clause-fault
returns-in_err-others-clause-fault c =
    passed_on _ c.from_residual-in_err-others.result _ c.from_residual-in_err-others.ensures.1
    (record { is_first = λ all read. others_error all read.first_sound (rw c.in_ok-stop_times.was at read.calls_are).0 _ (rw (c.all.ensures, read.faults_left) at c.in_err-others.ensures.fault) })

pub related_feed-requires : goal.related_feed-requires
related_feed-requires c =
    let read = c.requires.read.1 in
    let so = read_so _ _ _ _ _ _ (rw c.in_ok-stop_times.was at read) (c.deref.ensures.value ∙ rw c.all.ensures at c.in_ok-others.ensures.tables) (rw c.all.ensures at c.in_ok-others.ensures.sound) in
    record { kept = are_kept _ _ _ _ _ so; formed = are_formed _ _ _ _ _ so; calls = so.ids_are; stop_times = are_read _ _ _ _ _ so }

pub returns-clause-fault : goal.returns-clause-fault
returns-clause-fault c =
    IfErr-weaker c.related_feed.result _ _
    (λ why is. record {
      is_first = λ all read.
          let so = read_so _ _ _ _ _ _ (rw c.in_ok-stop_times.was at read) (c.deref.ensures.value ∙ rw c.all.ensures at c.in_ok-others.ensures.tables) (rw c.all.ensures at c.in_ok-others.ensures.sound) in
          fault_is _ _ _ _ _ so why is;
    })
    c.related_feed.ensures.fault

pub returns-clause-feed : goal.returns-clause-feed
returns-clause-feed c =
    let so : (all : FileName → HeldFile) → AreReadTo all c.args.first.now c.args.ids.now c.args.calls (held_in c.args.files.now) → AreReadSo all c.args.first.now c.deref.result.now c.args.ids.now c.in_ok-stop_times.stop_times =
    λ all read. read_so all _ _ _ _ _ (rw c.in_ok-stop_times.was at read) (c.deref.ensures.value ∙ rw c.all.ensures at c.in_ok-others.ensures.tables) (rw c.all.ensures at c.in_ok-others.ensures.sound) in
    accepts_so c.related_feed.result _ _ _ c.related_feed.ensures.sound c.related_feed.ensures.feed
    (λ feed sound is. record {
      accepted = λ all read. sound_is _ _ _ _ _ (so all read) sound;
      is_feed = λ all read. is ∙ feed_is _ _ _ _ _ (so all read);
    })

use Rattle.std.proofs.Common.{◌∙◌, arith}
use Rattle.std.proofs.lemmas.Result.{IfOk-weaker, IfErr-weaker, on_ok_weaker}
use Rattle.folder_io.specs.KeptFiles.{held_in}
use Rattle.folder_io.proofs.FilesRead.{passed_on}
use Rattle.folder_io.proofs.PlaceLaws.{inside}
use Rattle.feed_check.specs.FilesBehind.{IsBegun}
use Rattle.feed_check.proofs.LoadLaws.{began, first_of, first_refused, unread_gives}
use Rattle.feed_check.proofs.folder.load.Goals as goal

pub returns-in_err-read_files-clause-err : goal.returns-in_err-read_files-clause-err
returns-in_err-read_files-clause-err g c =
    passed_on _ c.from_residual.result _ c.from_residual.ensures.1 (unread_gives _ _ _ (c.in_err-read_files.ensures.err _ (began _)))

pub returns-in_err-read_files-in-Err-clause-err : goal.returns-in_err-read_files-in-Err-clause-err
returns-in_err-read_files-in-Err-clause-err g c =
    let gave = c.in_err-read_files-in-Err.ensures.err _ (c.in_ok-read_files.ensures.ok _ (began _)) in
    passed_on _ c.from_residual-in_err-read_files-in-Err.result _ c.from_residual-in_err-read_files-in-Err.ensures.1 (unread_gives _ _ _ gave)

pub returns-clause-err : goal.returns-clause-err
returns-clause-err g c =
    let first = c.in_ok-read_files.ensures in
    let others = c.in_ok-read_files-in-Err.ensures in
    rw c.from.ensures
    (first_refused (g.F.Folder.state c.args.folder.now) (g.F.Folder.state c.read_files-in-Err.new.folder) (held_in c.read_files.new.files) (held_in c.read_files-in-Err.new.files)
    (others.ok _ (first.ok _ (began _)))
    (λ name lt. first.files.given name (omega arith) lt)
    (λ name le. rw first.source at (others.files.given name le (inside name)))
    c.in-Err.error (rw c.all.ensures at c.in-Err.ensures.fault))

pub load_behind-requires-clause-begun : goal.load_behind-requires-clause-begun
load_behind-requires-clause-begun g c = (
  g.F.Folder.state c.args.folder.now,
  record {
    are_first = rw (← c.deref.ensures.value) at (first_of _ _ _ _ c.in_ok-read_files.ensures.files (rw c.all.ensures at c.in-Ok.ensures.sound) (rw c.all.ensures at c.in-Ok.ensures.tables));
    reads = c.in_ok-read_files.ensures.ok _ (began _);
    source = c.in_ok-read_files.ensures.source;
  },
)

pub returns-in-Ok : goal.returns-in-Ok
returns-in-Ok g c =
    let begun : IsBegun (g.F.Folder.state c.args.folder.now) c.deref.result.now (g.F.Folder.state c.read_files.new.folder) = record {
      are_first = rw (← c.deref.ensures.value) at (first_of _ _ _ _ c.in_ok-read_files.ensures.files (rw c.all.ensures at c.in-Ok.ensures.sound) (rw c.all.ensures at c.in-Ok.ensures.tables));
      reads = c.in_ok-read_files.ensures.ok _ (began _);
      source = c.in_ok-read_files.ensures.source;
    } in
    record {
      feed = IfOk-weaker c.load_behind.result _ _ (λ feed is. is _ begun) c.load_behind.ensures.feed;
      ok = on_ok_weaker c.load_behind.result (λ opens. opens _ begun) c.load_behind.ensures.ok;
      err = IfErr-weaker c.load_behind.result _ _ (λ why gives. gives _ begun) c.load_behind.ensures.err;
      source = c.load_behind.ensures.source ∙ c.in_ok-read_files.ensures.source;
    }

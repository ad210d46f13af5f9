use Rattle.std.proofs.Common.{◌≡◌, ap, ◌∙◌, length, arith}
use Rattle.std.proofs.lemmas.List.{length-set}
use Rattle.folder_io.proofs.FilesRead.{all_read, more_opened, more_read, gives_up, passed_on}
use Rattle.folder_io.proofs.reading.read_files.Goals as goal

pub returns-in_err-bytes-clause-err : goal.returns-in_err-bytes-clause-err
returns-in_err-bytes-clause-err g c =
    let opens = rw c.all-names.ensures at c.in_err-bytes.ensures.opens in
    passed_on _ c.from_residual.result _ c.from_residual.ensures.1
    (λ start began. gives_up start _ _ c.loop-place.place _ (omega (arith, c.requires.places, c.loop-place-test.true)) (c.loop-place.invariant.reads start began) opens _ c.in_err-bytes.ensures.err)

pub loop-place-preserved : goal.loop-place-preserved
loop-place-preserved g c =
    let before = c.loop-place.invariant in
    let read = c.in_ok-bytes.ensures in
    let opens = rw c.all-names.ensures at read.opens in
    let bytes = rw (before.source, c.all-names.ensures) at read.bytes in
    record {
      order = omega (arith, before.order);
      ends = omega (arith, c.loop-place-test.true);
      source = read.source ∙ before.source;
      reads = λ start began. more_opened start _ _ c.loop-place.place _ (omega (arith, c.requires.places, c.loop-place-test.true)) (before.reads start began) opens read.ok;
      so_far = rw c.put_at.ensures.value (more_read _ c.args.from c.loop-place.place c.args.files.now c.loop-place.files c.in_ok-bytes.bytes before.so_far before.order (omega (arith, c.requires.places, c.loop-place-test.true, ap length c.put_at.ensures.value, c.put_at.ensures.size, length-set c.loop-place.files c.loop-place.place c.in_ok-bytes.bytes)) (record { within = read.within; given = bytes }));
    }

pub returns-clause-files : goal.returns-clause-files
returns-clause-files g c =
    let past : c.loop-place.place ≡ c.args.to = omega (arith, c.loop-place-test.false, c.loop-place.invariant.ends) in
    all_read (g.F.Folder.state c.args.folder.now) c.args.from c.args.to c.args.files.now c.loop-place.files (rw past at c.loop-place.invariant.so_far)

use Rattle.std.proofs.Common.{[], ◌∷◌, sym, subst, ◌≤◌, ◌∙◌, length, drop, refl, ap, arith, length-take}
use Rattle.feed_files.specs.Names.{file_text}
use Rattle.folder_io.specs.CallLogs.{Makes}
use Rattle.folder_io.proofs.FilesRead.{piece_put, opened_so_far, more_so_far, absent_read, end_read, large_read}
use Rattle.folder_io.proofs.reading.read_file.Goals as goal

pub loop-room-init : goal.loop-room-init
loop-room-init g c =
    let opens = c.in-Present.ensures in
    record {
      readable = opens.readable;
      stayed = opens.counts;
      source = opens.source;
      opens = rw c.text.ensures at opens.opens;
      most = refl;
      fits = omega (arith, ap length c.new-bytes.ensures.items);
      so_far = opened_so_far (g.F.Folder.state c.args.folder.now).source.contents (file_text c.args.name) _ _ (rw c.text.ensures at opens.finds) c.new-bytes.ensures.items;
    }

pub loop-room-preserved : goal.loop-room-preserved
loop-room-preserved g c =
    let before = c.loop-room.invariant in
    let reads = c.in-Got.ensures in
    let put = piece_put c.loop-room.bytes.items c.extend_from_slice.new.self.items c.read.new.room (drop c.min-want.result c.loop-room.room) c.in-Got.count c.in_ok-extend_from_slice-in-Got.ensures.items (omega (arith, reads.fits.1, c.read.auto.room)) in
    record {
      readable = reads.readable;
      stayed = reads.counts ∙ before.stayed;
      source = reads.source ∙ before.source;
      opens = rw reads.opens before.opens;
      most = refl;
      fits = omega (arith, put.1, reads.fits.1, length-take c.min-want.result c.loop-room.room, c.min-want.ensures, c.len-in-loop-room.ensures, c.loop-room-test.true, c.len.ensures);
      so_far = more_so_far (g.F.Folder.state c.args.folder.now).source.contents (file_text c.args.name) c.loop-room.bytes.items _ _ _ _ c.in-Got.count before.so_far reads.takes put.0;
    }

pub loop-room-smaller : goal.loop-room-smaller
loop-room-smaller g c =
    let reads = c.in-Got.ensures in
    let put = piece_put c.loop-room.bytes.items c.extend_from_slice.new.self.items c.read.new.room (drop c.min-want.result c.loop-room.room) c.in-Got.count c.in_ok-extend_from_slice-in-Got.ensures.items (omega (arith, reads.fits.1, c.read.auto.room)) in
    omega (arith, put.1, reads.fits.0, c.loop-room-test.true, c.len.ensures)

pub returns-in-Absent : goal.returns-in-Absent
returns-in-Absent g c =
    let opens = c.in-Absent.ensures in
    let read = absent_read (g.F.Folder.state c.args.folder.now).source.contents (file_text c.args.name) _ c.args.limit (rw c.text.ensures at opens.finds) in
    record {
      within = tt;
      bytes = read.0;
      stops_past = read.1;
      ok = opens.counts;
      err = tt;
      source = opens.source;
      opens = rw c.text.ensures at opens.opens;
    }

pub returns-in-End : goal.returns-in-End
returns-in-End g c =
    let before = c.loop-room.invariant in
    let reads = c.in-End.ensures in
    let within : length c.loop-room.bytes.items ≤ c.args.limit = omega (arith, c.loop-room-test.true, c.len.ensures) in
    let stayed = reads.counts ∙ before.stayed in
    let read = end_read (g.F.Folder.state c.args.folder.now).source.contents (file_text c.args.name) c.loop-room.bytes.items [] _ _ c.args.limit before.so_far reads.takes within in
    rw c.of.ensures
    (record {
      within = within;
      bytes = read.0;
      stops_past = read.1;
      ok = stayed;
      err = tt;
      source = reads.source ∙ before.source;
      opens = subst (Makes (g.F.Folder.state c.args.folder.now).opens (file_text c.args.name ∷ [])) (sym reads.opens) before.opens;
    })

pub returns : goal.returns
returns g c =
    let before = c.loop-room.invariant in
    let read = large_read (g.F.Folder.state c.args.folder.now).source.contents (file_text c.args.name) c.loop-room.bytes.items _ c.args.limit before.so_far (omega (arith, before.fits, c.loop-room-test.false, c.len.ensures)) in
    record {
      within = tt;
      bytes = read.0;
      stops_past = read.1;
      ok = before.stayed;
      err = tt;
      source = before.source;
      opens = before.opens;
    }

use Rattle.std.proofs.Common.{◌≡◌, ◌∙◌, ◌<◌, sym, true, false, arith}
use Rattle.feed_files.specs.declared.names.FileName.TheVariants as file
use Rattle.plain_laws.proofs.Laws.{find_below_found, find_below_next}
use Rattle.feed_faults.specs.Records.{row_count}
use Rattle.feed_faults.specs.FeedTables.{table_in}
use Rattle.feed_faults.specs.FareRelations.{is_bad_frame}
use Rattle.feed_relations.specs.Frames.{frame_of}
use Rattle.feed_relations.proofs.FrameLaws.{frame_order, frame_total}
use Rattle.feed_relations.proofs.SeenLaws.{seen_more}
use Rattle.feed_relations.proofs.frames.first_bad_frame.Goals as goal

pub returns-then-is_bad : goal.returns-then-is_bad
returns-then-is_bad g c =
    let table = table_in c.args.feed.now file.Timeframes in
    let here : is_bad_frame table c.loop-row.row ≡ true = rw (c.get-table.ensures, c.tables.ensures) at (sym c.is_bad.ensures ∙ c.if-is_bad.true) in
    sym (find_below_found (is_bad_frame table) c.args.below c.loop-row.row c.loop-row-test.true c.loop-row.invariant.0 here)

pub loop-row-preserved : goal.loop-row-preserved
loop-row-preserved g c =
    let table = table_in c.args.feed.now file.Timeframes in
    let here : is_bad_frame table c.loop-row.row ≡ false = rw (c.get-table.ensures, c.tables.ensures) at (sym c.is_bad.ensures ∙ c.if-is_bad.false) in (
      find_below_next (is_bad_frame table) c.loop-row.row c.loop-row.invariant.0 here,
      seen_more frame_order (frame_of table) c.loop-row.seen c.loop-row.row c.loop-row.invariant.1 c.frame_of-frame.result c.frame_of-frame.ensures c.insert.new.self frame_total c.in_ok-insert.ensures.updates,
    )

pub is_bad-requires : goal.is_bad-requires
is_bad-requires g c =
    let within : c.loop-row.row < row_count (table_in c.args.feed.now file.Timeframes) = omega (arith, c.loop-row-test.true, c.requires) in
    record {
      within = rw (c.get-table.ensures, c.tables.ensures) within;
      frame = rw (c.get-table.ensures, c.tables.ensures) c.frame_of-frame.ensures;
      none = rw (c.get-table.ensures, c.tables.ensures) c.loop-row.invariant.0;
      seen = rw (c.get-table.ensures, c.tables.ensures) c.loop-row.invariant.1;
    }

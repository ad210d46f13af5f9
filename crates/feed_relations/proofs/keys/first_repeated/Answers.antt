use Rattle.std.proofs.Common.{sym, ◌∙◌, ap}
use Rattle.std.specs.Prelude.{not}
use Rattle.plain_laws.proofs.Laws.{find_below_found, find_below_next}
use Rattle.feed_faults.specs.FeedTables.{table_in}
use Rattle.feed_faults.specs.RowKeys.{is_repeated}
use Rattle.feed_faults.specs.RowChecks.{same_key}
use Rattle.feed_relations.specs.RowKeys.{row_key}
use Rattle.feed_relations.proofs.SeenLaws.{repeated, seen_more}
use Rattle.feed_relations.proofs.KeyLaws.{key_order, key_total, repeated_by_numbers}
use Rattle.feed_relations.proofs.keys.first_repeated.Goals as goal

pub returns-then-not-branch : goal.returns-then-not-branch
returns-then-not-branch g c =
    let t = c.args.feed.now in
    sym (find_below_found (is_repeated (same_key c.args.file (table_in t c.args.file))) c.args.below c.loop-row.row c.loop-row-test.true c.loop-row.invariant.0
    (sym (repeated_by_numbers t c.args.file c.loop-row.row c.args.below c.requires.kept c.requires.within c.requires.known c.loop-row-test.true)
    ∙ repeated key_order (row_key t c.args.file) c.loop-row.seen c.loop-row.row c.loop-row.invariant.1 c.row_key.result c.row_key.ensures c.in_ok-insert.field-0 c.in_ok-insert.ensures.added
    ∙ ap not c.if-not-branch.true))

pub loop-row-preserved : goal.loop-row-preserved
loop-row-preserved g c =
    let t = c.args.feed.now in (
      find_below_next (is_repeated (same_key c.args.file (table_in t c.args.file))) c.loop-row.row c.loop-row.invariant.0
          (sym (repeated_by_numbers t c.args.file c.loop-row.row c.args.below c.requires.kept c.requires.within c.requires.known c.loop-row-test.true)
          ∙ repeated key_order (row_key t c.args.file) c.loop-row.seen c.loop-row.row c.loop-row.invariant.1 c.row_key.result c.row_key.ensures c.in_ok-insert.field-0 c.in_ok-insert.ensures.added
          ∙ ap not c.if-not-branch.false),
      seen_more key_order (row_key t c.args.file) c.loop-row.seen c.loop-row.row c.loop-row.invariant.1 c.row_key.result c.row_key.ensures c.insert.new.self key_total c.in_ok-insert.ensures.updates,
    )

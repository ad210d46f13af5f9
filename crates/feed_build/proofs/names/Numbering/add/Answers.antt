use Rattle.std.proofs.Common.{◌≡◌, ◌∙◌, sym, ap, arith}
use Rattle.feed_build.specs.TableNames.{names_by_column}
use Rattle.feed_build.proofs.NameColumns.{names_before, few_rows, place_taken, place_left, all_short}
use Rattle.feed_build.proofs.names.Numbering.add.Goals as goal
use Rattle.feed_build.proofs.names.Numbering.add.Goals.{then-eq+in_ok-add_column, else-eq}

pub add_column-requires-clause-short : goal.add_column-requires-clause-short
add_column-requires-clause-short g c =
    rw c.get.ensures (all_short c.args.tables.now c.requires.formed c.loop-file.file-index _ c.loop-file-test.true)

pub loop-file-preserved : goal.loop-file-preserved
loop-file-preserved g c = elim c.if-eq.branch [
  | then-eq+in_ok-add_column w ↦
      let rows = few_rows c.args.tables.now c.requires.formed _ w.get.result.now w.get.ensures in
      record {
        names = rw (w.self-is, w.in_ok-add_column.ensures.names, c.loop-file.invariant.names, w.get.ensures) (place_taken c.args.tables.now c.args.column c.loop-file.file-index _ c.loop-file-test.true (sym c.eq.ensures ∙ w.if-eq.true));
        few = rw w.self-is (omega (arith, w.in_ok-add_column.ensures.grows, c.loop-file.invariant.few, rows));
      }
  | else-eq w ↦ record {
    names = rw (w.self-is, c.loop-file.invariant.names) (place_left c.args.tables.now c.args.column c.loop-file.file-index _ c.loop-file-test.true (sym c.eq.ensures ∙ w.if-eq.false));
    few = rw w.self-is (omega (arith, c.loop-file.invariant.few));
  }
]

pub returns : goal.returns
unfolding names_by_column
returns g c =
    let all : c.loop-file.file-index ≡ 9 = omega (arith, c.loop-file.auto.file-index-end) in
    c.loop-file.invariant.names ∙ ap (names_before c.args.tables.now c.args.column) all

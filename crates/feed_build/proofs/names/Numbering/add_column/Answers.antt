use Rattle.std.proofs.Common.{◌≡◌, refl, ◌∙◌, sym, add-one, arith, ◌<◌}
use Rattle.feed_faults.specs.Records.{row_count}
use Rattle.feed_faults.specs.AcceptedFeed.{with_name}
use Rattle.feed_build.specs.NameNumbers.{names_in, IsShort}
use Rattle.feed_build.proofs.NumberLaws.{name_added, with_unfilled, with_grows, with_numbering}
use Rattle.feed_build.proofs.names.Numbering.add_column.Goals as goal
use Rattle.feed_build.proofs.names.Numbering.add_column.Goals.{then-is_filled+in_ok-insert, else-is_filled}

pub loop-row-preserved : goal.loop-row-preserved
loop-row-preserved c =
    let name = c.field-name.result in
    let before = names_in c.loop-row.self-inside.names in
    let few = c.requires.few in
    let grew = c.loop-row.invariant.grows in
    let within : c.loop-row.row < row_count c.args.table.now = rw (← c.rows-row-end.ensures.count) c.loop-row-test.true in
    let short : IsShort name.now = rw c.field-name.ensures (c.requires.short c.loop-row.row within) in
    let added : names_in c.if-is_filled.self-inside.names ≡ with_name before name.now =
    elim c.if-is_filled.branch [
      | then-is_filled+in_ok-insert w ↦ rw (w.self-inside-is, w.in_ok-insert.ensures.keys) (name_added c.loop-row.self-inside.names.keys name (sym c.is_filled.ensures ∙ w.if-is_filled.true))
      | else-is_filled w ↦ rw w.self-inside-is (sym (with_unfilled before name.now (sym c.is_filled.ensures ∙ w.if-is_filled.false)))
    ] in
    let grows = with_grows before name.now in
    record {
      names = rw (add-one c.loop-row.row, added, c.loop-row.invariant.names, c.field-name.ensures) refl;
      numbering = rw added (with_numbering before name.now c.loop-row.invariant.numbering short (omega (arith, few, grew, within)));
      grows = rw added (omega (arith, grows, grew));
    }

use Rattle.std.proofs.Common.{◌∙◌, ap, ◌&&◌, take_all}
use Rattle.std.specs.Prelude.{nat_lt}
use Rattle.std.specs.List.{list_any}
use Rattle.number_marks.specs.Marks.{is_number}
use Rattle.number_marks.proofs.marks.marked.Goals as goal

pub returns : goal.returns
returns g c =
    λ i.
    c.loop-row.invariant.marks i
    ∙ ap
    (λ rows. nat_lt i c.args.count && list_any (λ row. is_number i (g.C.NumberColumn.number c.args.column row)) rows)
    (take_all c.loop-row.row-index c.args.rows.now c.loop-row-test.false)

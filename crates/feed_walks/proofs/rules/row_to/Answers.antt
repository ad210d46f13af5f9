use Rattle.std.proofs.Common.{sym, arith}
use Rattle.feed_rows.specs.declared.rows.LinkRow.{LinkRow}
use Rattle.feed_walks.proofs.PlaceLaws.{find_hit, find_miss}
use Rattle.feed_walks.proofs.rules.row_to.Goals as goal
use Rattle.feed_walks.proofs.rules.row_to.Goals.{else-place-rows-via-then-place-rows+else-rows-place, else-place-rows-via-else-place-rows}

pub returns-then-rows-place : goal.returns-then-rows-place
returns-then-rows-place c = λ rises. let is = c.place_of-place.ensures rises in sym (find_hit (λ (row : LinkRow). row.to.0) c.args.to.0 _ _ _ is.before c.if-place-rows.true c.if-rows-place.true)

pub returns-else-place-rows : goal.returns-else-place-rows
returns-else-place-rows c = λ rises.
    let is = c.place_of-place.ensures rises in
    sym (find_miss (λ (row : LinkRow). row.to.0) c.args.to.0 _ _ _ rises is (λ lt same. elim c.else-place-rows.branch [
      | else-place-rows-via-then-place-rows+else-rows-place w ↦ w.if-rows-place.false same
      | else-place-rows-via-else-place-rows w ↦ omega arith
    ]))

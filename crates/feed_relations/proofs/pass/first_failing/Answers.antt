use Rattle.std.proofs.Common.{◌≡◌, sym, ◌∙◌, arith}
use Rattle.plain_laws.proofs.Laws.{find_below_found, find_below_next}
use Rattle.feed_faults.specs.RowChecks.{fails}
use Rattle.feed_relations.proofs.pass.first_failing.Goals as goal

pub returns-in-NewKey : goal.returns-in-NewKey
returns-in-NewKey g c =
    rw c.in-NewKey.is c.first_repeated.ensures

pub returns-in-GoodTimeframe : goal.returns-in-GoodTimeframe
returns-in-GoodTimeframe g c =
    let timeframes = rw c.in-GoodTimeframe.is at c.requires.fits in
    rw (c.in-GoodTimeframe.is, timeframes) c.first_bad_frame.ensures

pub returns-then-row_fails : goal.returns-then-row_fails
returns-then-row_fails g c =
    sym (find_below_found (fails c.args.feed.now c.args.file c.args.rule) c.args.below c.loop-row.row c.loop-row-test.true c.loop-row.invariant (sym c.row_fails.ensures ∙ c.if-row_fails.true))

pub loop-row-preserved : goal.loop-row-preserved
loop-row-preserved g c =
    find_below_next (fails c.args.feed.now c.args.file c.args.rule) c.loop-row.row c.loop-row.invariant (sym c.row_fails.ensures ∙ c.if-row_fails.false)

pub returns-after-loop-row : goal.returns-after-loop-row
returns-after-loop-row g c =
    let all : c.loop-row.row ≡ c.args.below = omega (arith, c.loop-row-test.false, c.loop-row.auto.row-end) in
    sym (rw all at c.loop-row.invariant)

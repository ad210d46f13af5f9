use Rattle.std.proofs.Common.{◌∙◌, ap, true, false}
use Rattle.feed_rows.specs.FeedRows.{FeedRows}
use Rattle.feed_rows.specs.RowsById.{is_default_rider}
use Rattle.plain_laws.proofs.Laws.{find_below_next}
use Rattle.command_answers.proofs.RiderLaws.{is_marked, first_rider}
use Rattle.command_answers.proofs.riders.first_marked.Goals as goal

pub returns-then-riders-number : goal.returns-then-riders-number
returns-then-riders-number c =
    let same = c.items-riders.ensures.value ∙ ap (λ (f : FeedRows). f.riders) c.feed.view_is in
    first_rider c.args.feed.now c.items-riders.result.now same (is_default_rider c.args.feed.now)
    c.loop-number.number c.loop-number-test.true c.loop-number.invariant
    (is_marked c.args.feed.now c.items-riders.result.now same c.loop-number.number _ true c.loop-number-test.true
    c.if-riders-number.true)

pub loop-number-preserved : goal.loop-number-preserved
loop-number-preserved c =
    let same = c.items-riders.ensures.value ∙ ap (λ (f : FeedRows). f.riders) c.feed.view_is in
    find_below_next (is_default_rider c.args.feed.now) c.loop-number.number c.loop-number.invariant
    (is_marked c.args.feed.now c.items-riders.result.now same c.loop-number.number _ false c.loop-number-test.true
    c.if-riders-number.false)

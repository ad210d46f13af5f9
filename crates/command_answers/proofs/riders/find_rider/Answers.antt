use Rattle.std.proofs.Common.{◌∙◌, sym, ap, true, false}
use Rattle.std.specs.Prelude.{bytes_eq}
use Rattle.feed_rows.specs.FeedRows.{FeedRows}
use Rattle.feed_rows.specs.RowsById.{has_rider_id}
use Rattle.plain_laws.proofs.Laws.{find_below_next}
use Rattle.command_answers.proofs.RiderLaws.{has_id, first_rider}
use Rattle.command_answers.proofs.riders.find_rider.Goals as goal

pub returns-then-eq : goal.returns-then-eq
returns-then-eq c =
    let same = c.items-riders.ensures.value ∙ ap (λ (f : FeedRows). f.riders) c.feed.view_is in
    let id = c.args.id.now in
    let hit = ap (λ bs. bytes_eq bs id) (sym c.bytes.ensures.value) ∙ sym c.eq.ensures ∙ c.if-eq.true in
    first_rider c.args.feed.now c.items-riders.result.now same (has_rider_id c.args.feed.now id)
    c.loop-number.number c.loop-number-test.true c.loop-number.invariant
    (has_id c.args.feed.now c.items-riders.result.now same id c.loop-number.number _ true c.loop-number-test.true hit)

pub loop-number-preserved : goal.loop-number-preserved
loop-number-preserved c =
    let same = c.items-riders.ensures.value ∙ ap (λ (f : FeedRows). f.riders) c.feed.view_is in
    let id = c.args.id.now in
    let miss = ap (λ bs. bytes_eq bs id) (sym c.bytes.ensures.value) ∙ sym c.eq.ensures ∙ c.if-eq.false in
    find_below_next (has_rider_id c.args.feed.now id) c.loop-number.number c.loop-number.invariant
    (has_id c.args.feed.now c.items-riders.result.now same id c.loop-number.number _ false c.loop-number-test.true miss)

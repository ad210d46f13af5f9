use Rattle.std.proofs.Common.{◌≡◌, refl, ◌∙◌, ap, subst, ◌<◌, ◌≤◌, true, false, length, Ok}
use Rattle.std.specs.Prelude.{nat_lt}
use Rattle.std.proofs.lemmas.Bool.{lt-ltb, le-ltb}
use Rattle.feed_rows.specs.FeedRows.{FeedRows}
use Rattle.feed_rows.specs.RowsById.{is_default_rider}
use Rattle.plain_laws.specs.Plain.{count_below}
use Rattle.command_answers.proofs.RiderLaws.{marked_count}
use Rattle.command_answers.proofs.riders.default_rider.Goals as goal

pub returns-then-marked_count-gt1 : goal.returns-then-marked_count-gt1
returns-then-marked_count-gt1 c =
    let same = c.items.ensures.value ∙ ap (λ (f : FeedRows). f.riders) c.feed.view_is in
    let many = c.marked_count.ensures ∙ marked_count c.args.feed.now c.items.result.now same in
    let two : nat_lt 1 (count_below (length c.args.feed.now.riders) (is_default_rider c.args.feed.now)) ≡ true =
    lt-ltb 1 _ (subst (λ n. 1 < n) many c.if-marked_count-gt1.true) in
    rw two refl

pub returns-else-marked_count-gt1 : goal.returns-else-marked_count-gt1
returns-else-marked_count-gt1 c =
    let same = c.items.ensures.value ∙ ap (λ (f : FeedRows). f.riders) c.feed.view_is in
    let many = c.marked_count.ensures ∙ marked_count c.args.feed.now c.items.result.now same in
    let few : nat_lt 1 (count_below (length c.args.feed.now.riders) (is_default_rider c.args.feed.now)) ≡ false =
    le-ltb 1 _ (subst (λ n. n ≤ 1) many c.if-marked_count-gt1.false) in
    rw few (ap Ok c.first_marked.ensures)

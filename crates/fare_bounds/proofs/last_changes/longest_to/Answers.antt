-- One row more, and at the end all rows.
use Rattle.std.proofs.Common.{ℕ, ◌<◌, ◌≤◌, refl, sym, ◌∙◌, ap, subst, get_or, vec_len, arith}
use Rattle.std.proofs.lemmas.Bool.{both_ways}
use Rattle.feed_rows.specs.FeedRows.{FeedRows}
use Rattle.fare_bounds.specs.Amounts.{row_place}
use Rattle.fare_bounds.specs.LastChanges.{IsLongestTo, lasting}
use Rattle.fare_bounds.specs.Limits.{limit_at}
use Rattle.fare_bounds.proofs.FirstLaws.{first_more, first_all}
use Rattle.fare_bounds.proofs.LevelLaws.{no_row, place_low}
use Rattle.fare_bounds.proofs.last_changes.longest_to.Goals as goal
use Rattle.fare_bounds.proofs.last_changes.longest_to.Goals.{then-can_match_one, else-can_match_one}

pub raise-requires : goal.raise-requires
raise-requires c =
    subst (λ (place : ℕ). place < vec_len c.loop-row.limits) (sym c.row_place.ensures)
    (place_low c.args.feed.now _ c.items-row-items.result.now c.loop-row.row-index no_row _ _ c.feed.view_is
    c.items-row-items.ensures.value c.feed.invariant.transfer_rules c.loop-row-test.true refl c.loop-row.invariant.0)

pub loop-row-preserved : goal.loop-row-preserved
loop-row-preserved c =
    let row = get_or c.items-row-items.result.now c.loop-row.row-index no_row in
    let groups = c.args.groups.now in
    elim c.if-can_match_one.branch [
      | then-can_match_one w ↦ rw w.limits-is (
        w.raise.ensures.len ∙ c.loop-row.invariant.0,
        first_more (IsLongestTo groups c.loop-row.limits.items) (IsLongestTo groups w.raise.new.limits.items)
            c.items-row-items.result.now c.loop-row.row-index no_row c.loop-row.invariant.1
            (λ row before matches.
            let above = w.raise.ensures.raised.above (row_place row.from) in
            let le = before matches in
            omega (arith, le, above))
            (λ matches. subst (λ (place : ℕ). lasting row.limit ≤ limit_at w.raise.new.limits.items place) w.row_place.ensures
            (subst (λ (seconds : ℕ). seconds ≤ limit_at w.raise.new.limits.items w.row_place.result) w.lasting.ensures
            w.raise.ensures.raised.there)),
      )
      | else-can_match_one w ↦ rw w.limits-is (
        c.loop-row.invariant.0,
        first_more (IsLongestTo groups c.loop-row.limits.items) (IsLongestTo groups c.loop-row.limits.items)
            c.items-row-items.result.now c.loop-row.row-index no_row c.loop-row.invariant.1
            (λ row before. before)
            (λ matches. absurd (both_ways _ w.if-can_match_one.false (c.can_match_one.ensures ∙ matches))),
      )
    ]

pub returns : goal.returns
returns c =
    first_all (IsLongestTo c.args.groups.now c.loop-row.limits.items) c.items-row-items.result.now
    c.args.feed.now.transfer_rules c.loop-row.row-index
    (c.items-row-items.ensures.value ∙ ap (λ (f : FeedRows). f.transfer_rules) c.feed.view_is) c.loop-row-test.false
    c.loop-row.invariant.1

-- One row more, and at the end all rows.
use Rattle.std.proofs.Common.{ℕ, ◌<◌, ◌≤◌, refl, sym, ◌∙◌, ap, subst, get_or, vec_len, arith}
use Rattle.feed_rows.specs.FeedRows.{FeedRows}
use Rattle.fare_bounds.specs.Amounts.{row_place}
use Rattle.fare_bounds.specs.Limits.{limit_at, seconds_of, IsWithinLimits}
use Rattle.fare_bounds.proofs.FirstLaws.{first_more, first_all}
use Rattle.fare_bounds.proofs.LevelLaws.{no_row, place_low}
use Rattle.fare_bounds.proofs.limits.greatest_limits.Goals as goal

pub raise-requires : goal.raise-requires
raise-requires c =
    subst (λ (place : ℕ). place < vec_len c.loop-row.limits) (sym c.row_place.ensures)
    (place_low c.args.feed.now _ c.items-row-items.result.now c.loop-row.row-index no_row _ _ c.feed.view_is
    c.items-row-items.ensures.value c.feed.invariant.transfer_rules c.loop-row-test.true refl c.loop-row.invariant.0)

pub loop-row-preserved : goal.loop-row-preserved
loop-row-preserved c =
    let row = get_or c.items-row-items.result.now c.loop-row.row-index no_row in
    let raised = c.raise.ensures.raised in (
      c.raise.ensures.len ∙ c.loop-row.invariant.0,
      first_more (IsWithinLimits c.loop-row.limits.items) (IsWithinLimits c.raise.new.limits.items)
          c.items-row-items.result.now c.loop-row.row-index no_row c.loop-row.invariant.1
          (λ row before. let above = raised.above (row_place row.from) in omega (arith, before, above))
          (subst (λ (place : ℕ). seconds_of row.limit ≤ limit_at c.raise.new.limits.items place) c.row_place.ensures
          (subst (λ (seconds : ℕ). seconds ≤ limit_at c.raise.new.limits.items c.row_place.result) c.seconds_of.ensures
          raised.there)),
    )

pub returns : goal.returns
returns c =
    first_all (IsWithinLimits c.loop-row.limits.items) c.items-row-items.result.now
    c.args.feed.now.transfer_rules c.loop-row.row-index
    (c.items-row-items.ensures.value ∙ ap (λ (f : FeedRows). f.transfer_rules) c.feed.view_is) c.loop-row-test.false
    c.loop-row.invariant.1

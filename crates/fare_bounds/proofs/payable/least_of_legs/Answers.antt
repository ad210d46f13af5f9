-- One rule more, and at the end all rules.
use Rattle.std.proofs.Common.{ℕ, ◌<◌, sym, vec_len, get_or, ◌∙◌, ap, subst}
use Rattle.std.specs.Prelude.{◌≤ℤ◌}
use Rattle.feed_rows.specs.FeedRows.{FeedRows}
use Rattle.fare_bounds.specs.Amounts.{amount_at, place_of}
use Rattle.fare_bounds.specs.Payable.{IsLegRuleAbove}
use Rattle.fare_bounds.proofs.AmountLaws.{le_trans, lowered_to}
use Rattle.fare_bounds.proofs.FirstLaws.{first_more, first_all}
use Rattle.fare_bounds.proofs.PayableLaws.{leg_place_low}
use Rattle.fare_bounds.proofs.payable.least_of_legs.Goals as goal

pub lower-requires : goal.lower-requires
lower-requires c =
    subst (λ (place : ℕ). place < vec_len c.loop-rule.amounts) (sym c.place_of.ensures)
    (leg_place_low c.args.feed.now _ c.items-rule-items.result.now c.loop-rule.rule-index _ _ c.feed.view_is
    c.items-rule-items.ensures.value c.feed.invariant.leg_rules c.loop-rule-test.true c.loop-rule.invariant.0)

pub loop-rule-preserved : goal.loop-rule-preserved
loop-rule-preserved c =
    let rule = get_or c.items-rule-items.result.now c.loop-rule.rule-index _ in
    let done =
    lowered_to c.place_of.result c.amount_at-least.result _ _ _
    (record { sfits = c.amount_at-least.type_inv }) c.amount_at-least.ensures
    c.lower.ensures.lowered in (
      c.lower.ensures.len ∙ c.loop-rule.invariant.0,
      done.amounts 1 c.loop-rule.invariant.1 (c.requires _).low,
      first_more (IsLegRuleAbove c.args.products.now c.loop-rule.amounts.items)
          (IsLegRuleAbove c.args.products.now c.lower.new.amounts.items)
          c.items-rule-items.result.now c.loop-rule.rule-index _ c.loop-rule.invariant.2
          (λ rule before. le_trans _ _ _ (done.below (place_of rule.group)) before)
          (subst (λ (place : ℕ). amount_at c.lower.new.amounts.items place ≤ℤ amount_at c.args.products.now
          rule.product.0)
          c.place_of.ensures done.there),
    )

pub returns-clause-least : goal.returns-clause-least
returns-clause-least c =
    first_all (IsLegRuleAbove c.args.products.now c.loop-rule.amounts.items) c.items-rule-items.result.now
    c.args.feed.now.leg_rules c.loop-rule.rule-index
    (c.items-rule-items.ensures.value ∙ ap (λ (f : FeedRows). f.leg_rules) c.feed.view_is) c.loop-rule-test.false
    c.loop-rule.invariant.2

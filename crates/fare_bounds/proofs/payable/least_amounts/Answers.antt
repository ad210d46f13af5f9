-- What can be paid for legs follows from what can be paid for products.
use Rattle.std.proofs.Common.{◌≡◌, subst, ℕ, List}
use Rattle.std.specs.Prelude.{ℤ, Some, slice_get}
use Rattle.feed_rows.specs.declared.rows.LegRuleRow.{LegRuleRow}
use Rattle.fare_bounds.specs.Payable.{IsLegRuleAbove}
use Rattle.fare_bounds.proofs.LevelLaws.{end_amounts}
use Rattle.fare_bounds.proofs.PayableLaws.{legs_are}
use Rattle.fare_bounds.proofs.payable.least_amounts.Goals as goal

pub invariant_of-result-clause-of_ends : goal.invariant_of-result-clause-of_ends
invariant_of-result-clause-of_ends c = end_amounts c.args.lasts.now c.in_ok-ends.ends.items c.in_ok-ends.ensures

pub returns-clause-least : goal.returns-clause-least
returns-clause-least c =
    record {
      products = c.in_ok-products.ensures.least;
      legs = legs_are c.args.feed.now c.args.buyer c.in_ok-products.products.items c.in_ok-legs.legs.items
          c.in_ok-products.ensures.least
          (subst
          (λ (ps : List ℤ). (i : ℕ) (rule : LegRuleRow) → slice_get c.args.feed.now.leg_rules i ≡ Some rule →
          IsLegRuleAbove ps c.in_ok-legs.legs.items rule)
          c.deref.ensures.value c.in_ok-legs.ensures.least);
    }

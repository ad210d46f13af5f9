-- One row more, and at the end all rows.
use Rattle.std.proofs.Common.{◌∙◌}
use Rattle.fare_bounds.specs.Payable.{IsProductRowAbove}
use Rattle.fare_bounds.proofs.AmountLaws.{le_trans}
use Rattle.fare_bounds.proofs.FirstLaws.{first_more}
use Rattle.fare_bounds.proofs.PayableLaws.{products_are}
use Rattle.fare_bounds.proofs.payable.least_of_products.Goals as goal

pub loop-row-preserved : goal.loop-row-preserved
loop-row-preserved c = (
  c.lower_by.ensures.len ∙ c.loop-row.invariant.0,
  c.lower_by.ensures.after,
  first_more (IsProductRowAbove c.args.buyer c.loop-row.amounts.items)
      (IsProductRowAbove c.args.buyer c.lower_by.new.amounts.items)
      c.items-row-items.result.now c.loop-row.row-index _ c.loop-row.invariant.2
      (λ row before opens. le_trans _ _ _ (c.lower_by.ensures.below row.product.0) (before opens))
      c.lower_by.ensures.row,
)

pub returns-clause-least : goal.returns-clause-least
returns-clause-least c =
    products_are c.args.feed.now _ c.args.buyer c.items-row-items.result.now c.loop-row.row-index
    c.loop-row.amounts.items
    c.feed.view_is c.feed.invariant.products c.items-row-items.ensures.value c.loop-row-test.false
    c.loop-row.invariant.2

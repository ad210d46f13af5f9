-- Of the rows so far, none costs less than stands for its product.
use Rattle.std.proofs.Common.{◌≡◌, length, vec_len}
use Rattle.fare_bounds.specs.Amounts.{AreAmounts}
use Rattle.fare_bounds.specs.Payable.{IsProductRowAbove}
use Rattle.fare_bounds.proofs.FirstLaws.{AreFirst}
use Rattle.fare_bounds.proofs.payable.least_of_products.Given as goal

abbrev pub invariant-loop-row : goal.invariant-loop-row
invariant-loop-row l =
    (vec_len l.amounts ≡ length l.feed.product_names)
    × AreAmounts 1 l.amounts.items × AreFirst (IsProductRowAbove l.buyer l.amounts.items) l.row-items l.row-index

-- What a buyer can pay for a leg and for a change, by the leg rules, the transfer rules and the products alone.
use Rattle.std.specs.Prelude.{◌≡◌, ℕ, ◌==◌, Bool, true, List, Option, Some, None, slice_get, ℤ, pos, ◌≤ℤ◌, ◌<ℤ◌}
use Rattle.transit_base.specs.declared.numbers.LegGroupId.{LegGroupId}
use Rattle.transit_base.specs.declared.numbers.ProductId.{ProductId}
use Rattle.transit_base.specs.declared.numbers.RiderId.{RiderId}
use Rattle.feed_rows.specs.declared.journeys.Buyer.{Buyer}
use Rattle.feed_rows.specs.declared.rows.LegRuleRow.{LegRuleRow}
use Rattle.feed_rows.specs.declared.rows.ProductRow.{ProductRow}
use Rattle.feed_rows.specs.FeedRows.{FeedRows}
use Rattle.feed_rows.specs.FareChoices.{is_open}
use Rattle.plain_laws.specs.Plain.{empty_or, filled_and}
use Rattle.fare_bounds.specs.declared.least.LeastAmounts.{LeastAmounts}
use Rattle.fare_bounds.specs.Amounts.{never, amount_at, place_of}

-- a row of the product with this amount is open to the buyer
pub record CanBuy (feed : FeedRows) (buyer : Buyer) (product : ProductId) (amount : ℤ) : Type 0 where
  pub number : ℕ
  pub row : ProductRow
  pub is : slice_get feed.products number ≡ Some row
  pub opens : is_open product buyer row ≡ true
  pub costs : row.amount.0 ≡ amount

-- a leg rule of the group has a product that the buyer can buy for this amount
pub record CanPayLeg (feed : FeedRows) (buyer : Buyer) (group : Option LegGroupId) (amount : ℤ) : Type 0 where
  pub number : ℕ
  pub rule : LegRuleRow
  pub is : slice_get feed.leg_rules number ≡ Some rule
  pub of_group : rule.group ≡ group
  pub buys : CanBuy feed buyer rule.product amount

-- a change with this product can be paid by this amount: it costs nothing without a product
abbrev pub CanPayChange : FeedRows → Buyer → Option ProductId → ℤ → Type 0
CanPayChange feed buyer None charge = charge ≡ pos 0
CanPayChange feed buyer (Some product) charge = CanBuy feed buyer product charge

-- what stands for a change with this product
abbrev pub charge_of : LeastAmounts → Option ProductId → ℤ
charge_of amounts None = pos 0
charge_of amounts (Some product) = amount_at amounts.products.items product.0

-- a product row of this category is open to the buyer
abbrev pub opens : Option RiderId → Buyer → Bool
opens category buyer = empty_or category (λ c. filled_and buyer.rider (λ r. r.0 == c.0))

-- the product row costs no less than stands for its product, where it is open to the buyer
abbrev pub IsProductRowAbove : Buyer → List ℤ → ProductRow → Type 0
IsProductRowAbove buyer amounts row = opens row.rider buyer ≡ true → amount_at amounts row.product.0 ≤ℤ row.amount.0

-- the amount is no less than this, and less than that where there is none
pub record IsPaid (least amount : ℤ) : Type 0 where
  pub above : least ≤ℤ amount
  pub below : amount <ℤ never

-- of each product that the buyer can buy, no amount is less than stands for it
abbrev pub AreLeastOfProducts : FeedRows → Buyer → List ℤ → Type 0
AreLeastOfProducts feed buyer amounts =
    (product : ProductId) (amount : ℤ) → CanBuy feed buyer product amount → IsPaid (amount_at amounts product.0) amount

-- the leg rule costs no less than stands at the place of its group, where its product costs what stands for it
abbrev pub IsLegRuleAbove : List ℤ → List ℤ → LegRuleRow → Type 0
IsLegRuleAbove products legs rule = amount_at legs (place_of rule.group) ≤ℤ amount_at products rule.product.0

-- the same of all leg rules
abbrev pub AreLegRulesAbove : FeedRows → List ℤ → List ℤ → Type 0
AreLegRulesAbove feed products legs =
    (i : ℕ) (rule : LegRuleRow) → slice_get feed.leg_rules i ≡ Some rule → IsLegRuleAbove products legs rule

-- no amount is less that can be paid for a product, or for a leg of a group
pub record AreLeastAmounts (feed : FeedRows) (buyer : Buyer) (amounts : LeastAmounts) : Type 0 where
  pub products : AreLeastOfProducts feed buyer amounts.products.items
  pub legs : (group : Option LegGroupId) (amount : ℤ) → CanPayLeg feed buyer group amount →
      IsPaid (amount_at amounts.legs.items (place_of group)) amount

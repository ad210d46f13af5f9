-- The least amounts of products and of leg groups, from what each row costs.
use Rattle.std.proofs.Common.{◌≡◌, ◌∙◌, ap, subst, ℕ, ◌≤◌, ◌^◌, true, List, length, arith, w64, SFits, refl, ◌+◌, ◌<◌, get_or, sym, Option, Some, None}
use Rattle.std.specs.Prelude.{◌==◌, slice_get, nat_abs, ℤ, pos, negsuc, ◌≤ℤ◌, ◌<ℤ◌}
use Rattle.std.proofs.lemmas.Bool.{and_parts, eqb-true}
use Rattle.std.proofs.lemmas.Int.{ints}
use Rattle.std.specs.Option.{ForSome}
use Rattle.std.proofs.lemmas.Option.{slice_get-get_or}
use Rattle.transit_base.specs.declared.numbers.LegGroupId.{LegGroupId}
use Rattle.transit_base.specs.declared.numbers.ProductId.{ProductId}
use Rattle.feed_rows.specs.declared.journeys.Buyer.{Buyer}
use Rattle.feed_rows.specs.declared.rows.LegRuleRow.{LegRuleRow}
use Rattle.feed_rows.specs.declared.rows.ProductRow.{ProductRow}
use Rattle.feed_rows.specs.FeedRows.{FeedRows}
use Rattle.feed_rows.specs.FareChoices.{is_open}
use Rattle.feed_rows.specs.SoundFares.{AreSoundProducts, AreSoundLegRules}
use Rattle.plain_laws.proofs.Laws.{All-slice_get}
use Rattle.fare_bounds.specs.Amounts.{never, amount_at, place_of, floor_of}
use Rattle.fare_bounds.specs.Payable.{CanPayLeg, IsPaid, opens, IsProductRowAbove, IsLegRuleAbove, AreLeastOfProducts}
use Rattle.fare_bounds.proofs.AmountLaws.{le_trans}
use Rattle.fare_bounds.proofs.FirstLaws.{AreFirst, first_all}

-- an amount that a sound feed can have
pub amount_low : (z : ℤ) → nat_abs z ≤ 10 ^ 12 → floor_of 1 ≤ℤ z
amount_low z within = omega (arith, ints)

amount_below : (z : ℤ) → nat_abs z ≤ 10 ^ 12 → z <ℤ never
amount_below z within = omega (arith, ints)

pub amount_fits : (z : ℤ) → nat_abs z ≤ 10 ^ 12 → SFits w64 z
amount_fits (pos n) within = record { sfits = omega (arith, within) }
amount_fits (negsuc n) within = record { sfits = omega (arith, within) }

-- a row that is open is of the product, and open to the buyer
open_tells : (product : ProductId) (buyer : Buyer) (row : ProductRow) → is_open product buyer row ≡ true →
    (row.product.0 ≡ product.0) × (opens row.rider buyer ≡ true)
unfolding is_open
open_tells product buyer row is = let both = and_parts (row.product.0 == product.0) _ is in
    (eqb-true row.product.0 product.0 both.0, both.1)

-- where no row costs less than stands for its product, none that can be bought does
pub products_are : (feed inside : FeedRows) (buyer : Buyer) (rows : List ProductRow) (n : ℕ)
    (amounts : List ℤ) →
    inside ≡ feed → AreSoundProducts inside → rows ≡ inside.products → length rows ≤ n →
    AreFirst (IsProductRowAbove buyer amounts) rows n → AreLeastOfProducts feed buyer amounts
products_are feed inside buyer rows n amounts view sound same le all product amount buys =
    let told = open_tells product buyer buys.row buys.opens in
    let at : slice_get inside.products buys.number ≡ Some buys.row =
    ap (λ (f : FeedRows). slice_get f.products buys.number) view ∙ buys.is in
    let least = first_all (IsProductRowAbove buyer amounts) rows inside.products n same le all buys.number buys.row
    at told.1 in
    record {
      above =
          subst (λ (z : ℤ). amount_at amounts product.0 ≤ℤ z) buys.costs
          (subst (λ (p : ℕ). amount_at amounts p ≤ℤ buys.row.amount.0) told.0 least);
      below =
          subst (λ (z : ℤ). z <ℤ never) buys.costs
          (amount_below _ (All-slice_get (λ p. nat_abs p.amount.0 ≤ 10 ^ 12) inside.products buys.number buys.row at
          sound.amounts));
    }

-- where no rule costs less than stands for its group, no leg can be paid by less
pub legs_are : (feed : FeedRows) (buyer : Buyer) (products legs : List ℤ) →
    AreLeastOfProducts feed buyer products →
    ((i : ℕ) (rule : LegRuleRow) → slice_get feed.leg_rules i ≡ Some rule → IsLegRuleAbove products legs rule) →
    (group : Option LegGroupId) (amount : ℤ) → CanPayLeg feed buyer group amount →
    IsPaid (amount_at legs (place_of group)) amount
legs_are feed buyer products legs least rules group amount pays =
    let paid = least pays.rule.product amount pays.buys in
    record {
      above =
          le_trans _ _ _
          (subst (λ g. amount_at legs (place_of g) ≤ℤ amount_at products pays.rule.product.0) pays.of_group
          (rules pays.number pays.rule pays.is))
          paid.above;
      below = paid.below;
    }

-- the place of a leg rule of a sound feed is one of so many
pub leg_place_low : (feed inside : FeedRows) (rows : List LegRuleRow) (i : ℕ) (d : LegRuleRow) (places : ℕ) →
    inside ≡ feed → rows ≡ inside.leg_rules → AreSoundLegRules inside → i < length rows →
    places ≡ length feed.group_names + 2 → place_of (get_or rows i d).group < places
leg_place_low feed inside rows i d places view same sound lt long =
    by (get_or rows i d).group (length feed.group_names)
    (subst (λ (f : FeedRows). ForSome (get_or rows i d).group (λ g. g.0 < length f.group_names)) view
    (All-slice_get (λ r. ForSome r.group (λ g. g.0 < length inside.group_names)) inside.leg_rules i (get_or rows i d)
    (ap (λ rs. slice_get rs i) (sym same) ∙ slice_get-get_or rows i d lt) sound.groups))
    long
  where
    by : (group : Option LegGroupId) (groups : ℕ) → ForSome group (λ g. g.0 < groups) → places ≡ groups + 2 →
        place_of group < places
    by None groups within e = omega (arith, e)
    by (Some own) groups within e = let lt = within own refl in omega (arith, e, lt)

-- A leg with the change to it lowers the least price that can follow by no more than the floor of fares.
use Rattle.std.proofs.Common.{◌≡◌, refl, ◌∙◌, ap, subst, ℕ, Bool, true, false, ◌&&◌, List, arith, ℤ, pos, ◌+ℤ◌, ◌≤ℤ◌}
use Rattle.std.specs.Prelude.{◌==◌, Option, Some, None, if◌then◌else◌, slice_get, map, option_map, All}
use Rattle.std.specs.Int.{int_min}
use Rattle.std.specs.Option.{option_map_or}
use Rattle.std.proofs.lemmas.Bool.{and_parts}
use Rattle.std.proofs.lemmas.Int.{ints, fold-int_min_bounds}
use Rattle.std.proofs.lemmas.Option.{slice_get-map}
use Rattle.transit_base.specs.declared.numbers.ProductId.{ProductId}
use Rattle.transit_base.specs.declared.numbers.ProductRowId.{ProductRowId}
use Rattle.feed_rows.specs.declared.journeys.Buyer.{Buyer}
use Rattle.feed_rows.specs.declared.fares.ChangeChoice.{ChangeChoice}
use Rattle.feed_rows.specs.declared.fares.LegChoice.{LegChoice}
use Rattle.feed_rows.specs.declared.journeys.LegFacts.{LegFacts}
use Rattle.feed_rows.specs.declared.rows.ProductRow.{ProductRow}
use Rattle.feed_rows.specs.declared.rows.TransferRuleRow.{TransferRuleRow}
use Rattle.feed_rows.specs.declared.states.FareState.{FareState}
use Rattle.feed_rows.specs.declared.states.Move.{Move}
use Rattle.feed_rows.specs.FeedRows.{FeedRows}
use Rattle.feed_rows.specs.Codes.{change_alone, includes_leg_after}
use Rattle.feed_rows.specs.FareChoices.{is_open, is_leg_choice, is_change_product}
use Rattle.feed_rows.specs.FareFloor.{is_for_legs, is_for_changes, least_amount, fare_floor}
use Rattle.feed_rows.specs.FareSteps.{frees_first, next_paid, next_held, place_kind, place_charge, move_after, leg_taken, place_taken, is_place_after, is_row_after, asked_after}
use Rattle.feed_rows.specs.FareSums.{amount_of}
use Rattle.feed_rows.specs.LegRules.{is_selected_rule}
use Rattle.feed_rows.specs.TransferRules.{AskedChange, is_selected}
use Rattle.plain_laws.specs.Plain.{at_and, filled_and}
use Rattle.plain_laws.proofs.Laws.{All-slice_get, filled_and-true, list_any-place}
use Rattle.fare_laws.proofs.MoveLaws.{first_tells, next_tells}

-- ---- the least of amounts

-- it is at most 0, and at most the amount of each row that counts
module _ (test : ProductRow → Bool) (rows : List ProductRow) where
  abbrev counted : ProductRow → ℤ
  counted row = if test row then row.amount.0 else pos 0

  bounds : (least_amount test rows ≤ℤ pos 0) × All (λ x. least_amount test rows ≤ℤ x) (map counted rows)
  bounds = fold-int_min_bounds (pos 0) (map counted rows) (least_amount test rows) refl

  least_below : least_amount test rows ≤ℤ pos 0
  least_below = bounds.0

  least_of_row : (i : ℕ) (row : ProductRow) → slice_get rows i ≡ Some row → test row ≡ true →
      least_amount test rows ≤ℤ row.amount.0
  least_of_row i row is counts =
      subst (λ (x : ℤ). least_amount test rows ≤ℤ x) (rw counts refl)
      (All-slice_get (λ (x : ℤ). least_amount test rows ≤ℤ x) (map counted rows) i (counted row)
      (slice_get-map counted rows i ∙ ap (option_map counted) is) bounds.1)

-- ---- legs and changes

module _ (feed : FeedRows) (buyer : Buyer) where
  abbrev leg_floor : ℤ
  leg_floor = least_amount (is_for_legs feed buyer) feed.products

  abbrev change_floor : ℤ
  change_floor = least_amount (is_for_changes feed buyer) feed.products

  -- what a row costs that passes a test
  row_amount : (test : ProductRow → Bool) (number : ProductRowId) (row : ProductRow) →
      slice_get feed.products number.0 ≡ Some row → test row ≡ true →
      least_amount test feed.products ≤ℤ amount_of feed number
  unfolding amount_of
  row_amount test number row is counts = rw is (least_of_row test feed.products number.0 row is counts)

  -- a leg costs no less than its floor
  leg_above : (leg : LegFacts) (pick : LegChoice) → is_leg_choice feed buyer leg pick ≡ true →
      leg_floor ≤ℤ amount_of feed pick.product
  unfolding is_leg_choice
  leg_above leg pick is =
      let rule =
      filled_and-true (slice_get feed.leg_rules pick.rule.0)
      (λ r. is_selected_rule feed leg r && at_and feed.products pick.product.0 (is_open r.product buyer)) is in
      let both = and_parts (is_selected_rule feed leg rule.value) _ rule.passes in
      let row = filled_and-true (slice_get feed.products pick.product.0) (is_open rule.value.product buyer) both.1 in
      row_amount (is_for_legs feed buyer) pick.product row.value row.is
      (list_any-place (λ r. is_open r.product buyer row.value) feed.leg_rules pick.rule.0 rule.value rule.is row.passes)

  -- nor does a change
  change_above : (change : Option AskedChange) (place : Option ChangeChoice) →
      is_place_after feed buyer change place ≡ true → change_floor ≤ℤ place_charge feed place
  unfolding is_row_after
  change_above change None is = least_below (is_for_changes feed buyer) feed.products
  change_above change (Some pick) is =
      let asked = filled_and-true change (λ c. is_row_after feed buyer c pick) is in
      let rule =
      filled_and-true (slice_get feed.transfer_rules pick.rule.0)
      (λ r. is_selected feed asked.value r && is_change_product feed buyer r.product pick.product) asked.passes in
      let both = and_parts (is_selected feed asked.value rule.value) _ rule.passes in
      by rule.value rule.is rule.value.product pick.product refl both.1
    where
      by : (rule : TransferRuleRow) → slice_get feed.transfer_rules pick.rule.0 ≡ Some rule → (product : Option ProductId)
          (row : Option ProductRowId) → rule.product ≡ product → is_change_product feed buyer product row ≡ true →
          change_floor ≤ℤ option_map_or (amount_of feed) row (pos 0)
      by rule is_rule product None of right = least_below (is_for_changes feed buyer) feed.products
      by rule is_rule None (Some number) of right = absurd (let no : false ≡ true = right in cc)
      by rule is_rule (Some product) (Some number) of right =
          let row = filled_and-true (slice_get feed.products number.0) (is_open product buyer) right in
          row_amount (is_for_changes feed buyer) number row.value row.is
          (list_any-place (λ r. filled_and r.product (λ p. is_open p buyer row.value)) feed.transfer_rules pick.rule.0
          rule is_rule (rw of row.passes))

-- ---- moves

-- the lesser of two is at most each, and at least what both are
pub min_first : (x y : ℤ) → int_min x y ≤ℤ x
min_first x y = grind (arith, ints)

pub min_second : (x y : ℤ) → int_min x y ≤ℤ y
min_second x y = grind (arith, ints)

min_above : (x y z : ℤ) → z ≤ℤ x → z ≤ℤ y → z ≤ℤ int_min x y
min_above x y z p q = grind (arith, ints, p, q)

module _ (paid held amount charge legs changes : ℤ) (l : legs ≤ℤ pos 0) (c : changes ≤ℤ pos 0) (a : legs ≤ℤ amount)
    (b : changes ≤ℤ charge) where
  abbrev least : ℤ
  least = int_min paid (paid +ℤ held)

  -- after a leg that is paid so, with the change to it
  least_by : (z : ℤ) (first next : Bool) → z ≤ℤ paid → z ≤ℤ (paid +ℤ held) →
      (z +ℤ (legs +ℤ changes)) ≤ℤ
      (paid +ℤ (pos 0 +ℤ (if first then pos 0 else held) +ℤ charge +ℤ (if next then pos 0 else amount)))
  least_by z true true p q = omega (arith, ints, l, c, a, b, p, q)
  least_by z true false p q = omega (arith, ints, l, c, a, b, p, q)
  least_by z false true p q = omega (arith, ints, l, c, a, b, p, q)
  least_by z false false p q = omega (arith, ints, l, c, a, b, p, q)

  -- the least price after it, by the type of the change
  least_after : (kind : Option ℕ) →
      (least +ℤ (legs +ℤ changes)) ≤ℤ
      int_min (paid +ℤ next_paid (pos 0) held kind amount charge)
      (paid +ℤ next_paid (pos 0) held kind amount charge +ℤ next_held kind amount)
  least_after None =
      min_above _ _ _ (least_by least false true (min_first _ _) (min_second _ _))
      (held_too least (min_second _ _))
    where
      held_too : (z : ℤ) → z ≤ℤ (paid +ℤ held) →
          (z +ℤ (legs +ℤ changes)) ≤ℤ (paid +ℤ (pos 0 +ℤ held +ℤ charge +ℤ pos 0) +ℤ amount)
      held_too z q = omega (arith, ints, l, c, a, b, q)
  least_after (Some code) =
      let by =
      least_by least (code == change_alone) (includes_leg_after code) (min_first paid (paid +ℤ held))
      (min_second paid (paid +ℤ held)) in
      min_above _ _ _ by (with_none _ _ by)
    where
      with_none : (x y : ℤ) → x ≤ℤ y → x ≤ℤ (y +ℤ pos 0)
      with_none x y le = omega (arith, ints, le)

  -- the price after it, where the change takes nothing back
  price_after : (kind : Option ℕ) → frees_first kind ≡ false →
      (paid +ℤ held +ℤ (legs +ℤ changes)) ≤ℤ
      (paid +ℤ next_paid (pos 0) held kind amount charge +ℤ next_held kind amount)
  price_after None none = omega (arith, ints, l, c, a, b)
  price_after (Some code) none = by (code == change_alone) (includes_leg_after code) none
    where
      by : (first next : Bool) → first ≡ false →
          (paid +ℤ held +ℤ (legs +ℤ changes)) ≤ℤ
          (paid +ℤ (pos 0 +ℤ (if first then pos 0 else held) +ℤ charge +ℤ (if next then pos 0 else amount)) +ℤ pos 0)
      by true next none = absurd (cc)
      by false true none = omega (arith, ints, l, c, a, b)
      by false false none = omega (arith, ints, l, c, a, b)

-- after a first leg
least_first : (paid held amount legs changes : ℤ) → legs ≤ℤ pos 0 → changes ≤ℤ pos 0 → legs ≤ℤ amount →
    (int_min paid (paid +ℤ held) +ℤ (legs +ℤ changes)) ≤ℤ int_min (paid +ℤ pos 0) (paid +ℤ pos 0 +ℤ amount)
least_first paid held amount legs changes l c a =
    min_above _ _ _ (free (int_min paid (paid +ℤ held)) (min_first _ _)) (dear (int_min paid (paid +ℤ held)) (min_first _ _))
  where
    free : (z : ℤ) → z ≤ℤ paid → (z +ℤ (legs +ℤ changes)) ≤ℤ (paid +ℤ pos 0)
    free z p = omega (arith, ints, l, c, p)

    dear : (z : ℤ) → z ≤ℤ paid → (z +ℤ (legs +ℤ changes)) ≤ℤ (paid +ℤ pos 0 +ℤ amount)
    dear z p = omega (arith, ints, l, c, a, p)

-- the least price after a move is no less than the one before it with the floor
pub low_move : (feed : FeedRows) (buyer : Buyer) (state : Option FareState) (paid held : ℤ) (leg : LegFacts)
    (move : Move) → move_after feed buyer state held leg move ≡ Some move →
    (int_min paid (paid +ℤ held) +ℤ fare_floor feed buyer) ≤ℤ
    int_min (paid +ℤ move.paid.0) (paid +ℤ move.paid.0 +ℤ move.held.0)
unfolding fare_floor
low_move feed buyer None paid held leg move is =
    let m = first_tells feed buyer leg move is in
    subst (λ (q : Move). (int_min paid (paid +ℤ held) +ℤ fare_floor feed buyer) ≤ℤ int_min (paid +ℤ q.paid.0) (paid +ℤ q.paid.0 +ℤ q.held.0))
    m.follows
    (least_first paid held (amount_of feed move.product) (leg_floor feed buyer) (change_floor feed buyer)
    (least_below (is_for_legs feed buyer) feed.products) (least_below (is_for_changes feed buyer) feed.products)
    (leg_above feed buyer leg (leg_taken move) m.paid_leg))
low_move feed buyer (Some state) paid held leg move is =
    let m = next_tells feed buyer state held leg move is in
    subst (λ (q : Move). (int_min paid (paid +ℤ held) +ℤ fare_floor feed buyer) ≤ℤ int_min (paid +ℤ q.paid.0) (paid +ℤ q.paid.0 +ℤ q.held.0))
    m.follows
    (least_after paid held (amount_of feed move.product) (place_charge feed (place_taken move)) (leg_floor feed buyer)
    (change_floor feed buyer) (least_below (is_for_legs feed buyer) feed.products)
    (least_below (is_for_changes feed buyer) feed.products) (leg_above feed buyer leg (leg_taken move) m.paid_leg)
    (change_above feed buyer (asked_after state m.next) (place_taken move) m.right_place)
    (place_kind feed (place_taken move)))

-- so is the price after a move that takes nothing back
pub low_price : (feed : FeedRows) (buyer : Buyer) (state : FareState) (paid held : ℤ) (leg : LegFacts)
    (move : Move) → move_after feed buyer (Some state) held leg move ≡ Some move →
    frees_first (place_kind feed (place_taken move)) ≡ false →
    (paid +ℤ held +ℤ fare_floor feed buyer) ≤ℤ (paid +ℤ move.paid.0 +ℤ move.held.0)
unfolding fare_floor
low_price feed buyer state paid held leg move is none =
    let m = next_tells feed buyer state held leg move is in
    subst (λ (q : Move). (paid +ℤ held +ℤ fare_floor feed buyer) ≤ℤ (paid +ℤ q.paid.0 +ℤ q.held.0)) m.follows
    (price_after paid held (amount_of feed move.product) (place_charge feed (place_taken move)) (leg_floor feed buyer)
    (change_floor feed buyer) (least_below (is_for_legs feed buyer) feed.products)
    (least_below (is_for_changes feed buyer) feed.products) (leg_above feed buyer leg (leg_taken move) m.paid_leg)
    (change_above feed buyer (asked_after state m.next) (place_taken move) m.right_place)
    (place_kind feed (place_taken move)) none)

-- the floor is at most 0
pub floor_below : (feed : FeedRows) (buyer : Buyer) → fare_floor feed buyer ≤ℤ pos 0
unfolding fare_floor
floor_below feed buyer =
    by (leg_floor feed buyer) (change_floor feed buyer) (least_below (is_for_legs feed buyer) feed.products)
    (least_below (is_for_changes feed buyer) feed.products)
  where
    by : (x y : ℤ) → x ≤ℤ pos 0 → y ≤ℤ pos 0 → (x +ℤ y) ≤ℤ pos 0
    by x y p q = omega (arith, ints, p, q)

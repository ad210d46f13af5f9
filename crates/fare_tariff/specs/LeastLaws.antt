-- How little a journey costs at least at its end: no more than it costs so far, no less after a further ride, and no more where no more
-- is paid.
use Rattle.std.specs.Prelude.{◌≡◌, ℕ, ◌+◌, ◌-◌, ◌<◌, ◌≤◌, ◌==◌, Bool, true, false, ◌||◌, if◌then◌else◌, Option, Some, None, is_none, slice_get, option_map, ℤ, pos, ◌+ℤ◌, ◌*ℤ◌, ◌≤ℤ◌}
use Rattle.std.specs.Int.{int_min}
use Rattle.std.proofs.Common.{refl, sym, ◌∙◌, ap, zero, suc, arith}
use Rattle.std.proofs.lemmas.Int.{ints}
use Rattle.feed_rows.specs.declared.fares.ChangeChoice.{ChangeChoice}
use Rattle.feed_rows.specs.declared.journeys.LegFacts.{LegFacts}
use Rattle.feed_rows.specs.declared.journeys.Query.{Query}
use Rattle.feed_rows.specs.declared.journeys.RideFacts.{RideFacts}
use Rattle.feed_rows.specs.declared.rows.TransferRuleRow.{TransferRuleRow}
use Rattle.feed_rows.specs.declared.states.FareState.{FareState}
use Rattle.feed_rows.specs.declared.states.Move.{Move}
use Rattle.feed_rows.specs.Amounts.{IsNoDearer}
use Rattle.feed_rows.specs.Codes.{change_alone}
use Rattle.feed_rows.specs.FareFloor.{fare_floor, least_so_far}
use Rattle.feed_rows.specs.FareSteps.{frees_first, move_after, place_kind, place_taken}
use Rattle.feed_rows.specs.FeedRows.{FeedRows}
use Rattle.feed_rows.specs.LabelCover.{price_so_far, spent_so_far}
use Rattle.feed_rows.specs.PartialJourneys.{LabelFacts}
use Rattle.plain_laws.proofs.Laws.{list_any-place}
use Rattle.fare_laws.proofs.FloorLaws.{floor_below, low_move, low_price, min_second}
use Rattle.round_laws.specs.Futility.{least_end, least_price, some_takes_back}
use Rattle.round_laws.specs.LabelSteps.{facts_after}

-- ---- the floor, so many times

one_more : (floor : ℤ) (k : ℕ) → floor *ℤ pos (k + 1) ≡ (floor *ℤ pos k) +ℤ floor
one_more floor k = omega (arith, ints)

-- the more often the less
floors : (floor : ℤ) (n d : ℕ) → floor ≤ℤ pos 0 → (floor *ℤ pos (n + d)) ≤ℤ (floor *ℤ pos n)
floors floor n zero below =
    let same : floor *ℤ pos (n + 0) ≡ floor *ℤ pos n = omega (arith, ints) in
    omega (arith, ints, same)
floors floor n (suc d) below =
    let less = floors floor n d below in
    let next : floor *ℤ pos (n + suc d) ≡ (floor *ℤ pos (n + d)) +ℤ floor = omega (arith, ints) in
    omega (arith, ints, less, below, next)

-- of fewer rides more can follow
floors_after : (floor : ℤ) (limit m n : ℕ) → floor ≤ℤ pos 0 → m ≤ n → (floor *ℤ pos (limit - m)) ≤ℤ (floor *ℤ pos (limit - n))
floors_after floor limit m n below le = by ((limit - m) - (limit - n)) (omega (arith, le))
  where
    by : (d : ℕ) → limit - m ≡ (limit - n) + d → (floor *ℤ pos (limit - m)) ≤ℤ (floor *ℤ pos (limit - n))
    by d is = rw is (floors floor (limit - n) d below)

-- what gains the floor by a ride stays as great with the floor for each ride that can follow
end_by : (x y floor : ℤ) (limit n : ℕ) → n < limit → (x +ℤ floor) ≤ℤ y →
    (x +ℤ (floor *ℤ pos (limit - n))) ≤ℤ (y +ℤ (floor *ℤ pos (limit - (n + 1))))
end_by x y floor limit n lt le = by (limit - (n + 1)) (omega (arith, lt))
  where
    by : (k : ℕ) → limit - n ≡ k + 1 → (x +ℤ (floor *ℤ pos (limit - n))) ≤ℤ (y +ℤ (floor *ℤ pos k))
    by k is = rw (is, one_more floor k) (sums (floor *ℤ pos k))
      where
        sums : (z : ℤ) → (x +ℤ (z +ℤ floor)) ≤ℤ (y +ℤ z)
        sums z = omega (arith, ints, le)

-- ---- what is taken back

-- a change that takes something back is by a row of its type
none_taken : (feed : FeedRows) (place : Option ChangeChoice) → some_takes_back feed ≡ false → frees_first (place_kind feed place) ≡ false
unfolding some_takes_back
none_taken feed None none = refl
none_taken feed (Some pick) none = by (slice_get feed.transfer_rules pick.rule.0) refl
  where
    by : (o : Option TransferRuleRow) → slice_get feed.transfer_rules pick.rule.0 ≡ o →
        frees_first (option_map (λ (row : TransferRuleRow). row.kind) o) ≡ false
    by None is = refl
    by (Some row) is = other (row.kind == change_alone) refl
      where
        other : (b : Bool) → (row.kind == change_alone) ≡ b → b ≡ false
        other false same = refl
        other true same = sym (list_any-place (λ r. r.kind == change_alone) feed.transfer_rules pick.rule.0 row is same) ∙ none

second_false : (x y : Bool) → (x || y) ≡ false → y ≡ false
second_false true y e = absurd (let no : true ≡ false = e in cc)
second_false false y e = e

no_more : (x y z : ℤ) → x ≤ℤ y → y ≤ℤ z → x ≤ℤ z
no_more x y z p q = omega (arith, ints, p, q)

as_much : (z : ℤ) → z ≤ℤ z
as_much z = omega (arith, ints)

-- ---- the least price

module _ (feed : FeedRows) (query : Query) (whole : Bool) where
  -- it is no less after a move, by more than the floor
  least_step : (a : LabelFacts) (ride : RideFacts) (leg : LegFacts) (move : Move) →
      move_after feed query.buyer a.state a.held leg move ≡ Some move →
      (least_price feed whole a +ℤ fare_floor feed query.buyer) ≤ℤ least_price feed whole (facts_after a ride move)
  least_step a ride leg move pays =
      by a.state pays (whole || some_takes_back feed) refl (low_move feed query.buyer a.state a.paid a.held leg move pays)
    where
      floor : ℤ
      floor = fare_floor feed query.buyer

      price : ℤ
      price = a.paid +ℤ move.paid.0 +ℤ move.held.0

      by : (state : Option FareState) → move_after feed query.buyer state a.held leg move ≡ Some move →
          (back : Bool) → (whole || some_takes_back feed) ≡ back →
          (int_min a.paid (a.paid +ℤ a.held) +ℤ floor) ≤ℤ int_min (a.paid +ℤ move.paid.0) price →
          ((if back || is_none state then int_min a.paid (a.paid +ℤ a.held) else a.paid +ℤ a.held) +ℤ floor) ≤ℤ
          (if back || false then int_min (a.paid +ℤ move.paid.0) price else price)
      by state pays true is low = low
      by None pays false is low = no_more _ _ _ low (min_second _ _)
      by (Some state) pays false is low =
          low_price feed query.buyer state a.paid a.held leg move pays
          (none_taken feed (place_taken move) (second_false whole (some_takes_back feed) is))

  -- it is no more where no more is paid in the same state
  least_covered : (a b : LabelFacts) → IsNoDearer (spent_so_far a) (spent_so_far b) → a.state ≡ b.state →
      least_price feed whole a ≤ℤ least_price feed whole b
  least_covered a b less state =
      by ((whole || some_takes_back feed) || is_none a.state) ((whole || some_takes_back feed) || is_none b.state)
      (ap (λ (s : Option FareState). (whole || some_takes_back feed) || is_none s) state)
    where
      mins : (x x' y y' : ℤ) → x ≤ℤ x' → y ≤ℤ y' → int_min x y ≤ℤ int_min x' y'
      mins x x' y y' p q = grind (arith, ints, p, q)

      by : (m n : Bool) → m ≡ n → (if m then least_so_far a else price_so_far a) ≤ℤ (if n then least_so_far b else price_so_far b)
      by true true same = mins a.paid b.paid (price_so_far a) (price_so_far b) less.paid less.price
      by false false same = less.price
      by true false same = absurd (let no : true ≡ false = same in cc)
      by false true same = absurd (let no : false ≡ true = same in cc)

  -- ---- at the end

  -- a journey that ends so costs no less
  pub end_low : (a : LabelFacts) → least_end feed query whole a ≤ℤ price_so_far a
  unfolding least_end
  end_low a =
      sum (least_price feed whole a) (fare_floor feed query.buyer *ℤ pos (query.rides - a.rides)) (price_so_far a)
      (least ((whole || some_takes_back feed) || is_none a.state))
      (none (fare_floor feed query.buyer) (query.rides - a.rides) (floor_below feed query.buyer))
    where
      least : (b : Bool) → (if b then int_min a.paid (price_so_far a) else price_so_far a) ≤ℤ price_so_far a
      least true = min_second _ _
      least false = as_much _

      none : (floor : ℤ) (k : ℕ) → floor ≤ℤ pos 0 → (floor *ℤ pos k) ≤ℤ pos 0
      none floor zero below = omega (arith, ints)
      none floor (suc k) below =
          let less = none floor k below in
          let next : floor *ℤ pos (suc k) ≡ (floor *ℤ pos k) +ℤ floor = omega (arith, ints) in
          omega (arith, ints, less, below, next)

      sum : (x y z : ℤ) → x ≤ℤ z → y ≤ℤ pos 0 → (x +ℤ y) ≤ℤ z
      sum x y z p q = omega (arith, ints, p, q)

  -- nor does one that goes on by a further ride
  pub end_stays : (a : LabelFacts) (ride : RideFacts) (leg : LegFacts) (move : Move) → a.rides < query.rides →
      move_after feed query.buyer a.state a.held leg move ≡ Some move →
      least_end feed query whole a ≤ℤ least_end feed query whole (facts_after a ride move)
  unfolding least_end
  end_stays a ride leg move few pays =
      end_by (least_price feed whole a) (least_price feed whole (facts_after a ride move)) (fare_floor feed query.buyer) query.rides a.rides
      few (least_step a ride leg move pays)

  -- nor one from where no less is paid, after no fewer rides
  pub end_covered : (a b : LabelFacts) → IsNoDearer (spent_so_far a) (spent_so_far b) → a.state ≡ b.state → a.rides ≤ b.rides →
      least_end feed query whole a ≤ℤ least_end feed query whole b
  unfolding least_end
  end_covered a b less state few =
      both (least_price feed whole a) (least_price feed whole b) (fare_floor feed query.buyer *ℤ pos (query.rides - a.rides))
      (fare_floor feed query.buyer *ℤ pos (query.rides - b.rides)) (least_covered a b less state)
      (floors_after (fare_floor feed query.buyer) query.rides a.rides b.rides (floor_below feed query.buyer) few)
    where
      both : (x y z w : ℤ) → x ≤ℤ y → z ≤ℤ w → (x +ℤ z) ≤ℤ (y +ℤ w)
      both x y z w p q = omega (arith, ints, p, q)

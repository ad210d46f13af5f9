-- The amounts of a move are within what one ride can cost.
use Rattle.std.proofs.Common.{◌≡◌, refl, subst, ◌*◌, ◌^◌, ◌≤◌, Bool, true, false, arith, ℤ, pos, ◌+ℤ◌}
use Rattle.std.specs.Prelude.{Option, Some, None, is_none, slice_get, nat_abs, if◌then◌else◌, ◌||◌}
use Rattle.std.specs.Option.{option_map_or}
use Rattle.std.proofs.lemmas.Int.{ints}
use Rattle.std.proofs.lemmas.Option.{cond_some}
use Rattle.transit_base.specs.declared.numbers.ProductRowId.{ProductRowId}
use Rattle.feed_rows.specs.declared.journeys.Buyer.{Buyer}
use Rattle.feed_rows.specs.declared.fares.ChangeChoice.{ChangeChoice}
use Rattle.feed_rows.specs.declared.journeys.LegFacts.{LegFacts}
use Rattle.feed_rows.specs.declared.rows.ProductRow.{ProductRow}
use Rattle.feed_rows.specs.declared.states.FareState.{FareState}
use Rattle.feed_rows.specs.declared.states.Move.{Move}
use Rattle.feed_rows.specs.FeedRows.{FeedRows}
use Rattle.feed_rows.specs.SoundFeed.{IsSoundFeed}
use Rattle.feed_rows.specs.FareChoices.{chosen_leg}
use Rattle.feed_rows.specs.FareSums.{amount_of}
use Rattle.feed_rows.specs.FareSteps.{place_kind, place_charge, frees_first, frees_next, leg_taken, place_taken, move_of_first, move_of_next, move_after}
use Rattle.plain_laws.proofs.Laws.{All-slice_get, chain_gives}
use Rattle.feed_rows.specs.Amounts.{IsLow}
use Rattle.fare_laws.specs.SmallMoves.{IsSmall}

low_amount : (feed : FeedRows) → IsSoundFeed feed → (row : ProductRowId) → IsLow (amount_of feed row)
unfolding amount_of
low_amount feed sound row = by (slice_get feed.products row.0) refl
  where
    by : (o : Option ProductRow) → slice_get feed.products row.0 ≡ o → IsLow (option_map_or (λ r. r.amount.0) o (pos 0))
    by None is = omega arith
    by (Some r) is = All-slice_get (λ (r : ProductRow). IsLow r.amount.0) feed.products row.0 r is sound.products.amounts

-- what a change costs
low_charge : (feed : FeedRows) → IsSoundFeed feed → (place : Option ChangeChoice) → IsLow (place_charge feed place)
low_charge feed sound None = omega arith
low_charge feed sound (Some pick) = by pick.product
  where
    by : (o : Option ProductRowId) → IsLow (option_map_or (amount_of feed) o (pos 0))
    by None = omega arith
    by (Some row) = low_amount feed sound row

paid_small : (b c : Bool) (held charge amount : ℤ) → IsLow held → IsLow charge → IsLow amount →
    nat_abs (pos 0 +ℤ (if b then pos 0 else held) +ℤ charge +ℤ (if c then pos 0 else amount)) ≤ 3 * 10 ^ 12
paid_small true true held charge amount h x a = omega (arith, ints, h, x, a)
paid_small true false held charge amount h x a = omega (arith, ints, h, x, a)
paid_small false true held charge amount h x a = omega (arith, ints, h, x, a)
paid_small false false held charge amount h x a = omega (arith, ints, h, x, a)

held_small : (b : Bool) (amount : ℤ) → IsLow amount → IsLow (if b then amount else pos 0)
held_small true amount low = low
held_small false amount low = omega arith

-- a move that there is
pub move_small : (feed : FeedRows) (buyer : Buyer) (state : Option FareState) (held : ℤ) (leg : LegFacts) (move : Move) →
    IsSoundFeed feed → IsLow held → move_after feed buyer state held leg move ≡ Some move → IsSmall move
unfolding move_of_first move_of_next
move_small feed buyer None held leg move sound low is =
    let first = chain_gives _ (chosen_leg feed leg (leg_taken move)) move is in
    let made = (cond_some _ _ _ first.gives).1 in
    record {
      paid = subst (λ (m : Move). nat_abs m.paid.0 ≤ 3 * 10 ^ 12) made (omega arith);
      held = subst (λ (m : Move). IsLow m.held.0) made (low_amount feed sound move.product);
    }
move_small feed buyer (Some state) held leg move sound low is =
    let next = chain_gives _ (chosen_leg feed leg (leg_taken move)) move is in
    let made = (cond_some _ _ _ next.gives).1 in
    let kind = place_kind feed (place_taken move) in
    record {
      paid = subst (λ (m : Move). nat_abs m.paid.0 ≤ 3 * 10 ^ 12) made
          (paid_small (frees_first kind) (is_none kind || frees_next kind) held (place_charge feed (place_taken move)) (amount_of feed move.product)
          low (low_charge feed sound (place_taken move)) (low_amount feed sound move.product));
      held = subst (λ (m : Move). IsLow m.held.0) made
          (held_small (is_none kind) (amount_of feed move.product) (low_amount feed sound move.product));
    }

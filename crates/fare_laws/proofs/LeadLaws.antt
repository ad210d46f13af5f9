-- What leads on from a state leads on from it as well where less was paid.
use Rattle.std.proofs.Common.{◌≡◌, refl, sym, ◌∙◌, ap, true, arith, ℤ, pos, ◌+ℤ◌, ◌≤ℤ◌}
use Rattle.std.specs.Prelude.{Option, Some, None}
use Rattle.std.proofs.lemmas.Int.{ints}
use Rattle.feed_rows.specs.declared.journeys.Buyer.{Buyer}
use Rattle.feed_rows.specs.declared.journeys.LegFacts.{LegFacts}
use Rattle.feed_rows.specs.declared.states.FareState.{FareState}
use Rattle.feed_rows.specs.declared.states.Move.{Move}
use Rattle.feed_rows.specs.FareSteps.{next_paid, place_kind, place_charge, place_taken, next_move, move_after}
use Rattle.feed_rows.specs.FareSums.{amount_of}
use Rattle.feed_rows.specs.FeedRows.{FeedRows}
use Rattle.feed_laws.proofs.StandLaws.{next_paid-covers}
use Rattle.fare_laws.proofs.ExtensionLaws.{next_paid-from, all_true}
use Rattle.fare_laws.proofs.MoveLaws.{next_tells, next_when}

-- a move that leads on from less that was paid, and from no greater price, to the same state
pub record LeadsToo (feed : FeedRows) (buyer : Buyer) (state : Option FareState) (paid held paid' : ℤ)
    (leg : LegFacts) (move' : Move) : Type 0 where
  pub move : Move
  pub is : move_after feed buyer state held leg move ≡ Some move
  pub state_is : move.state ≡ move'.state
  pub held_is : move.held ≡ move'.held
  pub paid_less : (paid +ℤ move.paid.0) ≤ℤ (paid' +ℤ move'.paid.0)

-- sums that are no more, told by their parts
less_by_parts : (x x' p p' q q' : ℤ) → x ≡ p +ℤ q → x' ≡ p' +ℤ q' → x ≤ℤ x' → (p +ℤ q) ≤ℤ (p' +ℤ q')
less_by_parts x x' p p' q q' e e' le = omega (arith, ints, e, e', le)

-- each move after a state leads on from less as well
pub leads_too : (feed : FeedRows) (buyer : Buyer) (state : Option FareState) (paid held paid' held' : ℤ)
    (leg : LegFacts) (move' : Move) → paid ≤ℤ paid' → (paid +ℤ held) ≤ℤ (paid' +ℤ held') →
    move_after feed buyer state held' leg move' ≡ Some move' →
    LeadsToo feed buyer state paid held paid' leg move'
leads_too feed buyer None paid held paid' held' leg move' le le' is = record {
  move = move';
  is = is;
  state_is = refl;
  held_is = refl;
  paid_less = omega (arith, ints, le);
}
leads_too feed buyer (Some state) paid held paid' held' leg move' le le' is =
    let m = next_tells feed buyer state held' leg move' is in
    let kind = place_kind feed (place_taken move') in
    let amount = amount_of feed move'.product in
    let charge = place_charge feed (place_taken move') in
    record {
      move = next_move feed state held m.next move';
      is =
          sym (next_when feed buyer leg (next_move feed state held m.next move') state held m.next true m.chosen
          (all_true _ _ _ m.paid_leg m.right_place m.whole));
      state_is = ap (λ (q : Move). q.state) m.follows;
      held_is = ap (λ (q : Move). q.held) m.follows;
      paid_less =
          less_by_parts _ _ paid paid' (next_paid (pos 0) held kind amount charge) move'.paid.0
          (next_paid-from paid held amount charge kind)
          (next_paid-from paid' held' amount charge kind ∙ ap (λ (q : Move). paid' +ℤ q.paid.0) m.follows)
          (next_paid-covers paid paid' held held' kind amount charge le le').0;
    }

-- The moves that an automaton finds, and which of them are enough.
use Rattle.std.proofs.Common.{◌≡◌, refl, ◌∙◌, ℕ, ◌+◌, ◌<◌, ◌++◌, ◌∷◌, [], sym, subst, ap, ⊎_elim, arith, false, true, List, length, get_or, pos, ℤ}
use Rattle.std.specs.Prelude.{All, Contains, slice_get, Option, Some, None, Result, Ok, Err, OnOk}
use Rattle.std.proofs.lemmas.Bool.{and_parts, cases_lt}
use Rattle.std.proofs.lemmas.List.Elements.{All-contains, All-push, Contains-append_left, Contains-get_or, Contains-push}
use Rattle.std.proofs.lemmas.Option.{get_or_from_slice_get, same_Some}
use Rattle.feed_rows.specs.declared.journeys.Buyer.{Buyer}
use Rattle.feed_rows.specs.declared.journeys.LegFacts.{LegFacts}
use Rattle.feed_rows.specs.declared.journeys.RideFacts.{RideFacts}
use Rattle.feed_rows.specs.declared.states.FareState.{FareState}
use Rattle.feed_rows.specs.declared.states.Move.{Move}
use Rattle.feed_rows.specs.Amounts.{is_no_dearer, spent_by}
use Rattle.feed_rows.specs.FareSteps.{move_after}
use Rattle.feed_rows.specs.FeedRows.{FeedRows}
use Rattle.feed_rows.specs.Legs.{leg_facts}
use Rattle.feed_rows.specs.SameStates.{same_parts}
use Rattle.feed_laws.proofs.SameStates.{same_parts_decides}
use Rattle.fare_automaton.specs.Changes.{times_of}
use Rattle.fare_automaton.specs.Terms.{FareTerms, terms}
use Rattle.fare_automaton.specs.Fewest.{AreEnoughMoves, AreFewerMoves, HasLesserMove, IsLesserMove}
use Rattle.fare_bounds.proofs.FirstLaws.{AreFirst, first_more}
use Rattle.fare_laws.proofs.AmountLaws.{no_dearer-added, no_dearer-itself, no_dearer-tells, no_dearer-trans}
use Rattle.round_terms.specs.Terms.{AreEnough, Facts}
use Rattle.fare_tariff.specs.declared.fare.Fare.{Fare}
use Rattle.fare_tariff.specs.FareOrder.{at_most-holds}
use Rattle.fare_tariff.specs.FareTerms.{TariffOf, at_most, fare_terms}
use Rattle.fare_tariff.specs.Moves.{HasBetter, betters}

-- a ride's moments are those of the leg that it is
pub ride_times : (feed : FeedRows) (ride : RideFacts) →
    times_of (leg_facts feed ride) ≡ record { departure = ride.departure; arrival = ride.arrival }
unfolding leg_facts
ride_times feed ride = refl

-- enough moves of a first leg are so whatever is held
pub moves_of_starts : {E : Type 0} (result : Result (Unit {0}) E) (own : FareTerms) (feed : FeedRows) (buyer : Buyer)
    (state : Option FareState) (held : ℤ) (leg : LegFacts) (moves : List Move) → own ≡ terms feed buyer → state ≡ None →
    OnOk result (AreEnoughMoves own.feed own.buyer None (pos 0) leg moves) → OnOk result (AreEnoughMoves feed buyer state held leg moves)
moves_of_starts (Err e) own feed buyer state held leg moves same none are = are
moves_of_starts (Ok u) own feed buyer state held leg moves same none are =
    subst (λ s. AreEnoughMoves feed buyer s held leg moves) (sym none) (record { right = enough.right; enough = enough.enough })
  where
    enough : AreEnoughMoves feed buyer None (pos 0) leg moves
    enough = subst (λ (t : FareTerms). AreEnoughMoves t.feed t.buyer None (pos 0) leg moves) same are

-- those of a leg after a state
pub moves_of_steps : {E : Type 0} (result : Result (Unit {0}) E) (own : FareTerms) (feed : FeedRows) (buyer : Buyer)
    (state : Option FareState) (before : FareState) (held : ℤ) (leg : LegFacts) (moves : List Move) → own ≡ terms feed buyer →
    state ≡ Some before → OnOk result (AreEnoughMoves own.feed own.buyer (Some before) held leg moves) →
    OnOk result (AreEnoughMoves feed buyer state held leg moves)
moves_of_steps (Err e) own feed buyer state before held leg moves same some are = are
moves_of_steps (Ok u) own feed buyer state before held leg moves same some are =
    subst (λ s. AreEnoughMoves feed buyer s held leg moves) (sym some)
    (subst (λ (t : FareTerms). AreEnoughMoves t.feed t.buyer (Some before) held leg moves) same are)

-- ---- which is as good as which

-- where the move at k isn't as good as the other, nor is one before it, none before the next is
pub none_better : (moves : List Move) (number k : ℕ) (a b : Move) → slice_get moves k ≡ Some a → slice_get moves number ≡ Some b →
    betters a b ≡ false →
    ((earlier : ℕ) (better other : Move) → earlier < k → slice_get moves earlier ≡ Some better → slice_get moves number ≡ Some other →
    betters better other ≡ false) →
    (earlier : ℕ) (better other : Move) → earlier < k + 1 → slice_get moves earlier ≡ Some better → slice_get moves number ≡ Some other →
    betters better other ≡ false
none_better moves number k a b here there not before earlier better other below is at =
    ⊎_elim (λ lower. before earlier better other lower is at)
    (λ upper. let same : earlier ≡ k = omega (arith, below, upper) in
    subst (λ m. betters better m ≡ false) (same_Some b other (sym there ∙ at))
    (subst (λ m. betters m b ≡ false) (same_Some a better (sym here ∙ sym (ap (slice_get moves) same) ∙ is)) not)) (cases_lt earlier k)

-- what the test tells
betters-tells : (a b : Move) → betters a b ≡ true → IsLesserMove a b
unfolding betters
betters-tells a b h =
    let both = and_parts (is_no_dearer (spent_by a) (spent_by b)) (same_parts a.state b.state) h in
    record { state = (same_parts_decides a.state b.state).0 both.1; cost = no_dearer-tells (spent_by a) (spent_by b) both.0 }

lesser_itself : (a : Move) → IsLesserMove a a
lesser_itself a = record { state = refl; cost = no_dearer-itself (spent_by a) }

lesser_trans : (a b c : Move) → IsLesserMove a b → IsLesserMove b c → IsLesserMove a c
lesser_trans a b c p q =
    record { state = p.state ∙ q.state; cost = no_dearer-trans (spent_by a) (spent_by b) (spent_by c) p.cost q.cost }

-- ---- fewer moves

-- beside the move at this place stands one that is as good, where one does beside each before it, and one of these betters it
pub lesser_before : (all moves : List Move) (number : ℕ) (d : Move) → AreFirst (HasLesserMove moves) all number → HasBetter all number →
    slice_get all number ≡ Some d → HasLesserMove moves d
lesser_before all moves number d first has at =
    let below = first has.earlier has.better has.before has.is in
    let same : has.other ≡ d = same_Some has.other d (sym has.at ∙ at) in (
      below.0,
      below.1,
      lesser_trans below.0 has.better d below.2 (subst (IsLesserMove has.better) same (betters-tells has.better has.other has.betters)),
    )

-- some moves of the first so many of all, beside each of which one of them stands
pub record AreBest (all moves : List Move) (number : ℕ) : Type 0 where
  pub from : All (Contains all) moves
  pub each : AreFirst (HasLesserMove moves) all number

-- one more
pub best_more : (all moves new : List Move) (number : ℕ) (d : Move) → number < length all → new ≡ moves ++ get_or all number d ∷ [] →
    AreBest all moves number → AreBest all new (number + 1)
best_more all moves new number d lt is are =
    let own = get_or all number d in
    subst (λ ms. AreBest all ms (number + 1)) (sym is)
    (record {
      from = All-push (Contains all) moves own are.from (Contains-get_or all number d lt);
      each = first_more (HasLesserMove moves) (HasLesserMove (moves ++ own ∷ [])) all number d are.each
          (λ move has. (has.0, Contains-append_left moves (own ∷ []) has.0 has.1, has.2))
          (own, Contains-push moves own, lesser_itself own);
    })

-- or none, where a move before the next is as good
pub best_past : (all moves : List Move) (number : ℕ) → HasBetter all number → AreBest all moves number → AreBest all moves (number + 1)
best_past all moves number has are = record {
  from = are.from;
  each = first_more (HasLesserMove moves) (HasLesserMove moves) all number has.other are.each (λ move own. own)
      (subst (HasLesserMove moves) (sym (get_or_from_slice_get all number has.other has.other has.at))
      (lesser_before all moves number has.other are.each has has.at));
}

-- such moves are enough where all are
pub fewer_enough : (feed : FeedRows) (buyer : Buyer) (state : Option FareState) (held : ℤ) (leg : LegFacts) (all moves : List Move) →
    AreEnoughMoves feed buyer state held leg all → AreFewerMoves all moves → AreEnoughMoves feed buyer state held leg moves
fewer_enough feed buyer state held leg all moves enough fewer = record {
  right = λ k d lt.
      All-contains (λ (move : Move). move_after feed buyer state held leg move ≡ Some move) all _ enough.right (fewer.from k d lt);
  enough = λ move pays.
      let own = enough.enough move pays in
      let kept = All-contains (HasLesserMove moves) all own.0 fewer.each own.1 in
      (kept.0, kept.1, lesser_trans kept.0 own.0 move kept.2 own.2);
}

-- and so they are for a search by the tariff
pub enough_fares : (of : TariffOf) (a : Facts Fare) (ride : RideFacts) (moves : List Move) →
    AreEnoughMoves of.feed of.query.buyer a.fare.state a.fare.held.0 (leg_facts of.feed ride) moves →
    AreEnough at_most (fare_terms of) a ride moves
enough_fares of a ride moves are = record {
  right = are.right;
  enough = λ move pays.
      let own = are.enough move pays in (
        own.0,
        own.1,
        at_most-holds _ _ (record {
          spent = no_dearer-added a.fare.paid.0 (spent_by own.0) (spent_by move) own.2.cost;
          state = ap Some own.2.state;
        }),
      );
}

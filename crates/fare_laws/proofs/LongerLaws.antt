-- A move that there is pays one more leg, and each choice that pays one more leg is made by one.
use Rattle.std.proofs.Common.{◌≡◌, refl, sym, ◌∙◌, subst, ℕ, suc, true, List, [], ◌∷◌, ◌++◌, length, ℤ}
use Rattle.std.specs.Prelude.{Option, Some}
use Rattle.feed_rows.specs.declared.journeys.Buyer.{Buyer}
use Rattle.feed_rows.specs.declared.fares.Choice.{Choice}
use Rattle.feed_rows.specs.declared.journeys.LegFacts.{LegFacts}
use Rattle.feed_rows.specs.declared.states.FareState.{FareState}
use Rattle.feed_rows.specs.declared.states.Move.{Move}
use Rattle.feed_rows.specs.FareChoices.{is_fare_choice}
use Rattle.feed_rows.specs.FareExtensions.{extended, Extends}
use Rattle.feed_rows.specs.FareStates.{held_amount, fare_state}
use Rattle.feed_rows.specs.FareSteps.{move_of_next, move_after}
use Rattle.feed_rows.specs.FareSums.{transfer_kind, starts_chain}
use Rattle.feed_rows.specs.FeedRows.{FeedRows}
use Rattle.feed_laws.proofs.StandLaws.{StandsAfter, stand_of_paid, places_of_paid, step_of_paid}
use Rattle.fare_laws.proofs.ExtensionLaws.{fare_state-told, held_amount-stand, extends_of, all_of}
use Rattle.fare_laws.proofs.StartLaws.{none_paid, first_extends, first_all}
use Rattle.fare_laws.proofs.StateLaws.{told}

-- the move is one for the leg after what the choice pays
abbrev pub IsMoveAfter : FeedRows → Buyer → List LegFacts → Choice → LegFacts → Move → Type 0
IsMoveAfter feed buyer legs choice leg move =
    move_after feed buyer (fare_state feed legs choice) (held_amount feed choice) leg move ≡ Some move

-- after n + 1 legs such a move is one after where fares stand
module _ (feed : FeedRows) (buyer : Buyer) (legs : List LegFacts) (choice : Choice) (n : ℕ)
    (long : length legs ≡ suc n) (pays : is_fare_choice feed legs choice buyer ≡ true)
    (stands : StandsAfter feed buyer legs choice n) (leg : LegFacts) (move : Move) where
  abbrev by_stand : Type 0
  by_stand =
      move_of_next feed buyer (told feed stands.stand.run (starts_chain (transfer_kind feed choice) n))
      stands.stand.held leg move ≡ Some move

  places : length choice.legs ≡ suc n
  places = (places_of_paid feed buyer legs choice pays).0 ∙ long

  to_stand : IsMoveAfter feed buyer legs choice leg move → by_stand
  to_stand is =
      subst (λ (h : ℤ). move_after feed buyer
      (Some (told feed stands.stand.run (starts_chain (transfer_kind feed choice) n))) h leg move ≡ Some move)
      (held_amount-stand feed legs choice n stands.stand long places stands.of)
      (subst (λ (s : Option FareState). move_after feed buyer s (held_amount feed choice) leg move ≡ Some move)
      (fare_state-told feed legs choice n stands.stand long places stands.of) is)

  from_stand : by_stand → IsMoveAfter feed buyer legs choice leg move
  from_stand is =
      subst (λ (s : Option FareState). move_after feed buyer s (held_amount feed choice) leg move ≡ Some move)
      (sym (fare_state-told feed legs choice n stands.stand long places stands.of))
      (subst (λ (h : ℤ). move_after feed buyer
      (Some (told feed stands.stand.run (starts_chain (transfer_kind feed choice) n))) h leg move ≡ Some move)
      (sym (held_amount-stand feed legs choice n stands.stand long places stands.of)) is)

-- such a move extends the choice
pub extends_by : (feed : FeedRows) (buyer : Buyer) (legs : List LegFacts) (choice : Choice) (leg : LegFacts)
    (move : Move) →
    is_fare_choice feed legs choice buyer ≡ true → IsMoveAfter feed buyer legs choice leg move →
    Extends feed buyer legs choice leg move
unfolding fare_state
extends_by feed buyer [] choice leg move pays is =
    subst (λ (c : Choice). Extends feed buyer [] c leg move) (sym (none_paid feed buyer choice pays))
    (first_extends feed buyer leg move is)
extends_by feed buyer (l ∷ ls) choice leg move pays is =
    let long : length (l ∷ ls) ≡ suc (length ls) = refl in
    let stands = stand_of_paid feed buyer (l ∷ ls) choice (length ls) long pays in
    extends_of feed buyer (l ∷ ls) leg choice (length ls) stands.stand (starts_chain (transfer_kind feed choice)
    (length ls)) long pays stands.of move
    (to_stand feed buyer (l ∷ ls) choice (length ls) long pays stands leg move is)

-- the choice is one for fewer legs with what a move takes
pub record IsMadeBy (feed : FeedRows) (buyer : Buyer) (legs : List LegFacts) (leg : LegFacts)
    (longer : Choice) : Type 0 where
  pub choice : Choice
  pub pays : is_fare_choice feed legs choice buyer ≡ true
  pub move : Move
  pub is : IsMoveAfter feed buyer legs choice leg move
  pub same : longer ≡ extended choice move

-- each choice that pays one more leg is such
pub made_by : (feed : FeedRows) (buyer : Buyer) (legs : List LegFacts) (leg : LegFacts) (longer : Choice) →
    is_fare_choice feed (legs ++ leg ∷ []) longer buyer ≡ true → IsMadeBy feed buyer legs leg longer
unfolding fare_state is_fare_choice
made_by feed buyer [] leg longer pays =
    let m = first_all feed buyer leg longer pays in
    record { choice = record { legs = []; changes = [] }; pays = refl; move = m.0; is = m.1; same = m.2 }
made_by feed buyer (l ∷ ls) leg longer pays =
    let long : length (l ∷ ls) ≡ suc (length ls) = refl in
    let s = step_of_paid feed buyer (l ∷ ls) leg longer (length ls) long pays in
    let m =
    all_of feed buyer (l ∷ ls) leg s.last.choice (length ls) s.before.stand
    (starts_chain (transfer_kind feed s.last.choice) (length ls)) long s.paid s.before.of
    longer pays (record {
      legs = (s.last.pick ∷ [], s.last.pushed.more_legs);
      changes = (s.last.place ∷ [], s.last.pushed.more_changes);
    }) in
    record {
      choice = s.last.choice;
      pays = s.paid;
      move = m.0;
      is = from_stand feed buyer (l ∷ ls) s.last.choice (length ls) long s.paid s.before leg m.0 m.1;
      same = m.2;
    }

-- Moves of a first leg are what extends the choice for no leg.
use Rattle.std.proofs.Common.{◌≡◌, refl, sym, ◌∙◌, ap, subst, Bool, true, false, List, [], ◌∷◌, length, arith}
use Rattle.std.specs.Prelude.{Option, Some, None, is_none, ℤ, pos, ◌+ℤ◌, option_and_then, slice_index_or}
use Rattle.std.specs.Option.{is_some}
use Rattle.std.proofs.lemmas.Int.{ints}
use Rattle.std.proofs.lemmas.Option.{same_Some}
use Rattle.feed_rows.specs.declared.journeys.Buyer.{Buyer}
use Rattle.feed_rows.specs.declared.fares.ChangeChoice.{ChangeChoice}
use Rattle.feed_rows.specs.declared.fares.Choice.{Choice}
use Rattle.feed_rows.specs.declared.fares.LegChoice.{LegChoice}
use Rattle.feed_rows.specs.declared.journeys.LegFacts.{LegFacts}
use Rattle.feed_rows.specs.declared.states.Move.{Move}
use Rattle.feed_rows.specs.FeedRows.{FeedRows}
use Rattle.feed_rows.specs.TransferRules.{FareLeg}
use Rattle.feed_rows.specs.FareChoices.{chosen_leg, is_leg_choice, is_fare_choice}
use Rattle.feed_rows.specs.FareSums.{starts_chain, fare_sum}
use Rattle.feed_rows.specs.FareStands.{stand_of_first, first_fare_stand}
use Rattle.feed_rows.specs.FareStates.{held_amount, paid_amount, fare_state}
use Rattle.feed_rows.specs.FareSteps.{leg_taken, place_taken, first_move, move_of_first, AreMovesAfter}
use Rattle.feed_rows.specs.FareExtensions.{changes_with, extended, Extends, AreExtensions}
use Rattle.plain_laws.specs.Plain.{when}
use Rattle.feed_laws.proofs.StandLaws.{choice_of_one, first_fare_stand-paid, first_fare_stand-of, places_of_paid, one_of_paid}
use Rattle.fare_laws.specs.BareMoves.{bare}
use Rattle.fare_laws.proofs.ExtensionLaws.{fare_state-told, held_amount-stand, paid_amount-stand, same_choice, same_head}
use Rattle.fare_laws.proofs.MoveLaws.{first_when, IsFirst, first_tells, first_is_bare}

-- a choice for no leg is empty
pub none_paid : (feed : FeedRows) (buyer : Buyer) (choice : Choice) → is_fare_choice feed [] choice buyer ≡ true →
    choice ≡ record { legs = []; changes = [] }
none_paid feed buyer choice pays =
    let p = places_of_paid feed buyer [] choice pays in
    same_choice choice (record { legs = []; changes = [] }) (no_items choice.legs p.0) (no_items choice.changes p.1)
  where
    no_items : {X : Type 0} (xs : List X) → length xs ≡ 0 → xs ≡ []
    no_items [] e = refl
    no_items (x ∷ xs) e = absurd (omega (arith, e))

module _ (feed : FeedRows) (buyer : Buyer) (leg : LegFacts) where
  abbrev none : Choice
  none = record { legs = []; changes = [] }

  -- nothing is paid for no leg
  none_is_free : paid_amount feed none ≡ pos 0
  unfolding paid_amount held_amount fare_sum
  none_is_free = refl

  -- the choice that a move without a change makes
  one_extended : (move : Move) → is_none (place_taken move) ≡ true → extended none move ≡ choice_of_one (leg_taken move)
  one_extended move no_change = ap (λ (places : List (Option ChangeChoice)). record { legs = leg_taken move ∷ []; changes = places }) (by (place_taken move) no_change)
    where
      by : (place : Option ChangeChoice) → is_none place ≡ true → changes_with 0 [] place ≡ []
      by None e = refl
      by (Some pick) e = absurd (let no : false ≡ true = e in cc)

  -- where fares stand after it
  stands : (move : Move) (m : IsFirst feed buyer leg move) →
      first_fare_stand feed buyer leg (leg_taken move) ≡ Some (stand_of_first feed m.first (leg_taken move))
  unfolding first_fare_stand
  stands move m =
      let chosen = m.chosen in
      let paid_leg = m.paid_leg in
      rw (chosen, paid_leg) refl

  pub first_extends : (move : Move) → move_of_first feed buyer leg move ≡ Some move → Extends feed buyer [] none leg move
  unfolding starts_chain
  first_extends move is =
      let m = first_tells feed buyer leg move is in
      let after = stand_of_first feed m.first (leg_taken move) in
      let at = first_fare_stand-of feed buyer leg (leg_taken move) after (stands move m) in
      let same = one_extended move m.no_change in
      record {
        whole = m.whole;
        pays =
            ap (λ (c : Choice). is_fare_choice feed (leg ∷ []) c buyer) same
            ∙ first_fare_stand-paid feed buyer leg (leg_taken move) ∙ ap is_some (stands move m);
        paid =
            ap (paid_amount feed) same
            ∙ paid_amount-stand feed (leg ∷ []) (choice_of_one (leg_taken move)) 0 after refl refl at
            ∙ zero_both (paid_amount feed none) none_is_free
            ∙ ap (λ (q : Move). paid_amount feed none +ℤ q.paid.0) m.follows;
        held =
            ap (held_amount feed) same
            ∙ held_amount-stand feed (leg ∷ []) (choice_of_one (leg_taken move)) 0 after refl refl at
            ∙ ap (λ (q : Move). q.held.0) m.follows;
        state =
            ap (fare_state feed (leg ∷ [])) same
            ∙ fare_state-told feed (leg ∷ []) (choice_of_one (leg_taken move)) 0 after refl refl at
            ∙ ap (λ (q : Move). Some q.state) m.follows;
      }
    where
      zero_both : (p : ℤ) → p ≡ pos 0 → pos 0 ≡ p +ℤ pos 0
      zero_both p e = omega (arith, ints, e)

  -- each choice of one leg is made by a move that there is
  pub first_all : (longer : Choice) → is_fare_choice feed (leg ∷ []) longer buyer ≡ true →
      (move : Move) × (move_of_first feed buyer leg move ≡ Some move) × (longer ≡ extended none move)
  unfolding first_fare_stand
  first_all longer pays =
      let one = one_of_paid feed buyer leg longer pays in
      let some : is_some (first_fare_stand feed buyer leg one.0) ≡ true =
      sym (first_fare_stand-paid feed buyer leg one.0) ∙ subst (λ (c : Choice). is_fare_choice feed (leg ∷ []) c buyer ≡ true) one.1 pays in
      by one.0 one.1 (chosen_leg feed leg one.0) refl (is_leg_choice feed buyer leg one.0) refl some
    where
      by : (pick : LegChoice) → longer ≡ choice_of_one pick → (o : Option FareLeg) → chosen_leg feed leg pick ≡ o → (b : Bool) → is_leg_choice feed buyer leg pick ≡ b →
          is_some (option_and_then (λ first. when (is_leg_choice feed buyer leg pick) (stand_of_first feed first pick)) (chosen_leg feed leg pick)) ≡ true →
          (move : Move) × (move_of_first feed buyer leg move ≡ Some move) × (longer ≡ extended none move)
      by pick same None chosen b paid some = absurd (let no : false ≡ true = rw chosen at some in cc)
      by pick same (Some first) chosen false paid some = absurd (let no : false ≡ true = rw (chosen, paid) at some in cc)
      by pick same (Some first) chosen true paid some = (
        first_move feed first (bare pick None),
        sym (first_when feed buyer leg (first_move feed first (bare pick None)) first true chosen (rw paid refl)),
        same,
      )

  first_once : (a b : Move) → move_of_first feed buyer leg a ≡ Some a → move_of_first feed buyer leg b ≡ Some b →
      extended none a ≡ extended none b → a ≡ b
  first_once a b is is' same =
      let m = first_tells feed buyer leg a is in
      let m' = first_tells feed buyer leg b is' in
      let pick = same_head (leg_taken a) (leg_taken b) (ap (λ (c : Choice). c.legs) same) in
      let first : m.first ≡ m'.first = same_Some m.first m'.first (sym m.chosen ∙ ap (chosen_leg feed leg) pick ∙ m'.chosen) in
      sym m.follows ∙ first_is_bare feed m.first a m.no_change m.whole
      ∙ ap (λ (x : FareLeg). first_move feed x (bare (leg_taken a) None)) first
      ∙ ap (λ (p : LegChoice). first_move feed m'.first (bare p None)) pick
      ∙ sym (first_is_bare feed m'.first b m'.no_change m'.whole) ∙ m'.follows

  -- the moves of a first leg are exactly those that extend the choice for no leg
  pub start_extends : (choice : Choice) (moves : List Move) → is_fare_choice feed [] choice buyer ≡ true →
      AreMovesAfter feed buyer None (pos 0) leg moves → AreExtensions feed buyer [] choice leg moves
  start_extends choice moves pays are = subst (λ (c : Choice). AreExtensions feed buyer [] c leg moves) (sym (none_paid feed buyer choice pays)) (record {
    right = λ k d lt. first_extends (slice_index_or moves k d) (are.right k d lt);
    all = λ longer paid begins.
        let found = first_all longer paid in
        (found.0, are.all found.0 found.1, found.2);
    once = λ i j d lt lt' same. are.once i j d lt lt' (first_once (slice_index_or moves i d) (slice_index_or moves j d) (are.right i d (omega (arith, lt, lt'))) (are.right j d lt') same);
  })

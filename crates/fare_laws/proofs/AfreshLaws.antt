-- Where no change to a leg is arranged, its moves are those of a first leg, but that what is held is paid.
use Rattle.std.proofs.Common.{◌≡◌, refl, sym, ◌∙◌, ap, subst, ◌+◌, Bool, true, false, ◌&&◌, arith}
use Rattle.std.specs.Prelude.{if◌then◌else◌, Option, Some, None, is_none, slice_get, ℤ, pos}
use Rattle.std.proofs.lemmas.Bool.{and_parts, both_ways}
use Rattle.std.proofs.lemmas.Int.{ints}
use Rattle.feed_rows.specs.declared.journeys.Buyer.{Buyer}
use Rattle.feed_rows.specs.declared.fares.ChangeChoice.{ChangeChoice}
use Rattle.feed_rows.specs.declared.journeys.LegFacts.{LegFacts}
use Rattle.feed_rows.specs.declared.states.FareState.{FareState}
use Rattle.feed_rows.specs.declared.states.Move.{Move}
use Rattle.feed_rows.specs.FeedRows.{FeedRows}
use Rattle.feed_rows.specs.FareChoices.{chosen_leg, is_leg_choice, is_change_product}
use Rattle.feed_rows.specs.FareStates.{capped_count, state_of_run}
use Rattle.feed_rows.specs.FareSteps.{next_paid, next_held, place_kind, place_charge, leg_taken, place_taken, asked_after, is_arranged_after, is_row_after, is_place_after, next_state, first_move, next_move, move_of_first, move_of_next}
use Rattle.feed_rows.specs.FareSums.{amount_of}
use Rattle.feed_rows.specs.TransferRules.{FareLeg, AskedChange, is_selected, same_group}
use Rattle.plain_laws.specs.Plain.{filled_and}
use Rattle.plain_laws.proofs.Laws.{filled_and-true, list_any-place}
use Rattle.fare_laws.proofs.MoveLaws.{first_tells, first_when, next_tells, next_when}

-- a row that fills the place of a change shows that it is arranged
pub arranged_by : (feed : FeedRows) (buyer : Buyer) (change : AskedChange) (pick : ChangeChoice) →
    is_row_after feed buyer change pick ≡ true → is_arranged_after feed change ≡ true
unfolding is_row_after is_arranged_after
arranged_by feed buyer change pick holds =
    let f = filled_and-true (slice_get feed.transfer_rules pick.rule.0)
    (λ rule. is_selected feed change rule && is_change_product feed buyer rule.product pick.product) holds in
    list_any-place (is_selected feed change) feed.transfer_rules pick.rule.0 f.value f.is (and_parts (is_selected feed change f.value) _ f.passes).0

-- where no change is arranged, its place is empty
place_empty : (feed : FeedRows) (buyer : Buyer) (change : Option AskedChange) (place : Option ChangeChoice) →
    filled_and change (is_arranged_after feed) ≡ false → is_place_after feed buyer change place ≡ true → place ≡ None
place_empty feed buyer change None apart right = refl
place_empty feed buyer change (Some pick) apart right =
    let some = filled_and-true change (λ c. is_row_after feed buyer c pick) right in
    absurd (both_ways (filled_and change (is_arranged_after feed)) apart
    (ap (λ (c : Option AskedChange). filled_and c (is_arranged_after feed)) some.is
    ∙ arranged_by feed buyer some.value pick some.passes))

-- then the leg starts a run
starts_run : (feed : FeedRows) (state : FareState) (next : FareLeg) →
    next_state feed state next None ≡ state_of_run feed next.group 0 next true
starts_run feed state next = by (same_group state.group next.group)
  where
    by : (b : Bool) →
        (if b && false
        then record state { count = capped_count feed state.group (state.count + 1); first = false }
        else state_of_run feed next.group 0 next true) ≡ state_of_run feed next.group 0 next true
    by true = refl
    by false = refl

none_is : {X : Type 0} (o : Option X) → is_none o ≡ true → o ≡ None
none_is None is = refl
none_is (Some x) is = absurd (let no : false ≡ true = is in cc)

-- the moves of a leg that pay it alike and lead to one state that holds as much, the first one where what is held is paid, and the
-- other as that of a first leg
pub record IsAlike (held : ℤ) (move first : Move) : Type 0 where
  pub leg : leg_taken move ≡ leg_taken first
  pub state : move.state ≡ first.state
  pub holds : move.held ≡ first.held
  pub paid : move.paid.0 ≡ held

module _ (feed : FeedRows) (buyer : Buyer) (state : FareState) (held : ℤ) (leg : LegFacts) where
  -- no change to the leg is arranged that the rule of the move makes of it
  abbrev pub IsApart : Move → Type 0
  IsApart move =
      (next : FareLeg) → chosen_leg feed leg (leg_taken move) ≡ Some next → is_leg_choice feed buyer leg (leg_taken move) ≡ true →
      filled_and (asked_after state next) (is_arranged_after feed) ≡ false

  -- what follows of a move where the place of the change is so
  abbrev follows_by : FareLeg → Move → Option ChangeChoice → Move
  follows_by next move place =
      record move {
        state = next_state feed state next place;
        paid = record { 0 = next_paid (pos 0) held (place_kind feed place) (amount_of feed move.product) (place_charge feed place) };
        held = record { 0 = next_held (place_kind feed place) (amount_of feed move.product) };
      }

  -- then each move is like one of a first leg
  pub first_of_next : (move : Move) → IsApart move → move_of_next feed buyer state held leg move ≡ Some move →
      (first : Move) × (move_of_first feed buyer leg first ≡ Some first) × IsAlike held move first
  first_of_next move apart is =
      let told = next_tells feed buyer state held leg move is in
      let next = told.next in
      let empty = place_empty feed buyer (asked_after state next) (place_taken move) (apart next told.chosen told.paid_leg) told.right_place in
      let first = first_move feed next move in
      let follows = subst (λ (place : Option ChangeChoice). follows_by next move place ≡ move) empty told.follows in (
        first,
        sym (first_when feed buyer leg first next true told.chosen
            (sym (rw (told.paid_leg, empty, told.whole) refl))),
        record {
          leg = refl;
          state = ap (λ (m : Move). m.state) (sym follows) ∙ starts_run feed state next;
          holds = ap (λ (m : Move). m.held) (sym follows);
          paid = ap (λ (m : Move). m.paid.0) (sym follows) ∙ omega (arith, ints);
        },
      )

  -- and each move of a first leg is like one
  pub next_of_first : (first : Move) → IsApart first → move_of_first feed buyer leg first ≡ Some first →
      (move : Move) × (move_of_next feed buyer state held leg move ≡ Some move) × IsAlike held move first
  next_of_first first apart is =
      let told = first_tells feed buyer leg first is in
      let next = told.first in
      let empty = none_is (place_taken first) told.no_change in
      let move = next_move feed state held next first in
      let same : move ≡ follows_by next first None =
      ap (follows_by next first) empty in (
        move,
        sym (next_when feed buyer leg move state held next true told.chosen
            (sym (rw (told.paid_leg, empty, apart next told.chosen told.paid_leg, told.whole) refl))),
        record {
          leg = refl;
          state = ap (λ (m : Move). m.state) same ∙ starts_run feed state next ∙ ap (λ (m : Move). m.state) told.follows;
          holds = ap (λ (m : Move). m.held) same ∙ ap (λ (m : Move). m.held) told.follows;
          paid = ap (λ (m : Move). m.paid.0) same ∙ omega (arith, ints);
        },
      )

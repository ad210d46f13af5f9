-- Options that are enough, and the moves that they make.
use Rattle.std.proofs.Common.{◌≡◌, ◌⊎◌, inl, inr, ⊎_elim, ◌+◌, ◌≤◌, refl, sym, ◌∙◌, ap, subst, ℕ, Bool, true, false, ◌||◌, List, [], ◌∷◌, ◌++◌, length, arith, ℤ, ◌+ℤ◌, ◌≤ℤ◌}
use Rattle.std.specs.Prelude.{if◌then◌else◌, Option, Some, None, is_none, pos, option_map, slice_get, All, Contains}
use Rattle.std.proofs.lemmas.Bool.{cases_lt}
use Rattle.std.proofs.lemmas.Int.{ints}
use Rattle.std.proofs.lemmas.Option.{same_Some}
use Rattle.std.proofs.lemmas.List.Elements.{All-contains, All-push, All-weaker, Contains-append_left, Contains-push}
use Rattle.feed_rows.specs.declared.journeys.Buyer.{Buyer}
use Rattle.feed_rows.specs.declared.fares.ChangeChoice.{ChangeChoice}
use Rattle.feed_rows.specs.declared.fares.LegChoice.{LegChoice}
use Rattle.feed_rows.specs.declared.journeys.LegFacts.{LegFacts}
use Rattle.feed_rows.specs.declared.rows.LegRuleRow.{LegRuleRow}
use Rattle.feed_rows.specs.declared.states.FareState.{FareState}
use Rattle.feed_rows.specs.declared.states.Move.{Move}
use Rattle.feed_rows.specs.FeedRows.{FeedRows}
use Rattle.feed_rows.specs.FareChoices.{chosen_leg, is_leg_choice}
use Rattle.feed_rows.specs.FareSteps.{frees_first, frees_next, next_held, next_paid, place_charge, place_kind, asked_after, first_move, is_place_after, leg_taken, move_of_first, move_of_next, place_taken}
use Rattle.feed_rows.specs.FareSums.{amount_of}
use Rattle.feed_rows.specs.TransferRules.{FareLeg}
use Rattle.plain_laws.specs.Plain.{joined_below}
use Rattle.fare_laws.specs.BareMoves.{bare}
use Rattle.fare_laws.proofs.MoveLaws.{first_tells, first_when, next_tells, next_when}
use Rattle.fare_automaton.specs.Changes.{times_of}
use Rattle.feed_rows.specs.Amounts.{IsNoDearer}
use Rattle.fare_automaton.specs.Fewest.{AreEnough, AreEnoughMoves, AreFewer, HasLesser, IsLesserMove, IsLesserPick, group_of}
use Rattle.fare_automaton.specs.Options.{ArePicks, first_made, made_at, next_made}
use Rattle.fare_automaton.proofs.MadeLaws.{AreOf, all_true, first_of, full, full_again, made_in, next_is_bare, next_of, place_of_bare, right_made, whole_bare}

-- ---- options

-- what costs no more than one that costs no more
lesser-trans : (feed : FeedRows) (a b c : LegChoice) → IsLesserPick feed a b → IsLesserPick feed b c → IsLesserPick feed a c
lesser-trans feed a b c ab bc =
    let first = ab.amount in
    let second = bc.amount in
    record { group = ab.group ∙ bc.group; amount = omega (arith, ints, first, second) }

-- fewer of fewer
pub fewer-trans : (feed : FeedRows) (xs ys zs : List LegChoice) → AreFewer feed xs ys → AreFewer feed ys zs → AreFewer feed xs zs
fewer-trans feed xs ys zs few less = record {
  from = All-weaker (Contains ys) (Contains xs) (λ pick at. All-contains (Contains xs) ys pick few.from at) zs less.from;
  each = All-weaker (HasLesser feed ys) (HasLesser feed zs) (λ pick has.
      let more = All-contains (HasLesser feed zs) ys has.0 less.each has.1 in
      (more.0, more.1, lesser-trans feed more.0 has.0 pick more.2 has.2)) xs few.each;
}

-- of all that can pay a leg, fewer are enough
pub enough_of : (feed : FeedRows) (buyer : Buyer) (leg : LegFacts) (picks fewer : List LegChoice) → ArePicks feed buyer leg picks →
    AreFewer feed picks fewer → AreEnough feed buyer leg fewer
enough_of feed buyer leg picks fewer are few = record {
  right = All-weaker (Contains picks) (λ pick. is_leg_choice feed buyer leg pick ≡ true)
      (λ pick at. All-contains (λ pick. is_leg_choice feed buyer leg pick ≡ true) picks pick are.right at) fewer few.from;
  enough = λ pick holds. All-contains (HasLesser feed fewer) picks pick few.each (are.all pick holds);
}

-- whatever has such a one still has it, where one more is taken
lesser_still : (feed : FeedRows) (xs : List LegChoice) (next pick : LegChoice) → HasLesser feed xs pick → HasLesser feed (xs ++ next ∷ []) pick
lesser_still feed xs next pick has = (has.0, Contains-append_left xs (next ∷ []) has.0 has.1, has.2)

-- and so has the one that is taken
lesser_itself : (feed : FeedRows) (xs : List LegChoice) (pick : LegChoice) → HasLesser feed (xs ++ pick ∷ []) pick
lesser_itself feed xs pick = (pick, Contains-push xs pick, record { group = refl; amount = omega (arith, ints) })

-- one option more, from the last one on: it is taken, or has one beside it that is
pub from_more : (options before now : List LegChoice) (pick : LegChoice) → Contains options pick → All (Contains options) before →
    (now ≡ before ++ pick ∷ []) ⊎ (now ≡ before) → All (Contains options) now
from_more options before now pick at from (inl taken) = subst (All (Contains options)) (sym taken) (All-push (Contains options) before pick from at)
from_more options before now pick at from (inr left) = subst (All (Contains options)) (sym left) from

pub each_more : (feed : FeedRows) (options before now : List LegChoice) (number at : ℕ) (pick : LegChoice) → number + 1 + at ≡ length options →
    slice_get options at ≡ Some pick →
    ((i : ℕ) (one : LegChoice) → slice_get options i ≡ Some one → length options ≤ i + number → HasLesser feed before one) →
    (now ≡ before ++ pick ∷ []) ⊎ ((now ≡ before) × HasLesser feed before pick) →
    (i : ℕ) (one : LegChoice) → slice_get options i ≡ Some one → length options ≤ i + (number + 1) → HasLesser feed now one
each_more feed options before now number at pick place is each case i one here late =
    ⊎_elim (λ upper. old case (each i one here (omega (arith, upper, place))))
    (λ lower. let same : i ≡ at = omega (arith, lower, late, place) in
    subst (HasLesser feed now) (same_Some pick one (sym is ∙ ap (slice_get options) (sym same) ∙ here)) (own case)) (cases_lt at i)
  where
    old : (now ≡ before ++ pick ∷ []) ⊎ ((now ≡ before) × HasLesser feed before pick) → HasLesser feed before one → HasLesser feed now one
    old (inl taken) has = subst (λ xs. HasLesser feed xs one) (sym taken) (lesser_still feed before pick one has)
    old (inr left) has = subst (λ xs. HasLesser feed xs one) (sym left.0) has

    own : (now ≡ before ++ pick ∷ []) ⊎ ((now ≡ before) × HasLesser feed before pick) → HasLesser feed now pick
    own (inl taken) = subst (λ xs. HasLesser feed xs pick) (sym taken) (lesser_itself feed before pick)
    own (inr left) = subst (λ xs. HasLesser feed xs pick) (sym left.0) left.1

-- ---- moves

-- rules of one leg group make the same leg
chosen_by : (feed : FeedRows) (leg : LegFacts) (a b : LegChoice) → group_of feed a ≡ group_of feed b → chosen_leg feed leg a ≡ chosen_leg feed leg b
chosen_by feed leg a b same =
    told (slice_get feed.leg_rules a.rule.0)
    ∙ ap (option_map {U = FareLeg} (λ group. record { group = group; departure = leg.departure; arrival = leg.arrival })) same
    ∙ sym (told (slice_get feed.leg_rules b.rule.0))
  where
    told : (o : Option LegRuleRow) →
        option_map {U = FareLeg} (λ rule. record { group = rule.group; departure = leg.departure; arrival = leg.arrival }) o
        ≡ option_map {U = FareLeg} (λ group. record { group = group; departure = leg.departure; arrival = leg.arrival }) (option_map (λ (rule : LegRuleRow). rule.group) o)
    told None = refl
    told (Some rule) = refl

module _ (feed : FeedRows) (buyer : Buyer) (leg : LegFacts) (picks : List LegChoice) (are : AreEnough feed buyer leg picks)
    (step : Move → Option Move) (made : LegChoice → List Move)
    (each : (pick : LegChoice) → is_leg_choice feed buyer leg pick ≡ true → AreOf step pick (made pick))
    (judged : (move : Move) → step move ≡ Some move → is_leg_choice feed buyer leg (leg_taken move) ≡ true)
    (lesser : (move : Move) (pick : LegChoice) → step move ≡ Some move → is_leg_choice feed buyer leg pick ≡ true →
    IsLesserPick feed pick (leg_taken move) →
    (other : Move) × (step other ≡ Some other) × (leg_taken other ≡ pick) × IsLesserMove other move) where
  -- beside each move stands one that is made and no dearer
  enough_made : (move : Move) → step move ≡ Some move →
      (other : Move) × Contains (joined_below (length picks) (made_at made picks)) other × IsLesserMove other move
  enough_made move is =
      let less = are.enough (leg_taken move) (judged move is) in
      let paid = All-contains (λ pick. is_leg_choice feed buyer leg pick ≡ true) picks less.0 are.right less.1 in
      let other = lesser move less.0 is paid less.2 in
      (other.0, made_in feed buyer leg picks are.right step made each less.0 less.1 other.0 other.1 other.2, other.3)

module _ (feed : FeedRows) (buyer : Buyer) (leg : LegFacts) where
  -- a first leg by an option that costs no more
  lesser_first : (move : Move) (pick : LegChoice) → move_of_first feed buyer leg move ≡ Some move → is_leg_choice feed buyer leg pick ≡ true →
      IsLesserPick feed pick (leg_taken move) →
      (other : Move) × (move_of_first feed buyer leg other ≡ Some other) × (leg_taken other ≡ pick) × IsLesserMove other move
  lesser_first move pick is paid less =
      let m = first_tells feed buyer leg move is in
      let chosen = chosen_by feed leg pick (leg_taken move) less.group ∙ m.chosen in
      let other = first_move feed m.first (bare pick None) in
      let le = less.amount in (
        other,
        sym (first_when feed buyer leg other m.first true chosen (rw paid refl)),
        refl,
        subst (IsLesserMove other) m.follows
            (record { state = refl; cost = record { paid = omega (arith, ints); price = omega (arith, ints, le) } }),
      )

  pub starts_enough : (picks : List LegChoice) (moves : List Move) → AreEnough feed buyer leg picks →
      moves ≡ joined_below (length picks) (made_at (first_made feed (times_of leg)) picks) → AreEnoughMoves feed buyer None (pos 0) leg moves
  starts_enough picks moves are is =
      subst (AreEnoughMoves feed buyer None (pos 0) leg) (sym is)
      (record {
        right = right_made feed buyer leg picks are.right (move_of_first feed buyer leg) (first_made feed (times_of leg)) (first_of feed buyer leg);
        enough = enough_made feed buyer leg picks are (move_of_first feed buyer leg) (first_made feed (times_of leg)) (first_of feed buyer leg)
            (λ move e. (first_tells feed buyer leg move e).paid_leg) lesser_first;
      })

-- what is paid and what is held grow with the amount
costs : (kind : Option ℕ) (held charge a b : ℤ) → a ≤ℤ b →
    IsNoDearer (record { paid = next_paid (pos 0) held kind a charge; held = next_held kind a })
    (record { paid = next_paid (pos 0) held kind b charge; held = next_held kind b })
costs kind held charge a b le = by (is_none kind) (frees_next kind) (pos 0 +ℤ (if frees_first kind then pos 0 else held) +ℤ charge)
  where
    by : (none frees : Bool) (p : ℤ) →
        IsNoDearer (record { paid = p +ℤ (if none || frees then pos 0 else a); held = (if none then a else pos 0) })
        (record { paid = p +ℤ (if none || frees then pos 0 else b); held = (if none then b else pos 0) })
    by true frees p = record { paid = omega (arith, ints); price = omega (arith, ints, le) }
    by false true p = record { paid = omega (arith, ints); price = omega (arith, ints) }
    by false false p = record { paid = omega (arith, ints, le); price = omega (arith, ints, le) }

module _ (feed : FeedRows) (buyer : Buyer) (state : FareState) (held : ℤ) (leg : LegFacts) where
  -- the same place with an option that costs no more
  lesser_full : (next : FareLeg) (pick own : LegChoice) (place : Option ChangeChoice) → amount_of feed pick.product ≤ℤ amount_of feed own.product →
      IsLesserMove (full feed buyer state held leg next pick place) (full feed buyer state held leg next own place)
  lesser_full next pick own None le = record { state = refl; cost = costs (place_kind feed None) held (place_charge feed None) _ _ le }
  lesser_full next pick own (Some change) le =
      record { state = refl; cost = costs (place_kind feed (Some change)) held (place_charge feed (Some change)) _ _ le }

  -- a leg after the state by an option that costs no more, with the same place of the change
  lesser_next : (move : Move) (pick : LegChoice) → move_of_next feed buyer state held leg move ≡ Some move →
      is_leg_choice feed buyer leg pick ≡ true → IsLesserPick feed pick (leg_taken move) →
      (other : Move) × (move_of_next feed buyer state held leg other ≡ Some other) × (leg_taken other ≡ pick) × IsLesserMove other move
  lesser_next move pick is paid less =
      let m = next_tells feed buyer state held leg move is in
      let chosen = chosen_by feed leg pick (leg_taken move) less.group ∙ m.chosen in
      let place = place_taken move in
      let other = full feed buyer state held leg m.next pick place in (
        other,
        sym (next_when feed buyer leg other state held m.next true chosen
            (all_true feed buyer state held leg _ _ _ paid (ap (is_place_after feed buyer (asked_after state m.next)) (place_of_bare pick place) ∙ m.right_place) (whole_bare pick place)))
            ∙ ap Some (full_again feed buyer state held leg m.next pick place),
        refl,
        subst (IsLesserMove other) (sym (next_is_bare feed buyer state held leg m.next move m.whole) ∙ m.follows)
            (lesser_full m.next pick (leg_taken move) place less.amount),
      )

  pub steps_enough : (picks : List LegChoice) (moves : List Move) → AreEnough feed buyer leg picks →
      moves ≡ joined_below (length picks) (made_at (next_made feed buyer state held (times_of leg)) picks) →
      AreEnoughMoves feed buyer (Some state) held leg moves
  steps_enough picks moves are is =
      subst (AreEnoughMoves feed buyer (Some state) held leg) (sym is)
      (record {
        right = right_made feed buyer leg picks are.right (move_of_next feed buyer state held leg) (next_made feed buyer state held (times_of leg))
            (next_of feed buyer state held leg);
        enough = enough_made feed buyer leg picks are (move_of_next feed buyer state held leg) (next_made feed buyer state held (times_of leg))
            (next_of feed buyer state held leg) (λ move e. (next_tells feed buyer state held leg move e).paid_leg) lesser_next;
      })

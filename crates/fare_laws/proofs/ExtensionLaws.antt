-- Moves after a fare state of legs are what extends their choice: each pays one more leg with the amounts and the state that it says, and
-- each longer choice is made by one.
use Rattle.std.proofs.Common.{◌≡◌, refl, sym, ◌∙◌, ap, subst, ℕ, zero, suc, ◌+◌, ◌-◌, ◌≤◌, Bool, true, false, not, ◌&&◌, ◌||◌, List, [], ◌∷◌, ◌++◌, length, take, drop, arith, cond}
use Rattle.std.specs.Prelude.{if◌then◌else◌, Option, Some, None, is_none, ℤ, pos, ◌+ℤ◌, ◌-ℤ◌, slice_get, option_and_then, slice_index_or}
use Rattle.std.specs.Option.{is_some}
use Rattle.std.proofs.lemmas.Int.{ints}
use Rattle.std.proofs.lemmas.Bool.{and_parts}
use Rattle.std.proofs.lemmas.List.{length_push}
use Rattle.std.proofs.lemmas.Option.{same_Some, none-some, cond_some}
use Rattle.std.proofs.Math.Seq.{take-append_seam, drop-append_seam}
use Rattle.transit_base.specs.declared.numbers.LegGroupId.{LegGroupId}
use Rattle.transit_base.specs.declared.numbers.ProductRowId.{ProductRowId}
use Rattle.transit_base.specs.declared.numbers.XferId.{XferId}
use Rattle.feed_rows.specs.declared.journeys.Buyer.{Buyer}
use Rattle.feed_rows.specs.declared.fares.ChangeChoice.{ChangeChoice}
use Rattle.feed_rows.specs.declared.fares.Choice.{Choice}
use Rattle.feed_rows.specs.declared.fares.LegChoice.{LegChoice}
use Rattle.feed_rows.specs.declared.fares.TransferFacts.{TransferFacts}
use Rattle.feed_rows.specs.declared.journeys.LegFacts.{LegFacts}
use Rattle.feed_rows.specs.declared.rows.TransferRuleRow.{TransferRuleRow}
use Rattle.feed_rows.specs.declared.states.FareState.{FareState}
use Rattle.feed_rows.specs.declared.states.Move.{Move}
use Rattle.feed_rows.specs.FeedRows.{FeedRows}
use Rattle.feed_rows.specs.TransferRules.{FareLeg, AskedChange, asked_change, same_group, is_same_group_at, run_start, is_selected, is_selected_transfer, is_arranged, IsRun}
use Rattle.feed_rows.specs.FareChoices.{chosen_leg, fare_leg, is_leg_choice, is_change_product, is_transfer_choice, is_change_choice, is_fare_choice}
use Rattle.feed_rows.specs.FareSums.{transfer_kind, starts_chain, amount_of}
use Rattle.feed_rows.specs.FareStands.{fresh_run, extends, next_run, IsRunAt, FareStand, stand_of_next, next_fare_stand, IsStandOf}
use Rattle.feed_rows.specs.FareStates.{held_of, held_amount, paid_amount, greatest_count, capped_count, state_of_run, state_at, state_of, fare_state}
use Rattle.feed_rows.specs.FareSteps.{Run, change_to, frees_first, frees_next, next_paid, place_kind, place_charge, leg_taken, place_taken, is_whole, asked_after, is_arranged_after, is_row_after, is_place_after, next_state, next_move, move_of_next, AreMovesAfter}
use Rattle.feed_rows.specs.FareExtensions.{changes_with, extended, Extends, BeginsWith, AreExtensions}
use Rattle.plain_laws.specs.Plain.{filled_and, when}
use Rattle.plain_laws.proofs.Laws.{list_any-place, slice_get-new_item}
use Rattle.feed_laws.proofs.TransferLaws.{run_start-run}
use Rattle.feed_laws.proofs.SumLaws.{IsPushed}
use Rattle.feed_laws.proofs.StandLaws.{next_fare_stand-of, places_of_paid, IsStandOf-one, stand_of_paid, step_of_paid, paid_of_step}
use Rattle.feed_laws.proofs.FareLaws.{same_group-equal}
use Rattle.fare_laws.proofs.MoveLaws.{next_tells, next_when}
use Rattle.fare_laws.proofs.StateLaws.{told, SameRows, selected_same, arranged_same, agree, capped_again}

-- ---- the state of legs

-- leg j has this group
record HasGroup (leg : ℕ → Option FareLeg) (j : ℕ) (group : Option LegGroupId) : Type 0 where
  pub value : FareLeg
  pub is : leg j ≡ Some value
  pub of_group : value.group ≡ group

-- each leg of a run has the group of its first leg
group_along : (feed : FeedRows) (leg : ℕ → Option FareLeg) (b i : ℕ) (first : FareLeg) → IsRun feed leg b i → leg b ≡ Some first →
    (m : ℕ) → b + m ≤ i → HasGroup leg (b + m) first.group
group_along feed leg b i first run is zero le =
    let at : b + 0 ≡ b = omega arith in
    record { value = first; is = ap leg at ∙ is; of_group = refl }
group_along feed leg b i first run is (suc m) le =
    let have = group_along feed leg b i first run is m (omega arith) in
    let next : (b + m) + 1 ≡ b + suc m = omega arith in
    by have (leg ((b + m) + 1)) refl (run.one_group (b + m) (omega arith) (omega arith))
  where
    by : HasGroup leg (b + m) first.group → (o : Option FareLeg) → leg ((b + m) + 1) ≡ o → is_same_group_at leg (b + m) ≡ true →
        HasGroup leg (b + suc m) first.group
    by have None at same =
        let known = have.is in
        let no : false ≡ true = rw (known, at) at same in
        absurd (cc)
    by have (Some next) at same =
        let known = have.is in
        let both : same_group have.value.group next.group ≡ true = rw (known, at) at same in
        let place : (b + m) + 1 ≡ b + suc m = omega arith in
        record {
          value = next;
          is = sym (ap leg place) ∙ at;
          of_group = sym (same_group-equal have.value.group next.group both) ∙ have.of_group;
        }

last_of_run : (feed : FeedRows) (leg : ℕ → Option FareLeg) (i : ℕ) (run : Run) → IsRunAt feed leg i run → HasGroup leg i run.first.group
last_of_run feed leg i run at =
    let along = run_start-run feed leg i in
    let begun = along.begun in
    let place : run_start feed leg i + (i - run_start feed leg i) ≡ i = omega arith in
    subst (λ (j : ℕ). HasGroup leg j run.first.group) place
    (group_along feed leg (run_start feed leg i) i run.first along at.first (i - run_start feed leg i) (omega arith))

-- the state after leg i tells of its run
state_told : (feed : FeedRows) (leg : ℕ → Option FareLeg) (kind : ℕ → Option ℕ) (i : ℕ) (run : Run) → IsRunAt feed leg i run →
    state_at feed leg kind i ≡ Some (told feed run (starts_chain kind i))
state_told feed leg kind i run at =
    let last = last_of_run feed leg i run at in
    by last.value last.is last.of_group
  where
    by : (value : FareLeg) → leg i ≡ Some value → value.group ≡ run.first.group → state_at feed leg kind i ≡ Some (told feed run (starts_chain kind i))
    by value is group = rw (is, at.first, at.changes, group) refl

module _ (feed : FeedRows) (legs : List LegFacts) (choice : Choice) (n : ℕ) (stand : FareStand)
    (long : length legs ≡ suc n) (long' : length choice.legs ≡ suc n) (at : IsStandOf feed legs choice n stand) where
  -- the state after legs
  pub fare_state-told : fare_state feed legs choice ≡ Some (told feed stand.run (starts_chain (transfer_kind feed choice) n))
  unfolding fare_state
  fare_state-told =
      ap (state_of feed (fare_leg feed legs choice.legs) (transfer_kind feed choice)) long
      ∙ state_told feed (fare_leg feed legs choice.legs) (transfer_kind feed choice) n stand.run at.run

  -- what is held after them
  pub held_amount-stand : held_amount feed choice ≡ stand.held
  unfolding held_amount
  held_amount-stand = ap (held_of feed choice) long' ∙ sym at.held

  -- and what is paid
  pub paid_amount-stand : paid_amount feed choice ≡ stand.paid
  unfolding paid_amount
  paid_amount-stand =
      ap (λ (z : ℤ). z -ℤ held_amount feed choice) (sym at.price)
      ∙ ap (λ (z : ℤ). (stand.paid +ℤ stand.held) -ℤ z) held_amount-stand ∙ back stand.paid stand.held
    where
      back : (p h : ℤ) → (p +ℤ h) -ℤ h ≡ p
      back p h = omega (arith, ints)

-- ---- the place of a change

module _ (feed : FeedRows) (buyer : Buyer) (run : Run) (next : FareLeg) (is_first : Bool) where
  -- a place is right by the state where it is right by the run
  pub place_same : (place : Option ChangeChoice) →
      is_place_after feed buyer (asked_after (told feed run is_first) next) place ≡ is_change_choice feed buyer (change_to run next) place
  unfolding is_arranged_after is_arranged is_selected_transfer is_row_after is_transfer_choice
  place_same place =
      let known = agree feed run next is_first in
      by (asked_after (told feed run is_first) next) (change_to run next) known.some known.rows place
    where
      rows_same : (a b : AskedChange) → SameRows feed a b → (pick : ChangeChoice) → (o : Option TransferRuleRow) →
          slice_get feed.transfer_rules pick.rule.0 ≡ o →
          filled_and o (λ rule. is_selected feed a rule && is_change_product feed buyer rule.product pick.product)
          ≡ filled_and o (λ rule. is_selected feed b rule && is_change_product feed buyer rule.product pick.product)
      rows_same a b same pick None is = refl
      rows_same a b same pick (Some row) is =
          ap (λ (s : Bool). s && is_change_product feed buyer row.product pick.product) (selected_same feed a b same pick.rule.0 row is)

      by : (a : Option AskedChange) (c : Option TransferFacts) → is_some a ≡ is_some c →
          ((asked : AskedChange) (change : TransferFacts) → a ≡ Some asked → c ≡ Some change → SameRows feed asked (asked_change change)) →
          (place : Option ChangeChoice) → is_place_after feed buyer a place ≡ is_change_choice feed buyer c place
      by None None some rows None = refl
      by None None some rows (Some pick) = refl
      by (Some a) None some rows place = absurd (let no : true ≡ false = some in cc)
      by None (Some c) some rows place = absurd (let no : false ≡ true = some in cc)
      by (Some a) (Some c) some rows None = ap not (arranged_same feed a (asked_change c) (rows a c refl refl))
      by (Some a) (Some c) some rows (Some pick) =
          rows_same a (asked_change c) (rows a c refl refl) pick (slice_get feed.transfer_rules pick.rule.0) refl

-- a right place is filled where the change is arranged, and then its row is there
record IsRightPlace (feed : FeedRows) (change : Option TransferFacts) (place : Option ChangeChoice) : Type 0 where
  pub filled : is_some place ≡ filled_and change (is_arranged feed)
  pub kind : is_none (place_kind feed place) ≡ is_none place

right_place : (feed : FeedRows) (buyer : Buyer) (change : Option TransferFacts) (place : Option ChangeChoice) →
    is_change_choice feed buyer change place ≡ true → IsRightPlace feed change place
unfolding is_arranged is_transfer_choice
right_place feed buyer change None right = record { filled = by (filled_and change (is_arranged feed)) right; kind = refl }
  where
    by : (b : Bool) → not b ≡ true → false ≡ b
    by false e = refl
    by true e = e
right_place feed buyer None (Some pick) right = absurd (let no : false ≡ true = right in cc)
right_place feed buyer (Some change) (Some pick) right = by (slice_get feed.transfer_rules pick.rule.0) refl right
  where
    by : (o : Option TransferRuleRow) → slice_get feed.transfer_rules pick.rule.0 ≡ o →
        filled_and o (λ rule. is_selected_transfer feed change rule && is_change_product feed buyer rule.product pick.product) ≡ true →
        IsRightPlace feed (Some change) (Some pick)
    by None is e = absurd (let no : false ≡ true = e in cc)
    by (Some row) is e =
        let selected = (and_parts (is_selected_transfer feed change row) _ e).0 in
        record {
          filled = sym (list_any-place (is_selected_transfer feed change) feed.transfer_rules pick.rule.0 row is selected);
          kind = rw is refl;
        }

-- ---- the next state

next_told : (feed : FeedRows) (run : Run) (next : FareLeg) (is_first : Bool) (place : Option ChangeChoice) →
    is_some place ≡ filled_and (change_to run next) (is_arranged feed) →
    next_state feed (told feed run is_first) next place ≡ told feed (next_run feed run next) (is_none place)
unfolding next_run extends
next_told feed run next is_first place filled =
    rw (sym filled) (by run.first.group refl place)
  where
    capped : (group : Option LegGroupId) → capped_count feed group (capped_count feed group run.changes + 1) ≡ capped_count feed group (run.changes + 1)
    capped None = refl
    capped (Some g) = capped_again run.changes (greatest_count feed g)

    by : (group : Option LegGroupId) → run.first.group ≡ group → (p : Option ChangeChoice) →
        next_state feed (told feed run is_first) next p
        ≡ told feed (if same_group run.first.group next.group && is_some p then record { first = run.first; changes = run.changes + 1 } else fresh_run next) (is_none p)
    by group is None = none (same_group run.first.group next.group)
      where
        none : (b : Bool) →
            (if b && false then record (told feed run is_first) { count = capped_count feed run.first.group ((told feed run is_first).count + 1); first = false } else state_of_run feed next.group 0 next true)
            ≡ told feed (if b && false then record { first = run.first; changes = run.changes + 1 } else fresh_run next) true
        none true = refl
        none false = refl
    by group is (Some pick) = some (same_group run.first.group next.group)
      where
        some : (b : Bool) →
            (if b && true then record (told feed run is_first) { count = capped_count feed run.first.group ((told feed run is_first).count + 1); first = false } else state_of_run feed next.group 0 next false)
            ≡ told feed (if b && true then record { first = run.first; changes = run.changes + 1 } else fresh_run next) false
        some true = ap (λ (k : ℕ). record (told feed run is_first) { count = k; first = false }) (capped run.first.group)
        some false = refl

-- ---- lists

-- lists with one front length that are equal with what follows are equal in both parts
same_parts : {X : Type 0} (xs us ys vs : List X) → length xs ≡ length us → xs ++ ys ≡ us ++ vs → (xs ≡ us) × (ys ≡ vs)
same_parts xs us ys vs long same = (
  sym (take-append_seam xs ys) ∙ ap (take (length xs)) same ∙ ap (λ (n : ℕ). take n (us ++ vs)) long ∙ take-append_seam us vs,
  sym (drop-append_seam xs ys) ∙ ap (drop (length xs)) same ∙ ap (λ (n : ℕ). drop n (us ++ vs)) long ∙ drop-append_seam us vs,
)

head_or : {X : Type 0} → X → List X → X
head_or d [] = d
head_or d (x ∷ xs) = x

pub same_head : {X : Type 0} (x y : X) → x ∷ [] ≡ y ∷ [] → x ≡ y
unfolding head_or
same_head x y same = ap (head_or x) same

-- ---- moves

choice_by : List LegChoice → List (Option ChangeChoice) → Choice
choice_by legs changes = record { legs = legs; changes = changes }

same_by : (a b : List LegChoice) (c d : List (Option ChangeChoice)) → a ≡ b → c ≡ d → choice_by a c ≡ choice_by b d
same_by a b c d e f = rw (e, f) refl

-- choices with the same places are one
pub same_choice : (a b : Choice) → a.legs ≡ b.legs → a.changes ≡ b.changes → a ≡ b
unfolding choice_by
same_choice a b e f = same_by a.legs b.legs a.changes b.changes e f

pub all_true : (a b c : Bool) → a ≡ true → b ≡ true → c ≡ true → true ≡ (a && b && c)
all_true a b c e f g = rw (e, f, g) refl

-- a change more is added to what is paid
pub next_paid-from : (p h a c : ℤ) (kind : Option ℕ) → next_paid p h kind a c ≡ p +ℤ next_paid (pos 0) h kind a c
next_paid-from p h a c kind = by (cond (frees_first kind) (pos 0) h) (cond (is_none kind || frees_next kind) (pos 0) a)
  where
    by : (x y : ℤ) → p +ℤ x +ℤ c +ℤ y ≡ p +ℤ (pos 0 +ℤ x +ℤ c +ℤ y)
    by x y = omega (arith, ints)

-- a move that makes this pick and fills the place so
row_of : Option ChangeChoice → Move → Move
row_of None move = record move { xfer = None; xfer_product = None }
row_of (Some pick) move = record move { xfer = Some pick.rule; xfer_product = pick.product }

module _ (feed : FeedRows) (buyer : Buyer) (legs : List LegFacts) (leg : LegFacts) (choice : Choice) (n : ℕ) (stand : FareStand)
    (is_first : Bool) (long : length legs ≡ suc n) (pays : is_fare_choice feed legs choice buyer ≡ true)
    (at : IsStandOf feed legs choice n stand) where
  abbrev state : FareState
  state = told feed stand.run is_first

  places : (length choice.legs ≡ suc n) × (length choice.changes ≡ n)
  places =
      let p = places_of_paid feed buyer legs choice pays in
      let a = p.0 in
      let b = p.1 in
      (omega (arith, a, long), omega (arith, b, long))

  -- the longer choice by a move
  pushed : (move : Move) → IsPushed choice (place_taken move) (leg_taken move) (extended choice move) n
  pushed move = record {
    legs = places.0;
    changes = places.1;
    more_legs = refl;
    more_changes = ap (λ (k : ℕ). changes_with k choice.changes (place_taken move)) places.0;
  }

  -- a move that there is tells of its leg
  record IsMove (move : Move) : Type 0 where
    pub next : FareLeg
    pub chosen : chosen_leg feed leg (leg_taken move) ≡ Some next
    pub paid_leg : is_leg_choice feed buyer leg (leg_taken move) ≡ true
    pub paid_change : is_change_choice feed buyer (change_to stand.run next) (place_taken move) ≡ true
    pub whole : is_whole move ≡ true
    pub follows : next_move feed state stand.held next move ≡ move

  tells : (move : Move) → move_of_next feed buyer state stand.held leg move ≡ Some move → IsMove move
  tells move is =
      let m = next_tells feed buyer state stand.held leg move is in
      record {
        next = m.next;
        chosen = m.chosen;
        paid_leg = m.paid_leg;
        paid_change = sym (place_same feed buyer stand.run m.next is_first (place_taken move)) ∙ m.right_place;
        whole = m.whole;
        follows = m.follows;
      }

  -- its step along legs
  step_of : (move : Move) (m : IsMove move) →
      next_fare_stand feed buyer stand leg (leg_taken move) (place_taken move) ≡ Some (stand_of_next feed stand m.next (leg_taken move) (place_taken move))
  unfolding next_fare_stand
  step_of move m =
      let chosen = m.chosen in
      let paid_leg = m.paid_leg in
      let paid_change = m.paid_change in
      rw (chosen, paid_leg, paid_change) refl

  -- the type of the change to it
  kind_of_last : (move : Move) → transfer_kind feed (extended choice move) n ≡ place_kind feed (place_taken move)
  unfolding transfer_kind
  kind_of_last move =
      let p = pushed move in
      let last = slice_get-new_item choice.changes (extended choice move).changes (place_taken move) n p.changes p.more_changes in
      rw last refl

  -- a move that there is extends the choice
  pub extends_of : (move : Move) → move_of_next feed buyer state stand.held leg move ≡ Some move → Extends feed buyer legs choice leg move
  unfolding starts_chain
  extends_of move is =
      let m = tells move is in
      let p = pushed move in
      let more_long : length (legs ++ leg ∷ []) ≡ suc (suc n) = length_push legs leg ∙ omega (arith, long) in
      let more_long' : length (extended choice move).legs ≡ suc (suc n) = length_push choice.legs (leg_taken move) ∙ omega (arith, places.0) in
      let after = stand_of_next feed stand m.next (leg_taken move) (place_taken move) in
      let more_at : IsStandOf feed (legs ++ leg ∷ []) (extended choice move) (suc n) after =
      next_fare_stand-of feed buyer legs leg choice (place_taken move) (leg_taken move) (extended choice move) n stand long p at after (step_of move m) in
      let right = right_place feed buyer (change_to stand.run m.next) (place_taken move) m.paid_change in
      record {
        whole = m.whole;
        pays = paid_of_step feed buyer legs leg choice (place_taken move) (leg_taken move) (extended choice move) n stand after long p pays at (step_of move m);
        paid =
            paid_amount-stand feed (legs ++ leg ∷ []) (extended choice move) (suc n) after more_long more_long' more_at
            ∙ next_paid-from stand.paid stand.held _ _ (place_kind feed (place_taken move))
            ∙ ap (λ (z : ℤ). z +ℤ next_paid (pos 0) stand.held (place_kind feed (place_taken move)) (amount_of feed move.product) (place_charge feed (place_taken move)))
            (sym (paid_amount-stand feed legs choice n stand long places.0 at))
            ∙ ap (λ (q : Move). paid_amount feed choice +ℤ q.paid.0) m.follows;
        held =
            held_amount-stand feed (legs ++ leg ∷ []) (extended choice move) (suc n) after more_long more_long' more_at
            ∙ ap (λ (q : Move). q.held.0) m.follows;
        state =
            fare_state-told feed (legs ++ leg ∷ []) (extended choice move) (suc n) after more_long more_long' more_at
            ∙ ap (λ (b : Bool). Some (told feed after.run b)) (ap is_none (kind_of_last move) ∙ right.kind)
            ∙ ap Some (sym (next_told feed stand.run m.next is_first (place_taken move) right.filled))
            ∙ ap (λ (q : Move). Some q.state) m.follows;
      }

  -- a step along legs as a move
  made : FareLeg → LegChoice → Option ChangeChoice → Move
  made next pick place =
      next_move feed state stand.held next (row_of place (record {
        state = state;
        paid = record { 0 = pos 0 };
        held = record { 0 = pos 0 };
        rule = pick.rule;
        product = pick.product;
        xfer = None;
        xfer_product = None;
      }))

  -- it takes that
  record IsMade (next : FareLeg) (pick : LegChoice) (place : Option ChangeChoice) : Type 0 where
    pub takes_leg : leg_taken (made next pick place) ≡ pick
    pub takes_place : place_taken (made next pick place) ≡ place
    pub whole : is_whole (made next pick place) ≡ true
    pub again : next_move feed state stand.held next (made next pick place) ≡ made next pick place

  is_made : (next : FareLeg) (pick : LegChoice) (place : Option ChangeChoice) → IsMade next pick place
  unfolding made row_of
  is_made next pick None = record { takes_leg = refl; takes_place = refl; whole = refl; again = refl }
  is_made next pick (Some q) = record { takes_leg = refl; takes_place = refl; whole = refl; again = refl }

  -- a move that takes a right pick and place, and says what follows, is one
  is_move : (move : Move) (next : FareLeg) → chosen_leg feed leg (leg_taken move) ≡ Some next →
      is_leg_choice feed buyer leg (leg_taken move) ≡ true →
      is_change_choice feed buyer (change_to stand.run next) (place_taken move) ≡ true → is_whole move ≡ true →
      next_move feed state stand.held next move ≡ move → move_of_next feed buyer state stand.held leg move ≡ Some move
  is_move move next chosen paid_leg paid_change whole again =
      sym (next_when feed buyer leg move state stand.held next true chosen
      (all_true _ _ _ paid_leg (place_same feed buyer stand.run next is_first (place_taken move) ∙ paid_change) whole))
      ∙ ap Some again

  -- and so is the one that is made, where there is the step
  made_is_move : (pick : LegChoice) (place : Option ChangeChoice) (after : FareStand) →
      next_fare_stand feed buyer stand leg pick place ≡ Some after →
      (next : FareLeg) × (move_of_next feed buyer state stand.held leg (made next pick place) ≡ Some (made next pick place))
  unfolding next_fare_stand
  made_is_move pick place after step = by (chosen_leg feed leg pick) refl step
    where
      by : (o : Option FareLeg) → chosen_leg feed leg pick ≡ o →
          option_and_then (λ next. when (is_leg_choice feed buyer leg pick && is_change_choice feed buyer (change_to stand.run next) place)
          (stand_of_next feed stand next pick place)) o ≡ Some after →
          (next : FareLeg) × (move_of_next feed buyer state stand.held leg (made next pick place) ≡ Some (made next pick place))
      by None chosen e = absurd (none-some after e)
      by (Some next) chosen e =
          let test = (cond_some _ _ _ e).0 in
          let both = and_parts (is_leg_choice feed buyer leg pick) _ test in
          let m = is_made next pick place in (
            next,
            is_move (made next pick place) next
                (ap (chosen_leg feed leg) m.takes_leg ∙ chosen)
                (ap (is_leg_choice feed buyer leg) m.takes_leg ∙ both.0)
                (ap (is_change_choice feed buyer (change_to stand.run next)) m.takes_place ∙ both.1) m.whole m.again,
          )

  -- each longer choice is made by a move that there is
  pub all_of : (longer : Choice) → is_fare_choice feed (legs ++ leg ∷ []) longer buyer ≡ true → BeginsWith choice longer →
      (move : Move) × (move_of_next feed buyer state stand.held leg move ≡ Some move) × (longer ≡ extended choice move)
  all_of longer paid begins =
      let s = step_of_paid feed buyer legs leg longer n long paid in
      let same_legs = same_parts s.last.choice.legs choice.legs (s.last.pick ∷ []) begins.legs.0
      (s.last.pushed.legs ∙ sym places.0) (sym s.last.pushed.more_legs ∙ begins.legs.1) in
      let same_changes = same_parts s.last.choice.changes choice.changes (s.last.place ∷ []) begins.changes.0
      (s.last.pushed.changes ∙ sym places.1) (sym s.last.pushed.more_changes ∙ begins.changes.1) in
      let same : s.last.choice ≡ choice = same_choice s.last.choice choice same_legs.0 same_changes.0 in
      let stands : s.before.stand ≡ stand =
      IsStandOf-one feed legs choice n s.before.stand stand (subst (λ (c : Choice). IsStandOf feed legs c n s.before.stand) same s.before.of) at in
      let step : next_fare_stand feed buyer stand leg s.last.pick s.last.place ≡ Some s.after =
      subst (λ (t : FareStand). next_fare_stand feed buyer t leg s.last.pick s.last.place ≡ Some s.after) stands s.step in
      let found = made_is_move s.last.pick s.last.place s.after step in
      let m = is_made found.0 s.last.pick s.last.place in
      let p = pushed (made found.0 s.last.pick s.last.place) in (
        made found.0 s.last.pick s.last.place,
        found.1,
        same_choice longer (extended choice (made found.0 s.last.pick s.last.place))
            (s.last.pushed.more_legs ∙ ap (λ (l : List LegChoice). l ++ s.last.pick ∷ []) same_legs.0 ∙ ap (λ (x : LegChoice). choice.legs ++ x ∷ []) (sym m.takes_leg))
            (s.last.pushed.more_changes ∙ ap (λ (l : List (Option ChangeChoice)). l ++ s.last.place ∷ []) same_changes.0
            ∙ ap (λ (x : Option ChangeChoice). choice.changes ++ x ∷ []) (sym m.takes_place) ∙ sym p.more_changes),
      )

  -- a whole move is made of what it takes
  rebuilt : (next : FareLeg) (move : Move) → is_whole move ≡ true →
      next_move feed state stand.held next move ≡ made next (leg_taken move) (place_taken move)
  unfolding made row_of
  rebuilt next move whole = by move.xfer move.xfer_product whole
    where
      by : (x : Option XferId) (row : Option ProductRowId) → (if is_none x then is_none row else true) ≡ true →
          next_move feed state stand.held next (record move { xfer = x; xfer_product = row })
          ≡ made next (leg_taken move) (place_taken (record move { xfer = x; xfer_product = row }))
      by None None whole = refl
      by None (Some row) whole = absurd (let no : false ≡ true = whole in cc)
      by (Some x) row whole = refl

  -- moves that there are and that make one choice are one
  pub once_of : (a b : Move) → move_of_next feed buyer state stand.held leg a ≡ Some a → move_of_next feed buyer state stand.held leg b ≡ Some b →
      extended choice a ≡ extended choice b → a ≡ b
  once_of a b is is' same =
      let m = tells a is in
      let m' = tells b is' in
      let legs_same = same_parts choice.legs choice.legs (leg_taken a ∷ []) (leg_taken b ∷ []) refl (ap (λ (c : Choice). c.legs) same) in
      let pick = same_head (leg_taken a) (leg_taken b) legs_same.1 in
      let p = pushed a in
      let p' = pushed b in
      let changes_same = same_parts choice.changes choice.changes (place_taken a ∷ []) (place_taken b ∷ []) refl
      (sym p.more_changes ∙ ap (λ (c : Choice). c.changes) same ∙ p'.more_changes) in
      let place = same_head (place_taken a) (place_taken b) changes_same.1 in
      let next : m.next ≡ m'.next = same_Some m.next m'.next (sym m.chosen ∙ ap (chosen_leg feed leg) pick ∙ m'.chosen) in
      sym m.follows ∙ rebuilt m.next a m.whole ∙ ap (λ (x : FareLeg). made x (leg_taken a) (place_taken a)) next
      ∙ ap (λ (x : LegChoice). made m'.next x (place_taken a)) pick ∙ ap (λ (x : Option ChangeChoice). made m'.next (leg_taken b) x) place
      ∙ sym (rebuilt m'.next b m'.whole) ∙ m'.follows

  -- the moves that there are after the state are exactly those that extend the choice
  pub moves_extend : (moves : List Move) → AreMovesAfter feed buyer (Some state) stand.held leg moves → AreExtensions feed buyer legs choice leg moves
  moves_extend moves are = record {
    right = λ k d lt. extends_of (slice_index_or moves k d) (are.right k d lt);
    all = λ longer paid begins.
        let found = all_of longer paid begins in
        (found.0, are.all found.0 found.1, found.2);
    once = λ i j d lt lt' same. are.once i j d lt lt' (once_of (slice_index_or moves i d) (slice_index_or moves j d) (are.right i d (omega (arith, lt, lt'))) (are.right j d lt') same);
  }

-- the moves after the state and what is held of any legs are exactly those that extend the choice that pays them
pub step_extends : (feed : FeedRows) (buyer : Buyer) (legs : List LegFacts) (choice : Choice) (leg : LegFacts) (state : FareState) (held : ℤ)
    (moves : List Move) → is_fare_choice feed legs choice buyer ≡ true → fare_state feed legs choice ≡ Some state → held_amount feed choice ≡ held →
    AreMovesAfter feed buyer (Some state) held leg moves → AreExtensions feed buyer legs choice leg moves
unfolding fare_state
step_extends feed buyer [] choice leg after held moves pays is_state is_held are = absurd (none-some after is_state)
step_extends feed buyer (l ∷ ls) choice leg after held moves pays is_state is_held are =
    let long : length (l ∷ ls) ≡ suc (length ls) = refl in
    let stands = stand_of_paid feed buyer (l ∷ ls) choice (length ls) long pays in
    let places = (places_of_paid feed buyer (l ∷ ls) choice pays).0 in
    let same_state = same_Some _ _ (sym (fare_state-told feed (l ∷ ls) choice (length ls) stands.stand long places stands.of) ∙ is_state) in
    let same_held = sym (held_amount-stand feed (l ∷ ls) choice (length ls) stands.stand long places stands.of) ∙ is_held in
    moves_extend feed buyer (l ∷ ls) leg choice (length ls) stands.stand (starts_chain (transfer_kind feed choice) (length ls)) long pays stands.of moves
    (subst (λ (h : ℤ). AreMovesAfter feed buyer (Some (told feed stands.stand.run (starts_chain (transfer_kind feed choice) (length ls)))) h leg moves) (sym same_held)
    (subst (λ (s : FareState). AreMovesAfter feed buyer (Some s) held leg moves) (sym same_state) are))

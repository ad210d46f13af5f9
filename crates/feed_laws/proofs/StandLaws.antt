-- Where fares stand after some legs, and what one step does: the steps along legs are exactly the choices that pay them, and give
-- their price.
use Rattle.std.proofs.Common.{◌≡◌, refl, sym, ◌∙◌, ap, subst, ℕ, zero, suc, ◌-◌, ◌<◌, ◌≤◌, Bool, true, false, ◌&&◌, ◌||◌, List, [], ◌∷◌, ◌++◌, length, arith, cond}
use Rattle.std.specs.Prelude.{Option, Some, None, is_none, ℤ, pos, ◌+ℤ◌, ◌≤ℤ◌, slice_get, option_map, option_and_then}
use Rattle.std.specs.Option.{is_some}
use Rattle.std.proofs.lemmas.Int.{ints}
use Rattle.std.proofs.lemmas.Bool.{and_parts, eqb-true}
use Rattle.std.proofs.lemmas.List.{length_push}
use Rattle.std.proofs.lemmas.Option.{same_Some}
use Rattle.feed_rows.specs.declared.journeys.Buyer.{Buyer}
use Rattle.feed_rows.specs.declared.journeys.LegFacts.{LegFacts}
use Rattle.feed_rows.specs.declared.rows.LegRuleRow.{LegRuleRow}
use Rattle.feed_rows.specs.declared.fares.ChangeChoice.{ChangeChoice}
use Rattle.feed_rows.specs.declared.fares.LegChoice.{LegChoice}
use Rattle.feed_rows.specs.declared.fares.Choice.{Choice}
use Rattle.feed_rows.specs.FeedRows.{FeedRows}
use Rattle.plain_laws.specs.Plain.{when}
use Rattle.feed_rows.specs.TransferRules.{FareLeg, change_at}
use Rattle.feed_rows.specs.FareChoices.{chosen_leg, fare_leg, is_leg_choice, is_change_choice, is_leg_paid, is_fare_choice}
use Rattle.feed_rows.specs.FareSums.{amount_of}
use Rattle.feed_rows.specs.FareSteps.{Run, change_to, frees_next, frees_first, next_held, next_paid, place_kind, place_charge}
use Rattle.feed_rows.specs.FareStands.{next_run, IsRunAt, FareStand, stand_of_first, stand_of_next, first_fare_stand, next_fare_stand, stand_at, IsStandOf}
use Rattle.plain_laws.proofs.Laws.{slice_get-append_left, slice_get-push_last, slice_get-old_item, slice_get-new_item}
use Rattle.feed_laws.proofs.FareLaws.{run_of_first}
use Rattle.feed_laws.proofs.SumLaws.{IsPushed, next_total, next_paid-total, fare_sum-push, fare_sum-first, held_at-push, held_at-first}
use Rattle.feed_laws.proofs.ChoiceLaws.{is_fare_choice_by_places, is_fare_choice-push, change_at_push, run_of_push}

-- ---- the first leg

-- the choice of one leg
abbrev pub choice_of_one : LegChoice → Choice
choice_of_one pick = record { legs = pick ∷ []; changes = [] }

-- a choice for a leg names a rule
rule_of_choice : (feed : FeedRows) (buyer : Buyer) (leg : LegFacts) (pick : LegChoice) →
    slice_get feed.leg_rules pick.rule.0 ≡ None → is_leg_choice feed buyer leg pick ≡ false
unfolding is_leg_choice
rule_of_choice feed buyer leg pick none = rw none refl

leg_of_one : (feed : FeedRows) (leg : LegFacts) (pick : LegChoice) (buyer : Buyer) →
    is_leg_paid feed (leg ∷ []) (choice_of_one pick) buyer 0 ≡ is_leg_choice feed buyer leg pick
unfolding is_leg_paid
leg_of_one feed leg pick buyer = refl

-- one leg is paid where fares stand somewhere after it
pub first_fare_stand-paid : (feed : FeedRows) (buyer : Buyer) (leg : LegFacts) (pick : LegChoice) →
    is_fare_choice feed (leg ∷ []) (choice_of_one pick) buyer ≡ is_some (first_fare_stand feed buyer leg pick)
unfolding first_fare_stand
first_fare_stand-paid feed buyer leg pick =
    is_fare_choice_by_places feed (leg ∷ []) (choice_of_one pick) buyer 0 refl refl refl
    ∙ alone _ _ (leg_of_one feed leg pick buyer)
    ∙ by (slice_get feed.leg_rules pick.rule.0) refl
  where
    alone : (a b : Bool) → a ≡ b → ((true && a) && true) ≡ b
    alone true b e = e
    alone false b e = e

    kept : (b : Bool) (stand : FareStand) → b ≡ is_some (when b stand)
    kept true stand = refl
    kept false stand = refl

    by : (o : Option LegRuleRow) → slice_get feed.leg_rules pick.rule.0 ≡ o →
        is_leg_choice feed buyer leg pick
        ≡ is_some {T = FareStand} (option_and_then
        (λ first. when (is_leg_choice feed buyer leg pick) (stand_of_first feed first pick))
        (option_map (λ rule. record { group = rule.group; departure = leg.departure; arrival = leg.arrival }) o))
    by None is = rule_of_choice feed buyer leg pick is
    by (Some rule) is = kept (is_leg_choice feed buyer leg pick) _

-- then they stand as the choice of that leg says
pub first_fare_stand-of : (feed : FeedRows) (buyer : Buyer) (leg : LegFacts) (pick : LegChoice)
    (stand : FareStand) →
    first_fare_stand feed buyer leg pick ≡ Some stand → IsStandOf feed (leg ∷ []) (choice_of_one pick) 0 stand
unfolding first_fare_stand
first_fare_stand-of feed buyer leg pick stand e = by (chosen_leg feed leg pick) refl e
  where
    amount : ℤ
    amount = amount_of feed pick.product

    stands : (first : FareLeg) → chosen_leg feed leg pick ≡ Some first →
        IsStandOf feed (leg ∷ []) (choice_of_one pick) 0 (stand_of_first feed first pick)
    stands first is = record {
      run = run_of_first feed (fare_leg feed (leg ∷ []) (pick ∷ [])) first is;
      held = sym (held_at-first feed (choice_of_one pick) pick refl);
      price = zero_and amount ∙ sym (fare_sum-first feed (choice_of_one pick) pick refl refl);
    }
      where
        zero_and : (a : ℤ) → pos 0 +ℤ a ≡ a
        zero_and a = omega (arith, ints)

    choose : (first : FareLeg) → chosen_leg feed leg pick ≡ Some first → (b : Bool) →
        when b (stand_of_first feed first pick) ≡ Some stand → IsStandOf feed (leg ∷ []) (choice_of_one pick) 0 stand
    choose first is true e =
        let same : stand_of_first feed first pick ≡ stand = cc in
        subst (IsStandOf feed (leg ∷ []) (choice_of_one pick) 0) same (stands first is)
    choose first is false e = absurd (cc)

    by : (o : Option FareLeg) → chosen_leg feed leg pick ≡ o →
        option_and_then (λ first. when (is_leg_choice feed buyer leg pick) (stand_of_first feed first pick)) o
        ≡ Some stand →
        IsStandOf feed (leg ∷ []) (choice_of_one pick) 0 stand
    by None is e = absurd (cc)
    by (Some first) is e = choose first is (is_leg_choice feed buyer leg pick) e

-- ---- one more leg

-- n + 1 legs with a choice of them, after which fares stand at `stand`, and the same with one leg more
module _ (feed : FeedRows) (buyer : Buyer) (legs : List LegFacts) (leg : LegFacts) (choice : Choice)
    (place : Option ChangeChoice) (pick : LegChoice) (more : Choice) (n : ℕ) (stand : FareStand)
    (long : length legs ≡ suc n) (pushed : IsPushed choice place pick more n)
    (at : IsStandOf feed legs choice n stand) where
  -- the change to the new leg is the change from the run
  change_is : (next : FareLeg) → chosen_leg feed leg pick ≡ Some next →
      change_at feed (fare_leg feed (legs ++ leg ∷ []) more.legs) n ≡ change_to stand.run next
  change_is next is =
      ap (λ (picks : List LegChoice). change_at feed (fare_leg feed (legs ++ leg ∷ []) picks) n) pushed.more_legs
      ∙ change_at_push feed legs leg choice.legs pick n stand.run next long pushed.legs is at.run

  -- the longer choice pays the longer legs where the one paid the others, and there is a step
  pub next_fare_stand-paid : is_fare_choice feed (legs ++ leg ∷ []) more buyer
      ≡ (is_fare_choice feed legs choice buyer && is_some (next_fare_stand feed buyer stand leg pick place))
  unfolding next_fare_stand
  next_fare_stand-paid =
      is_fare_choice-push feed legs leg choice place pick more buyer n long pushed
      ∙ ap (λ (b : Bool). is_fare_choice feed legs choice buyer && b) (by (slice_get feed.leg_rules pick.rule.0) refl)
    where
      kept : (b : Bool) (s : FareStand) → b ≡ is_some (when b s)
      kept true s = refl
      kept false s = refl

      never : (a b : Bool) → a ≡ false → (a && b) ≡ false
      never a b e = rw e refl

      by : (o : Option LegRuleRow) → slice_get feed.leg_rules pick.rule.0 ≡ o →
          (is_leg_choice feed buyer leg pick && is_change_choice feed buyer
          (change_at feed (fare_leg feed (legs ++ leg ∷ []) more.legs) n) place)
          ≡ is_some {T = FareStand} (option_and_then
          (λ next. when
          (is_leg_choice feed buyer leg pick && is_change_choice feed buyer (change_to stand.run next) place)
          (stand_of_next feed stand next pick place))
          (option_map (λ rule. record { group = rule.group; departure = leg.departure; arrival = leg.arrival }) o))
      by None is = never _ _ (rule_of_choice feed buyer leg pick is)
      by (Some rule) is =
          let next : FareLeg = record { group = rule.group; departure = leg.departure; arrival = leg.arrival } in
          let same = change_is next
          (ap (option_map (λ (r : LegRuleRow). record { group = r.group; departure = leg.departure; arrival = leg.arrival })) is) in
          ap (λ c. is_leg_choice feed buyer leg pick && is_change_choice feed buyer c place) same ∙ kept _ _

  -- and the step leads to where fares stand after the longer legs
  pub next_fare_stand-of : (stand' : FareStand) → next_fare_stand feed buyer stand leg pick place ≡ Some stand' →
      IsStandOf feed (legs ++ leg ∷ []) more (suc n) stand'
  unfolding next_fare_stand
  next_fare_stand-of stand' e = by (chosen_leg feed leg pick) refl e
    where
      same_total : (s s' h h' : ℤ) (k : Option ℕ) (a c : ℤ) → s ≡ s' → h ≡ h' →
          next_total s h k a c ≡ next_total s' h' k a c
      same_total s s' h h' k a c e f = rw (e, f) refl

      stands : (next : FareLeg) → chosen_leg feed leg pick ≡ Some next →
          IsStandOf feed (legs ++ leg ∷ []) more (suc n) (stand_of_next feed stand next pick place)
      stands next is = record {
        run =
            subst (λ (picks : List LegChoice). IsRunAt feed (fare_leg feed (legs ++ leg ∷ []) picks) (suc n)
            (next_run feed stand.run next)) (sym pushed.more_legs)
            (run_of_push feed legs leg choice.legs pick n stand.run next long pushed.legs is at.run);
        held = sym (held_at-push feed choice place pick more n pushed);
        price =
            next_paid-total stand.paid stand.held (amount_of feed pick.product) (place_charge feed place)
            (place_kind feed place)
            ∙ same_total _ _ _ _ (place_kind feed place) (amount_of feed pick.product)
            (place_charge feed place) at.price at.held
            ∙ sym (fare_sum-push feed choice place pick more n pushed);
      }

      choose : (next : FareLeg) → chosen_leg feed leg pick ≡ Some next → (b : Bool) →
          when b (stand_of_next feed stand next pick place) ≡ Some stand' →
          IsStandOf feed (legs ++ leg ∷ []) more (suc n) stand'
      choose next is true e = let same : stand_of_next feed stand next pick place ≡ stand' = cc in subst
          (IsStandOf feed (legs ++ leg ∷ []) more (suc n)) same (stands next is)
      choose next is false e = absurd (cc)

      by : (o : Option FareLeg) → chosen_leg feed leg pick ≡ o →
          option_and_then (λ next. when (is_leg_choice feed buyer leg pick && is_change_choice feed buyer
          (change_to stand.run next) place) (stand_of_next feed stand next pick place)) o ≡ Some stand' →
          IsStandOf feed (legs ++ leg ∷ []) more (suc n) stand'
      by None is e = absurd (cc)
      by (Some next) is e = choose next is (is_leg_choice feed buyer leg pick && is_change_choice feed buyer
          (change_to stand.run next) place) e

-- ---- the last places of a choice

-- the list is `front` with `last` after it
record EndsWith (X : Type 0) (xs : List X) (n : ℕ) : Type 0 where
  pub front : List X
  pub last : X
  pub is : xs ≡ front ++ last ∷ []
  pub long : length front ≡ n

ends_with : {X : Type 0} (xs : List X) (n : ℕ) → length xs ≡ suc n → EndsWith X xs n
ends_with [] n long = absurd (omega arith)
ends_with (x ∷ []) n long = record { front = []; last = x; is = refl; long = omega arith }
ends_with (x ∷ y ∷ xs) zero long = absurd (omega arith)
ends_with (x ∷ y ∷ xs) (suc n) long =
    let e = ends_with (y ∷ xs) n (omega arith) in
    let before = e.long in
    record { front = x ∷ e.front; last = e.last; is = ap (λ ys. x ∷ ys) e.is; long = omega arith }

-- a choice, and one leg and one change after it
pub record HasLastPlaces (more : Choice) (n : ℕ) : Type 0 where
  pub choice : Choice
  pub place : Option ChangeChoice
  pub pick : LegChoice
  pub pushed : IsPushed choice place pick more n

-- a choice of n + 2 legs and n + 1 changes is one of a leg and a change fewer, with these after it
pub last_places : (more : Choice) (n : ℕ) → length more.legs ≡ suc (suc n) → length more.changes ≡ suc n →
    HasLastPlaces more n
last_places more n long long' =
    let legs = ends_with more.legs (suc n) long in
    let changes = ends_with more.changes n long' in
    record {
      choice = record { legs = legs.front; changes = changes.front };
      place = changes.last;
      pick = legs.last;
      pushed = record { legs = legs.long; changes = changes.long; more_legs = legs.is; more_changes = changes.is };
    }

-- a choice that pays legs has a place for each leg and for each change
pub places_of_paid : (feed : FeedRows) (buyer : Buyer) (legs : List LegFacts) (choice : Choice) →
    is_fare_choice feed legs choice buyer ≡ true →
    (length choice.legs ≡ length legs) × (length choice.changes ≡ length legs - 1)
unfolding is_fare_choice
places_of_paid feed buyer legs choice paid =
    let long = first_two _ _ _ _ paid in
    (eqb-true _ _ long.0, eqb-true _ _ long.1)
  where
    first_two : (a b c d : Bool) → (a && b && c && d) ≡ true → (a ≡ true) × (b ≡ true)
    first_two true true c d e = (refl, refl)
    first_two true false c d e = absurd (cc)
    first_two false b c d e = absurd (cc)

-- a choice that pays one leg has one pick, and no change
pub one_of_paid : (feed : FeedRows) (buyer : Buyer) (leg : LegFacts) (choice : Choice) →
    is_fare_choice feed (leg ∷ []) choice buyer ≡ true →
    (pick : LegChoice) × (choice ≡ choice_of_one pick)
one_of_paid feed buyer leg choice paid =
    let places = places_of_paid feed buyer (leg ∷ []) choice paid in
    by choice.legs choice.changes places.0 places.1
  where
    by : (picks : List LegChoice) (places : List (Option ChangeChoice)) → length picks ≡ 1 → length places ≡ 0 →
        (pick : LegChoice) × (record { legs = picks; changes = places } ≡ choice_of_one pick)
    by (pick ∷ []) [] long long' = (pick, refl)
    by (pick ∷ []) (place ∷ places) long long' = absurd (omega arith)
    by (pick ∷ other ∷ picks) places long long' = absurd (omega arith)
    by [] places long long' = absurd (omega arith)

-- fares stand in one way after legs that a choice pays
pub IsStandOf-one : (feed : FeedRows) (legs : List LegFacts) (choice : Choice) (n : ℕ) (a b : FareStand) →
    IsStandOf feed legs choice n a → IsStandOf feed legs choice n b → a ≡ b
IsStandOf-one feed legs choice n a b p q =
    let first : a.run.first ≡ b.run.first = same_Some _ _ (sym p.run.first ∙ q.run.first) in
    let changes : a.run.changes ≡ b.run.changes = sym p.run.changes ∙ q.run.changes in
    let held : a.held ≡ b.held = p.held ∙ sym q.held in
    equal a.run b.run a.paid b.paid a.held b.held (same_run a.run b.run first changes)
    (same_paid a.paid b.paid a.held b.held held (p.price ∙ sym q.price)) held
  where
    same_run : (r s : Run) → r.first ≡ s.first → r.changes ≡ s.changes → r ≡ s
    same_run r s e f = by_parts r.first s.first r.changes s.changes e f
      where
        run_of : FareLeg → ℕ → Run
        run_of x i = record { first = x; changes = i }

        by_parts : (x y : FareLeg) (i j : ℕ) → x ≡ y → i ≡ j → run_of x i ≡ run_of y j
        by_parts x y i j e f = rw (e, f) refl

    same_paid : (x y h k : ℤ) → h ≡ k → x +ℤ h ≡ y +ℤ k → x ≡ y
    same_paid x y h k e f = omega (arith, ints, e, f)

    stand_by : Run → ℤ → ℤ → FareStand
    stand_by r x h = record { run = r; paid = x; held = h }

    equal : (r s : Run) (x y h k : ℤ) → r ≡ s → x ≡ y → h ≡ k → stand_by r x h ≡ stand_by s y k
    equal r s x y h k e f g = rw (e, f, g) refl

-- ---- all legs

-- where fares stand after leg i looks at no leg, choice or change after it
stand_at-same : (feed : FeedRows) (buyer : Buyer) (legs legs' : List LegFacts) (choice choice' : Choice)
    (i : ℕ) →
    ((j : ℕ) → j ≤ i → slice_get legs j ≡ slice_get legs' j) →
    ((j : ℕ) → j ≤ i → slice_get choice.legs j ≡ slice_get choice'.legs j) →
    ((j : ℕ) → j < i → slice_get choice.changes j ≡ slice_get choice'.changes j) →
    stand_at feed buyer legs choice i ≡ stand_at feed buyer legs' choice' i
stand_at-same feed buyer legs legs' choice choice' zero leg pick place =
    let first = leg 0 (omega arith) in
    let first_pick = pick 0 (omega arith) in
    rw (first, first_pick) refl
stand_at-same feed buyer legs legs' choice choice' (suc i) leg pick place =
    let before =
    stand_at-same feed buyer legs legs' choice choice' i (λ j le. leg j (omega arith)) (λ j le. pick j (omega arith))
    (λ j lt. place j (omega arith)) in
    let next = leg (suc i) (omega arith) in
    let next_pick = pick (suc i) (omega arith) in
    let next_place = place i (omega arith) in
    rw (before, next, next_pick, next_place) refl

-- the steps along one more leg is one step after the steps along the others
pub stand_at-push : (feed : FeedRows) (buyer : Buyer) (legs : List LegFacts) (leg : LegFacts)
    (choice : Choice) (place : Option ChangeChoice) (pick : LegChoice) (more : Choice) (n : ℕ) →
    length legs ≡ suc n → IsPushed choice place pick more n →
    stand_at feed buyer (legs ++ leg ∷ []) more (suc n) ≡ option_and_then
    (λ stand. next_fare_stand feed buyer stand leg pick place) (stand_at feed buyer legs choice n)
stand_at-push feed buyer legs leg choice place pick more n long pushed =
    let picks = pushed.legs in
    let places = pushed.changes in
    let before = stand_at-same feed buyer (legs ++ leg ∷ []) legs more choice n
    (λ j le. slice_get-append_left legs (leg ∷ []) j (omega arith))
    (λ j le. sym (slice_get-old_item choice.legs more.legs pick j pushed.more_legs (omega arith)))
    (λ j lt. sym (slice_get-old_item choice.changes more.changes place j pushed.more_changes (omega arith))) in
    let new : slice_get (legs ++ leg ∷ []) (suc n) ≡ Some leg = slice_get-push_last legs leg _ (sym long) in
    let new_pick = slice_get-new_item choice.legs more.legs pick (suc n) pushed.legs pushed.more_legs in
    let new_place = slice_get-new_item choice.changes more.changes place n pushed.changes pushed.more_changes in
    rw (before, new, new_pick, new_place) refl

-- the choice pays the legs, and fares stand here after them; or it doesn't, and they stand nowhere
abbrev pub Stepped : FeedRows → Buyer → List LegFacts → Choice → ℕ → Option FareStand → Type 0
Stepped feed buyer legs choice n None = is_fare_choice feed legs choice buyer ≡ false
Stepped feed buyer legs choice n (Some stand) = (is_fare_choice feed legs choice buyer ≡ true)
    × IsStandOf feed legs choice n stand

stepped_first : (feed : FeedRows) (buyer : Buyer) (leg : LegFacts) (pick : LegChoice) →
    Stepped feed buyer (leg ∷ []) (choice_of_one pick) 0 (first_fare_stand feed buyer leg pick)
stepped_first feed buyer leg pick = by (first_fare_stand feed buyer leg pick) refl
  where
    by : (o : Option FareStand) → first_fare_stand feed buyer leg pick ≡ o →
        Stepped feed buyer (leg ∷ []) (choice_of_one pick) 0 o
    by None is = first_fare_stand-paid feed buyer leg pick ∙ ap is_some is
    by (Some stand) is = (
      first_fare_stand-paid feed buyer leg pick
          ∙ ap is_some is,
      first_fare_stand-of feed buyer leg pick stand is,
    )

stepped_next : (feed : FeedRows) (buyer : Buyer) (legs : List LegFacts) (leg : LegFacts) (choice : Choice)
    (place : Option ChangeChoice) (pick : LegChoice) (more : Choice) (n : ℕ) →
    length legs ≡ suc n → IsPushed choice place pick more n → (o : Option FareStand) →
    Stepped feed buyer legs choice n o →
    Stepped feed buyer (legs ++ leg ∷ []) more (suc n)
    (option_and_then (λ stand. next_fare_stand feed buyer stand leg pick place) o)
stepped_next feed buyer legs leg choice place pick more n long pushed None before =
    is_fare_choice-push feed legs leg choice place pick more buyer n long pushed ∙ never _ _ before
  where
    never : (a b : Bool) → a ≡ false → (a && b) ≡ false
    never a b e = rw e refl
stepped_next feed buyer legs leg choice place pick more n long pushed (Some stand) before = by
    (next_fare_stand feed buyer stand leg pick place) refl
  where
    paid : is_fare_choice feed (legs ++ leg ∷ []) more buyer ≡ is_some (next_fare_stand feed buyer stand leg pick place)
    paid =
        next_fare_stand-paid feed buyer legs leg choice place pick more n stand long pushed before.1
        ∙ and_true _ _ before.0
      where
        and_true : (a b : Bool) → a ≡ true → (a && b) ≡ b
        and_true a b e = rw e refl

    by : (o : Option FareStand) → next_fare_stand feed buyer stand leg pick place ≡ o →
        Stepped feed buyer (legs ++ leg ∷ []) more (suc n) o
    by None is = paid ∙ ap is_some is
    by (Some stand') is =
        (paid ∙ ap is_some is, next_fare_stand-of feed buyer legs leg choice place pick more n stand long pushed before.1 stand' is)

-- a choice with the right number of places pays the legs exactly where each step is right, and then fares stand as it says
pub stepped : (feed : FeedRows) (buyer : Buyer) (n : ℕ) (legs : List LegFacts) (picks : List LegChoice)
    (places : List (Option ChangeChoice)) →
    length legs ≡ suc n → length picks ≡ suc n → length places ≡ n →
    Stepped feed buyer legs (record { legs = picks; changes = places }) n
    (stand_at feed buyer legs (record { legs = picks; changes = places }) n)
stepped feed buyer zero (leg ∷ []) (pick ∷ []) [] long long' long'' = stepped_first feed buyer leg pick
stepped feed buyer zero (leg ∷ []) (pick ∷ []) (place ∷ places) long long' long'' = absurd (omega arith)
stepped feed buyer zero (leg ∷ []) [] places long long' long'' = absurd (omega arith)
stepped feed buyer zero (leg ∷ []) (pick ∷ other ∷ picks) places long long' long'' = absurd (omega arith)
stepped feed buyer zero [] picks places long long' long'' = absurd (omega arith)
stepped feed buyer zero (leg ∷ other ∷ legs) picks places long long' long'' = absurd (omega arith)
stepped feed buyer (suc n) legs picks places long long' long'' =
    let more : Choice = record { legs = picks; changes = places } in
    let front = ends_with legs (suc n) long in
    let last = last_places more n long' long'' in
    let before = stepped feed buyer n front.front last.choice.legs last.choice.changes front.long last.pushed.legs last.pushed.changes in
    subst (λ (ls : List LegFacts). Stepped feed buyer ls more (suc n) (stand_at feed buyer ls more (suc n)))
    (sym front.is)
    (subst (Stepped feed buyer (front.front ++ front.last ∷ []) more (suc n))
    (sym (stand_at-push feed buyer front.front front.last last.choice last.place last.pick more n front.long last.pushed))
    (stepped_next feed buyer front.front front.last last.choice last.place last.pick more n front.long last.pushed _ before))

-- a choice that pays legs, and where fares stand after them
pub record StandsAfter (feed : FeedRows) (buyer : Buyer) (legs : List LegFacts) (choice : Choice)
    (n : ℕ) : Type 0 where
  pub stand : FareStand
  pub is : stand_at feed buyer legs choice n ≡ Some stand
  pub of : IsStandOf feed legs choice n stand

-- after legs that a choice pays fares stand somewhere
pub stand_of_paid : (feed : FeedRows) (buyer : Buyer) (legs : List LegFacts) (choice : Choice) (n : ℕ) →
    length legs ≡ suc n → is_fare_choice feed legs choice buyer ≡ true → StandsAfter feed buyer legs choice n
stand_of_paid feed buyer legs choice n long paid =
    let places = places_of_paid feed buyer legs choice paid in
    let picks = places.0 in
    let changes = places.1 in
    by (stand_at feed buyer legs choice n) refl (stepped feed buyer n legs choice.legs choice.changes long
    (omega arith) (omega arith))
  where
    by : (o : Option FareStand) → stand_at feed buyer legs choice n ≡ o → Stepped feed buyer legs choice n o →
        StandsAfter feed buyer legs choice n
    by None is unpaid = absurd (cc)
    by (Some stand) is w = record { stand = stand; is = is; of = w.1 }

-- a choice over one more leg as a choice over the legs before, and one step
pub record IsStepFrom (feed : FeedRows) (buyer : Buyer) (legs : List LegFacts) (leg : LegFacts)
    (more : Choice) (n : ℕ) : Type 0 where
  pub last : HasLastPlaces more n
  pub paid : is_fare_choice feed legs last.choice buyer ≡ true
  pub before : StandsAfter feed buyer legs last.choice n
  pub after : FareStand
  pub step : next_fare_stand feed buyer before.stand leg last.pick last.place ≡ Some after
  pub of : IsStandOf feed (legs ++ leg ∷ []) more (suc n) after

-- each choice that pays one more leg is such
pub step_of_paid : (feed : FeedRows) (buyer : Buyer) (legs : List LegFacts) (leg : LegFacts) (more : Choice)
    (n : ℕ) →
    length legs ≡ suc n → is_fare_choice feed (legs ++ leg ∷ []) more buyer ≡ true →
    IsStepFrom feed buyer legs leg more n
step_of_paid feed buyer legs leg more n long paid =
    let places = places_of_paid feed buyer (legs ++ leg ∷ []) more paid in
    let picks = places.0 in
    let changes = places.1 in
    let long' = length_push legs leg in
    with_last (last_places more n (omega arith) (omega arith))
  where
    with_step : (last : HasLastPlaces more n) → is_fare_choice feed legs last.choice buyer ≡ true →
        (before : StandsAfter feed buyer legs last.choice n) →
        (o : Option FareStand) → next_fare_stand feed buyer before.stand leg last.pick last.place ≡ o → is_some o ≡ true →
        IsStepFrom feed buyer legs leg more n
    with_step last pays before None is some = absurd (cc)
    with_step last pays before (Some after) is some = record {
      last = last;
      paid = pays;
      before = before;
      after = after;
      step = is;
      of = next_fare_stand-of feed buyer legs leg last.choice last.place last.pick more n before.stand long last.pushed before.of after is;
    }

    with_stand : (last : HasLastPlaces more n) → is_fare_choice feed legs last.choice buyer ≡ true →
        StandsAfter feed buyer legs last.choice n → IsStepFrom feed buyer legs leg more n
    with_stand last pays before =
        let whole = next_fare_stand-paid feed buyer legs leg last.choice last.place last.pick more n before.stand long last.pushed before.of in
        with_step last pays before (next_fare_stand feed buyer before.stand leg last.pick last.place) refl
        (and_parts (is_fare_choice feed legs last.choice buyer)
        (is_some (next_fare_stand feed buyer before.stand leg last.pick last.place)) (sym whole ∙ paid)).1

    with_last : HasLastPlaces more n → IsStepFrom feed buyer legs leg more n
    with_last last =
        let whole = is_fare_choice-push feed legs leg last.choice last.place last.pick more buyer n long last.pushed in
        let pays = (and_parts (is_fare_choice feed legs last.choice buyer) _ (sym whole ∙ paid)).0 in
        with_stand last pays (stand_of_paid feed buyer legs last.choice n long pays)

-- and each step from a choice that pays the legs before leads to one that pays one more leg
pub paid_of_step : (feed : FeedRows) (buyer : Buyer) (legs : List LegFacts) (leg : LegFacts)
    (choice : Choice) (place : Option ChangeChoice) (pick : LegChoice) (more : Choice) (n : ℕ)
    (stand after : FareStand) →
    length legs ≡ suc n → IsPushed choice place pick more n → is_fare_choice feed legs choice buyer ≡ true →
    IsStandOf feed legs choice n stand →
    next_fare_stand feed buyer stand leg pick place ≡ Some after → is_fare_choice feed (legs ++ leg ∷ []) more buyer ≡ true
paid_of_step feed buyer legs leg choice place pick more n stand after long pushed paid at step =
    next_fare_stand-paid feed buyer legs leg choice place pick more n stand long pushed at ∙ both _ _ paid (ap is_some step)
  where
    both : (a b : Bool) → a ≡ true → b ≡ true → (a && b) ≡ true
    both a b e f = rw (e, f) refl

-- ---- of two stands with one run, one that has paid no more and costs no more stays so

pub next_paid-covers : (paid paid' held held' : ℤ) (kind : Option ℕ) (amount change : ℤ) → paid ≤ℤ paid' →
    (paid +ℤ held) ≤ℤ (paid' +ℤ held') →
    (next_paid paid held kind amount change ≤ℤ next_paid paid' held' kind amount change)
    × ((next_paid paid held kind amount change +ℤ next_held kind amount) ≤ℤ
    (next_paid paid' held' kind amount change +ℤ next_held kind amount))
next_paid-covers paid paid' held held' kind amount change le le' = by (frees_first kind)
    (cond (is_none kind || frees_next kind) (pos 0) amount) (next_held kind amount)
  where
    by : (first : Bool) (next here : ℤ) →
        ((paid +ℤ cond first (pos 0) held +ℤ change +ℤ next) ≤ℤ (paid' +ℤ cond first (pos 0) held' +ℤ change +ℤ next))
        × (((paid +ℤ cond first (pos 0) held +ℤ change +ℤ next) +ℤ here) ≤ℤ
        ((paid' +ℤ cond first (pos 0) held' +ℤ change +ℤ next) +ℤ here))
    by true next here = (omega (arith, ints, le, le'), omega (arith, ints, le, le'))
    by false next here = (omega (arith, ints, le, le'), omega (arith, ints, le, le'))

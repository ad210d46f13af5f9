-- What one more ride does to the legs of a journey, and one more leg to a choice that pays them.
use Rattle.std.proofs.Common.{◌≡◌, refl, sym, ◌∙◌, ap, ℕ, suc, ◌+◌, ◌-◌, ◌<◌, Bool, true, false, ◌&&◌, List, [], ◌∷◌, ◌++◌, length, arith, add-one}
use Rattle.std.specs.Prelude.{Option, Some, slice_get, option_map, option_and_then}
use Rattle.std.proofs.lemmas.Bool.{eq-eqb}
use Rattle.std.proofs.lemmas.List.{length_push}
use Rattle.feed_rows.specs.declared.journeys.Buyer.{Buyer}
use Rattle.feed_rows.specs.declared.journeys.LegFacts.{LegFacts}
use Rattle.feed_rows.specs.declared.journeys.Ride.{Ride}
use Rattle.feed_rows.specs.declared.fares.ChangeChoice.{ChangeChoice}
use Rattle.feed_rows.specs.declared.fares.LegChoice.{LegChoice}
use Rattle.feed_rows.specs.declared.fares.Choice.{Choice}
use Rattle.feed_rows.specs.FeedRows.{FeedRows}
use Rattle.plain_laws.specs.Plain.{all_below}
use Rattle.feed_rows.specs.Rides.{ride_facts}
use Rattle.feed_rows.specs.Journeys.{facts_at}
use Rattle.feed_rows.specs.Legs.{leg_facts, legs_of}
use Rattle.feed_rows.specs.TransferRules.{FareLeg, change_at}
use Rattle.feed_rows.specs.FareChoices.{chosen_leg, fare_leg, is_leg_choice, is_change_choice, is_leg_paid, is_change_paid, is_fare_choice}
use Rattle.feed_rows.specs.FareSteps.{Run, change_to}
use Rattle.feed_rows.specs.FareStands.{next_run, IsRunAt}
use Rattle.plain_laws.proofs.Laws.{collect_below-same, all_below-same, slice_get-append_left, slice_get-push_last, slice_get-old_item, slice_get-new_item}
use Rattle.feed_laws.proofs.FareLaws.{IsRunAt-prefix, change_at-prefix, change_of_run, run_of_next}
use Rattle.feed_laws.proofs.SumLaws.{IsPushed}

-- the legs of one more ride
pub legs_of-push : (feed : FeedRows) (rides : List Ride) (ride : Ride) →
    legs_of feed (rides ++ ride ∷ []) ≡ option_and_then (λ legs. option_map (λ leg. legs ++ leg ∷ []) (option_map (leg_facts feed) (ride_facts feed ride))) (legs_of feed rides)
unfolding legs_of
legs_of-push feed rides ride =
    let before = collect_below-same (length rides) (λ i. option_map (leg_facts feed) (facts_at feed (rides ++ ride ∷ []) i)) (λ i. option_map (leg_facts feed) (facts_at feed rides i))
    (λ i lt. ap (λ o. option_map (leg_facts feed) (option_and_then (ride_facts feed) o)) (slice_get-append_left rides (ride ∷ []) i lt)) in
    let last = slice_get-push_last rides ride (length rides) refl in
    rw (length_push rides ride, add-one, before, last) refl

-- the legs before a new one stay, as changes see them
pub fare_leg-append : (feed : FeedRows) (legs more_legs : List LegFacts) (picks more_picks : List LegChoice) (i : ℕ) → i < length legs → i < length picks →
    fare_leg feed (legs ++ more_legs) (picks ++ more_picks) i ≡ fare_leg feed legs picks i
fare_leg-append feed legs more_legs picks more_picks i lt lt' =
    let leg = slice_get-append_left legs more_legs i lt in
    let pick = slice_get-append_left picks more_picks i lt' in
    rw (leg, pick) refl

-- the new leg, as changes see it
pub fare_leg_push : (feed : FeedRows) (legs : List LegFacts) (leg : LegFacts) (picks : List LegChoice) (pick : LegChoice) (n : ℕ) →
    length legs ≡ n → length picks ≡ n → fare_leg feed (legs ++ leg ∷ []) (picks ++ pick ∷ []) n ≡ chosen_leg feed leg pick
fare_leg_push feed legs leg picks pick n long long' =
    let last : slice_get (legs ++ leg ∷ []) n ≡ Some leg = slice_get-push_last legs leg _ (sym long) in
    let last_pick : slice_get (picks ++ pick ∷ []) n ≡ Some pick = slice_get-push_last picks pick _ (sym long') in
    rw (last, last_pick) refl

-- what one more leg does to the run of the last: `run` is that of n + 1 legs, and `next` the new leg as changes see it
module _ (feed : FeedRows) (legs : List LegFacts) (leg : LegFacts) (picks : List LegChoice) (pick : LegChoice) (n : ℕ) (run : Run) (next : FareLeg)
    (long : length legs ≡ suc n) (long' : length picks ≡ suc n) (is : chosen_leg feed leg pick ≡ Some next)
    (at : IsRunAt feed (fare_leg feed legs picks) n run) where
  new_leg : fare_leg feed (legs ++ leg ∷ []) (picks ++ pick ∷ []) (n + 1) ≡ Some next
  new_leg = fare_leg_push feed legs leg picks pick (n + 1) (omega arith) (omega arith) ∙ is

  -- the run of the leg before stays
  pub run_stays : IsRunAt feed (fare_leg feed (legs ++ leg ∷ []) (picks ++ pick ∷ [])) n run
  run_stays =
      IsRunAt-prefix feed (fare_leg feed legs picks) (fare_leg feed (legs ++ leg ∷ []) (picks ++ pick ∷ [])) n run
      (λ j le. sym (fare_leg-append feed legs (leg ∷ []) picks (pick ∷ []) j (omega arith) (omega arith))) at

  -- the run of the new leg is the next run
  pub run_of_push : IsRunAt feed (fare_leg feed (legs ++ leg ∷ []) (picks ++ pick ∷ [])) (suc n) (next_run feed run next)
  run_of_push = run_of_next feed (fare_leg feed (legs ++ leg ∷ []) (picks ++ pick ∷ [])) n run next run_stays new_leg

  -- the change to the new leg is the change from the run of the last
  pub change_at_push : change_at feed (fare_leg feed (legs ++ leg ∷ []) (picks ++ pick ∷ [])) n ≡ change_to run next
  change_at_push = change_of_run feed (fare_leg feed (legs ++ leg ∷ []) (picks ++ pick ∷ [])) n run next run_stays new_leg

-- the same leg with the same pick is paid in both, or in neither
same_paid_leg : (feed : FeedRows) (legs legs' : List LegFacts) (a b : Choice) (buyer : Buyer) (i : ℕ) →
    slice_get legs i ≡ slice_get legs' i → slice_get a.legs i ≡ slice_get b.legs i → is_leg_paid feed legs a buyer i ≡ is_leg_paid feed legs' b buyer i
unfolding is_leg_paid
same_paid_leg feed legs legs' a b buyer i leg pick = rw (leg, pick) refl

-- the same change with the same place is paid in both, or in neither
same_paid_change : (feed : FeedRows) (legs legs' : List LegFacts) (a b : Choice) (buyer : Buyer) (i : ℕ) →
    slice_get a.changes i ≡ slice_get b.changes i → change_at feed (fare_leg feed legs a.legs) i ≡ change_at feed (fare_leg feed legs' b.legs) i →
    is_change_paid feed legs a buyer i ≡ is_change_paid feed legs' b buyer i
unfolding is_change_paid
same_paid_change feed legs legs' a b buyer i place change = rw (place, change) refl

-- a new leg is paid by its choice
paid_leg : (feed : FeedRows) (legs : List LegFacts) (choice : Choice) (buyer : Buyer) (i : ℕ) (leg : LegFacts) (pick : LegChoice) →
    slice_get legs i ≡ Some leg → slice_get choice.legs i ≡ Some pick → is_leg_paid feed legs choice buyer i ≡ is_leg_choice feed buyer leg pick
unfolding is_leg_paid
paid_leg feed legs choice buyer i leg pick is is_pick = rw (is, is_pick) refl

-- a new change is paid by its place
paid_change : (feed : FeedRows) (legs : List LegFacts) (choice : Choice) (buyer : Buyer) (i : ℕ) (place : Option ChangeChoice) →
    slice_get choice.changes i ≡ Some place → is_change_paid feed legs choice buyer i ≡ is_change_choice feed buyer (change_at feed (fare_leg feed legs choice.legs) i) place
unfolding is_change_paid
paid_change feed legs choice buyer i place is = rw is refl

-- four tests in another order
in_turn : (a b c d : Bool) → (a && b) && (c && d) ≡ (a && c) && (b && d)
in_turn true b true d = refl
in_turn true true false d = refl
in_turn true false false d = refl
in_turn false b c d = refl

-- a choice with the right number of places pays where each place is right
pub is_fare_choice_by_places : (feed : FeedRows) (legs : List LegFacts) (choice : Choice) (buyer : Buyer) (n : ℕ) →
    length legs ≡ suc n → length choice.legs ≡ suc n → length choice.changes ≡ n →
    is_fare_choice feed legs choice buyer ≡ (all_below (suc n) (is_leg_paid feed legs choice buyer) && all_below n (is_change_paid feed legs choice buyer))
unfolding is_fare_choice
is_fare_choice_by_places feed legs choice buyer n long picks changes =
    let same_legs = eq-eqb (length choice.legs) (length legs) (picks ∙ sym long) in
    let before : length legs - 1 ≡ n = omega arith in
    let same_changes = eq-eqb (length choice.changes) (length legs - 1) (changes ∙ sym before) in
    rw (same_legs, same_changes, before, long) refl

-- a choice with one more leg pays where it paid before, and the new leg and the new change have their choices
pub is_fare_choice-push : (feed : FeedRows) (legs : List LegFacts) (leg : LegFacts) (choice : Choice) (place : Option ChangeChoice) (pick : LegChoice) (more : Choice) (buyer : Buyer) (n : ℕ) →
    length legs ≡ suc n → IsPushed choice place pick more n →
    is_fare_choice feed (legs ++ leg ∷ []) more buyer
    ≡ (is_fare_choice feed legs choice buyer
    && (is_leg_choice feed buyer leg pick && is_change_choice feed buyer (change_at feed (fare_leg feed (legs ++ leg ∷ []) more.legs) n) place))
is_fare_choice-push feed legs leg choice place pick more buyer n long p =
    let picks = p.legs in
    let changes = p.changes in
    let long' : length (legs ++ leg ∷ []) ≡ suc (suc n) = length_push legs leg ∙ ap (λ k. k + 1) long ∙ omega arith in
    let picks' : length more.legs ≡ suc (suc n) = ap length p.more_legs ∙ length_push choice.legs pick ∙ ap (λ k. k + 1) picks ∙ omega arith in
    let changes' : length more.changes ≡ suc n = ap length p.more_changes ∙ length_push choice.changes place ∙ ap (λ k. k + 1) changes ∙ omega arith in
    let leg_at : slice_get (legs ++ leg ∷ []) (suc n) ≡ Some leg = slice_get-push_last legs leg _ (sym long) in
    let new_leg = paid_leg feed (legs ++ leg ∷ []) more buyer (suc n) leg pick leg_at (slice_get-new_item choice.legs more.legs pick (suc n) picks p.more_legs) in
    let new_change = paid_change feed (legs ++ leg ∷ []) more buyer n place (slice_get-new_item choice.changes more.changes place n changes p.more_changes) in
    let old_legs = all_below-same (suc n) (is_leg_paid feed (legs ++ leg ∷ []) more buyer) (is_leg_paid feed legs choice buyer) (λ i lt.
    same_paid_leg feed (legs ++ leg ∷ []) legs more choice buyer i
    (slice_get-append_left legs (leg ∷ []) i (omega arith)) (sym (slice_get-old_item choice.legs more.legs pick i p.more_legs (omega arith)))) in
    let old_changes = all_below-same n (is_change_paid feed (legs ++ leg ∷ []) more buyer) (is_change_paid feed legs choice buyer) (λ i lt.
    same_paid_change feed (legs ++ leg ∷ []) legs more choice buyer i
    (sym (slice_get-old_item choice.changes more.changes place i p.more_changes (omega arith)))
    (change_at-prefix feed (fare_leg feed (legs ++ leg ∷ []) more.legs) (fare_leg feed legs choice.legs) i (λ j le. old_leg j (omega arith) (omega arith)))) in
    is_fare_choice_by_places feed (legs ++ leg ∷ []) more buyer (suc n) long' picks' changes'
    ∙ both _ _ _ _ _ _ _ _ old_legs new_leg old_changes new_change
    ∙ in_turn (all_below (suc n) (is_leg_paid feed legs choice buyer)) (is_leg_choice feed buyer leg pick) (all_below n (is_change_paid feed legs choice buyer)) _
    ∙ ap (λ (b : Bool). b && (is_leg_choice feed buyer leg pick && is_change_choice feed buyer (change_at feed (fare_leg feed (legs ++ leg ∷ []) more.legs) n) place))
    (sym (is_fare_choice_by_places feed legs choice buyer n long picks changes))
  where
    old_leg : (j : ℕ) → j < length legs → j < length choice.legs → fare_leg feed (legs ++ leg ∷ []) more.legs j ≡ fare_leg feed legs choice.legs j
    old_leg j lt lt' = ap (λ picks. fare_leg feed (legs ++ leg ∷ []) picks j) p.more_legs ∙ fare_leg-append feed legs (leg ∷ []) choice.legs (pick ∷ []) j lt lt'

    both : (a a' b b' c c' d d' : Bool) → a ≡ a' → b ≡ b' → c ≡ c' → d ≡ d' → ((a && b) && (c && d)) ≡ ((a' && b') && (c' && d'))
    both a a' b b' c c' d d' e f g h = rw (e, f, g, h) refl

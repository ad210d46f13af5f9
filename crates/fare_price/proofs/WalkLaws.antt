-- A given choice, leg by leg: what moves tell of it.
use Rattle.std.proofs.Common.{◌≡◌, refl, sym, ◌∙◌, ap, subst, ℕ, zero, suc, ◌+◌, ◌-◌, ◌*◌, ◌^◌, ◌<◌, ◌≤◌, Bool, true, false, ◌&&◌, List, [], ◌∷◌, ◌++◌, length, take, take_all, length-take-le, arith}
use Rattle.std.specs.Prelude.{Option, Some, None, is_none, ℤ, pos, ◌+ℤ◌, nat_abs, slice_get, option_and_then, ◌==◌}
use Rattle.std.specs.Option.{is_some}
use Rattle.std.proofs.lemmas.Int.{ints}
use Rattle.std.proofs.lemmas.Bool.{and_parts, eqb-true}
use Rattle.std.proofs.lemmas.Bool.Decides.{nat_tests}
use Rattle.std.proofs.lemmas.Option.{slice_get_within, slice_get-get_or, cond_some}
use Rattle.std.proofs.Math.Seq.{take-append_seam, drop-append_seam}
use Rattle.std.proofs.Common.{drop, get_or}
use Rattle.feed_rows.specs.declared.journeys.Buyer.{Buyer}
use Rattle.feed_rows.specs.declared.fares.ChangeChoice.{ChangeChoice}
use Rattle.feed_rows.specs.declared.fares.Choice.{Choice}
use Rattle.feed_rows.specs.declared.fares.LegChoice.{LegChoice}
use Rattle.feed_rows.specs.declared.journeys.LegFacts.{LegFacts}
use Rattle.feed_rows.specs.declared.states.FareState.{FareState}
use Rattle.feed_rows.specs.declared.states.Move.{Move}
use Rattle.feed_rows.specs.FeedRows.{FeedRows}
use Rattle.feed_rows.specs.SoundFeed.{IsSoundFeed}
use Rattle.feed_rows.specs.TransferRules.{FareLeg}
use Rattle.feed_rows.specs.FareChoices.{chosen_leg, is_leg_choice, is_fare_choice}
use Rattle.feed_rows.specs.FareExtensions.{changes_with, extended}
use Rattle.feed_rows.specs.FareStates.{held_amount, paid_amount, fare_state}
use Rattle.feed_rows.specs.FareSteps.{leg_taken, place_taken, is_whole, asked_after, is_place_after, first_move, next_move, move_of_first, move_of_next, move_after}
use Rattle.feed_rows.specs.FareSums.{fare_sum, fare_price}
use Rattle.plain_laws.specs.Plain.{filled_and, when}
use Rattle.plain_laws.proofs.Laws.{chain_gives}
use Rattle.feed_laws.proofs.StandLaws.{places_of_paid}
use Rattle.fare_laws.specs.BareMoves.{bare}
use Rattle.fare_laws.proofs.ExtensionLaws.{same_choice, same_head}
use Rattle.fare_laws.proofs.LongerLaws.{IsMoveAfter, extends_by, IsMadeBy, made_by}
use Rattle.fare_price.specs.declared.checks.Walked.{Walked}
use Rattle.fare_laws.specs.SmallMoves.{IsSmall}
use Rattle.fare_price.specs.Walks.{at_start, walked_after, IsPlaceBefore, front, IsPaidUpTo}
use Rattle.fare_price.proofs.GatherLaws.{take_next}
use Rattle.fare_laws.proofs.SmallLaws.{move_small}

-- ---- moves that take the same rows

-- what a choice gives by a test is there where the test holds
there_where : {A B : Type 0} (c : A → Bool) (g : A → B) (o : Option A) → is_some (option_and_then (λ x. when (c x) (g x)) o) ≡ filled_and o c
there_where c g None = refl
there_where c g (Some x) = by (c x)
  where
    by : (b : Bool) → is_some (when b (g x)) ≡ b
    by true = refl
    by false = refl

module _ (feed : FeedRows) (buyer : Buyer) (leg : LegFacts) where
  first_test : LegChoice → Option ChangeChoice → Bool → Bool
  first_test pick place whole = filled_and (chosen_leg feed leg pick) (λ first. is_leg_choice feed buyer leg pick && is_none place && whole)

  next_test : FareState → LegChoice → Option ChangeChoice → Bool → Bool
  next_test state pick place whole =
      filled_and (chosen_leg feed leg pick) (λ next. is_leg_choice feed buyer leg pick && is_place_after feed buyer (asked_after state next) place && whole)

  same_test : (state : Option FareState) (held : ℤ) (a b : Move) → leg_taken a ≡ leg_taken b → place_taken a ≡ place_taken b → is_whole a ≡ is_whole b →
      is_some (move_after feed buyer state held leg a) ≡ is_some (move_after feed buyer state held leg b)
  unfolding move_of_first move_of_next first_test next_test
  same_test None held a b picks places whole =
      there_where (λ first. is_leg_choice feed buyer leg (leg_taken a) && is_none (place_taken a) && is_whole a) (λ first. first_move feed first a)
      (chosen_leg feed leg (leg_taken a))
      ∙ ap (λ (p : LegChoice). first_test p (place_taken a) (is_whole a)) picks
      ∙ ap (λ (p : Option ChangeChoice). first_test (leg_taken b) p (is_whole a)) places
      ∙ ap (first_test (leg_taken b) (place_taken b)) whole
      ∙ sym (there_where (λ first. is_leg_choice feed buyer leg (leg_taken b) && is_none (place_taken b) && is_whole b) (λ first. first_move feed first b)
      (chosen_leg feed leg (leg_taken b)))
  same_test (Some state) held a b picks places whole =
      there_where (λ next. is_leg_choice feed buyer leg (leg_taken a) && is_place_after feed buyer (asked_after state next) (place_taken a) && is_whole a)
      (λ next. next_move feed state held next a) (chosen_leg feed leg (leg_taken a))
      ∙ ap (λ (p : LegChoice). next_test state p (place_taken a) (is_whole a)) picks
      ∙ ap (λ (p : Option ChangeChoice). next_test state (leg_taken b) p (is_whole a)) places
      ∙ ap (next_test state (leg_taken b) (place_taken b)) whole
      ∙ sym (there_where (λ next. is_leg_choice feed buyer leg (leg_taken b) && is_place_after feed buyer (asked_after state next) (place_taken b) && is_whole b)
      (λ next. next_move feed state held next b) (chosen_leg feed leg (leg_taken b)))

  -- what was applied takes the rows that it was applied to, and is applied to itself
  record IsApplied (state : Option FareState) (held : ℤ) (taken move : Move) : Type 0 where
    pub pick : leg_taken move ≡ leg_taken taken
    pub place : place_taken move ≡ place_taken taken
    pub is : move_after feed buyer state held leg move ≡ Some move

  first_again : (first : FareLeg) (taken : Move) →
      move_after feed buyer None (pos 0) leg (first_move feed first taken) ≡ move_after feed buyer None (pos 0) leg taken
  unfolding move_of_first
  first_again first taken = refl

  next_again : (state : FareState) (held : ℤ) (next : FareLeg) (taken : Move) →
      move_after feed buyer (Some state) held leg (next_move feed state held next taken) ≡ move_after feed buyer (Some state) held leg taken
  unfolding move_of_next
  next_again state held next taken = refl

  applied : (state : Option FareState) (held : ℤ) (taken move : Move) → move_after feed buyer state held leg taken ≡ Some move →
      IsApplied state held taken move
  unfolding move_of_first move_of_next
  applied None held taken move is =
      let first = chain_gives _ (chosen_leg feed leg (leg_taken taken)) move is in
      let made = (cond_some _ _ _ first.gives).1 in
      record {
        pick = ap leg_taken (sym made);
        place = ap place_taken (sym made);
        is = subst (λ (m : Move). move_after feed buyer None held leg m ≡ Some move) made (first_again first.value taken ∙ is);
      }
  applied (Some state) held taken move is =
      let next = chain_gives _ (chosen_leg feed leg (leg_taken taken)) move is in
      let made = (cond_some _ _ _ next.gives).1 in
      record {
        pick = ap leg_taken (sym made);
        place = ap place_taken (sym made);
        is = subst (λ (m : Move). move_after feed buyer (Some state) held leg m ≡ Some move) made (next_again state held next.value taken ∙ is);
      }

place_of_bare : (pick : LegChoice) (place : Option ChangeChoice) → place_taken (bare pick place) ≡ place
place_of_bare pick None = refl
place_of_bare pick (Some c) = refl

whole_bare : (pick : LegChoice) (place : Option ChangeChoice) → is_whole (bare pick place) ≡ true
whole_bare pick None = refl
whole_bare pick (Some c) = refl

-- ---- the first of a choice

module _ (legs : List LegFacts) (choice : Choice) (places : length choice.legs ≡ length legs)
    (changes : length choice.changes ≡ length legs - 1) where
  -- with one leg more
  front_next : (n : ℕ) (pick : LegChoice) (place : Option ChangeChoice) (move : Move) → slice_get choice.legs n ≡ Some pick →
      IsPlaceBefore choice.changes n place → leg_taken move ≡ pick → place_taken move ≡ place →
      extended (front choice n) move ≡ front choice (n + 1)
  front_next zero pick place move at before is is_place =
      same_choice _ _ (ap (λ (p : LegChoice). [] ++ p ∷ []) is ∙ sym (take_next choice.legs 0 pick at))
      (ap (changes_with 0 []) (is_place ∙ before))
  front_next (suc m) pick place move at before is is_place =
      let lt = slice_get_within choice.legs (suc m) pick at in
      let long : length (take (suc m) choice.legs) ≡ suc m = length-take-le (suc m) choice.legs (omega arith) in
      let back : suc m - 1 ≡ m = omega arith in
      let count : m + 1 ≡ suc m + 1 - 1 = omega arith in
      same_choice _ _ (ap (λ (p : LegChoice). take (suc m) choice.legs ++ p ∷ []) is ∙ sym (take_next choice.legs (suc m) pick at))
      (ap (λ (k : ℕ). changes_with k (take (suc m - 1) choice.changes) (place_taken move)) long
      ∙ ap (λ (k : ℕ). take k choice.changes ++ place_taken move ∷ []) back
      ∙ ap (λ (p : Option ChangeChoice). take m choice.changes ++ p ∷ []) is_place
      ∙ sym (take_next choice.changes m place before)
      ∙ ap (λ (k : ℕ). take k choice.changes) count)

  front_all : front choice (length legs) ≡ choice
  front_all =
      same_choice _ _ (take_all (length legs) choice.legs (omega (arith, places))) (take_all (length legs - 1) choice.changes (omega (arith, changes)))

  -- a choice that a move extends to the first of it
  record IsExtendedTo (n : ℕ) (shorter : Choice) (move : Move) : Type 0 where
    pub same : shorter ≡ front choice n
    pub pick : slice_get choice.legs n ≡ Some (leg_taken move)
    pub place : IsPlaceBefore choice.changes n (place_taken move)

  last_of : {X : Type 0} (xs ys : List X) (n : ℕ) (x : X) → n < length xs → length ys ≡ n → take (n + 1) xs ≡ ys ++ x ∷ [] →
      (ys ≡ take n xs) × (slice_get xs n ≡ Some x)
  last_of {X} xs ys n x lt long is = parts (slice_get xs n) refl
    where
      parts : (o : Option X) → slice_get xs n ≡ o → (ys ≡ take n xs) × (slice_get xs n ≡ Some x)
      parts o at =
          let there = slice_get-get_or xs n x lt in
          let both : take n xs ++ get_or xs n x ∷ [] ≡ ys ++ x ∷ [] = sym (take_next xs n (get_or xs n x) there) ∙ is in
          let same_length : length (take n xs) ≡ length ys = length-take-le n xs (omega (arith, lt)) ∙ sym long in
          let front_same = sym (take-append_seam (take n xs) (get_or xs n x ∷ [])) ∙ ap (take (length (take n xs))) both
          ∙ ap (λ (k : ℕ). take k (ys ++ x ∷ [])) same_length ∙ take-append_seam ys (x ∷ []) in
          let last_same = sym (drop-append_seam (take n xs) (get_or xs n x ∷ [])) ∙ ap (drop (length (take n xs))) both
          ∙ ap (λ (k : ℕ). drop k (ys ++ x ∷ [])) same_length ∙ drop-append_seam ys (x ∷ []) in
          (sym front_same, there ∙ ap Some (same_head (get_or xs n x) x last_same))

  extended_to : (n : ℕ) (shorter : Choice) (move : Move) → n < length legs → length shorter.legs ≡ n → length shorter.changes ≡ n - 1 →
      front choice (n + 1) ≡ extended shorter move → IsExtendedTo n shorter move
  extended_to zero shorter move lt long long' same =
      let picks = last_of choice.legs shorter.legs 0 (leg_taken move) (omega (arith, lt, places)) long (ap (λ (c : Choice). c.legs) same) in
      by shorter.changes (length_zero shorter.changes long') picks.0 picks.1
      (ap (λ (c : Choice). c.changes) same ∙ ap (λ (k : ℕ). changes_with k shorter.changes (place_taken move)) long)
    where
      length_zero : {X : Type 0} (xs : List X) → length xs ≡ 0 → xs ≡ []
      length_zero [] e = refl
      length_zero (x ∷ xs) e = absurd (omega (arith, e))

      empty : (place : Option ChangeChoice) → take 0 choice.changes ≡ changes_with 0 [] place → place ≡ None
      empty None e = refl
      empty (Some c) e = absurd (let long : length {A = Option ChangeChoice} [] ≡ length (Some c ∷ []) = ap length e in omega (arith, long))

      by : (ps : List (Option ChangeChoice)) → ps ≡ [] → shorter.legs ≡ take 0 choice.legs → slice_get choice.legs 0 ≡ Some (leg_taken move) →
          take 0 choice.changes ≡ changes_with 0 shorter.changes (place_taken move) → IsExtendedTo zero shorter move
      by ps none picks pick changes_same =
          let empty_before : shorter.changes ≡ [] = length_zero shorter.changes long' in
          record {
            same = same_choice _ _ picks (empty_before ∙ refl);
            pick = pick;
            place = empty (place_taken move) (changes_same ∙ ap (λ (qs : List (Option ChangeChoice)). changes_with 0 qs (place_taken move)) empty_before);
          }
  extended_to (suc m) shorter move lt long long' same =
      let picks = last_of choice.legs shorter.legs (suc m) (leg_taken move) (omega (arith, lt, places)) long (ap (λ (c : Choice). c.legs) same) in
      let count : m + 1 ≡ suc m + 1 - 1 = omega arith in
      let rest =
      last_of choice.changes shorter.changes m (place_taken move) (omega (arith, lt, changes)) (long' ∙ omega arith)
      (ap (λ (k : ℕ). take k choice.changes) count ∙ ap (λ (c : Choice). c.changes) same
      ∙ ap (λ (k : ℕ). changes_with k shorter.changes (place_taken move)) long) in
      let back : m ≡ suc m - 1 = omega arith in
      record { same = same_choice _ _ picks.0 (rest.0 ∙ ap (λ (k : ℕ). take k choice.changes) back); pick = picks.1; place = rest.1 }

  -- ---- the walk

  module _ (feed : FeedRows) (buyer : Buyer) where
    made_front : (n : ℕ) (leg : LegFacts) → slice_get legs n ≡ Some leg → is_fare_choice feed (take (n + 1) legs) (front choice (n + 1)) buyer ≡ true →
        IsMadeBy feed buyer (take n legs) leg (front choice (n + 1))
    made_front n leg at pays =
        made_by feed buyer (take n legs) leg (front choice (n + 1))
        (subst (λ (ls : List LegFacts). is_fare_choice feed ls (front choice (n + 1)) buyer ≡ true) (take_next legs n leg at) pays)

    front_made : (n : ℕ) (leg : LegFacts) → slice_get legs n ≡ Some leg → (made : IsMadeBy feed buyer (take n legs) leg (front choice (n + 1))) →
        IsExtendedTo n made.choice made.move
    front_made n leg at made =
        let lt = slice_get_within legs n leg at in
        let long = places_of_paid feed buyer (take n legs) made.choice made.pays in
        let count : length (take n legs) ≡ n = length-take-le n legs (omega arith) in
        extended_to n made.choice made.move lt (long.0 ∙ count) (long.1 ∙ ap (λ (k : ℕ). k - 1) count) made.same

    -- a choice that pays all legs pays the first of them
    front_pays : is_fare_choice feed legs choice buyer ≡ true → (d n : ℕ) → n + d ≡ length legs →
        is_fare_choice feed (take n legs) (front choice n) buyer ≡ true
    front_pays pays zero n sum =
        let all : n ≡ length legs = omega (arith, sum) in
        subst (λ (k : ℕ). is_fare_choice feed (take k legs) (front choice k) buyer ≡ true) (sym all)
        (subst (λ (c : Choice). is_fare_choice feed (take (length legs) legs) c buyer ≡ true) (sym front_all)
        (subst (λ (ls : List LegFacts). is_fare_choice feed ls choice buyer ≡ true) (sym (take_all (length legs) legs (omega arith))) pays))
    front_pays pays (suc d) n sum = by (slice_get legs n) refl (front_pays pays d (n + 1) (omega (arith, sum)))
      where
        past : (ls : List LegFacts) (k : ℕ) → k < length ls → slice_get ls k ≡ None → ⊥
        past [] k lt e = absurd (omega (arith, lt))
        past (l ∷ ls) zero lt e = absurd (cc)
        past (l ∷ ls) (suc k) lt e = past ls k (omega (arith, lt)) e

        by : (o : Option LegFacts) → slice_get legs n ≡ o → is_fare_choice feed (take (n + 1) legs) (front choice (n + 1)) buyer ≡ true →
            is_fare_choice feed (take n legs) (front choice n) buyer ≡ true
        by None at more = absurd (past legs n (omega (arith, sum)) at)
        by (Some leg) at more =
            let made = made_front n leg at more in
            subst (λ (c : Choice). is_fare_choice feed (take n legs) c buyer ≡ true) (front_made n leg at made).same made.pays

    -- before the first leg
    pub walk_start : IsPaidUpTo feed buyer legs choice 0 at_start
    unfolding is_fare_choice fare_state paid_amount held_amount fare_sum
    walk_start = record { pays = refl; state = refl; paid = refl; held = refl; bound = omega arith; low = omega arith }

    -- one leg more that is paid
    pub walk_next : (n : ℕ) (walked : Walked) (leg : LegFacts) (pick : LegChoice) (place : Option ChangeChoice) (move : Move) → IsSoundFeed feed →
        IsPaidUpTo feed buyer legs choice n walked → slice_get legs n ≡ Some leg → slice_get choice.legs n ≡ Some pick →
        IsPlaceBefore choice.changes n place →
        move_after feed buyer walked.state walked.held.0 leg (bare pick place) ≡ Some move → IsPaidUpTo feed buyer legs choice (n + 1) (walked_after walked move)
    walk_next n walked leg pick place move sound up at at_pick at_place is =
        let a = applied feed buyer leg walked.state walked.held.0 (bare pick place) move is in
        let after : IsMoveAfter feed buyer (take n legs) (front choice n) leg move =
        subst (λ (s : Option FareState). move_after feed buyer s (held_amount feed (front choice n)) leg move ≡ Some move) (sym up.state)
        (subst (λ (h : ℤ). move_after feed buyer walked.state h leg move ≡ Some move) (sym up.held) a.is) in
        let extends = extends_by feed buyer (take n legs) (front choice n) leg move up.pays after in
        let same = front_next n pick place move at_pick at_place a.pick (a.place ∙ place_of_bare pick place) in
        let longer : take n legs ++ leg ∷ [] ≡ take (n + 1) legs = sym (take_next legs n leg at) in
        let small = move_small feed buyer walked.state walked.held.0 leg move sound up.low a.is in
        record {
          pays = subst (λ (ls : List LegFacts). is_fare_choice feed ls (front choice (n + 1)) buyer ≡ true) longer
              (subst (λ (c : Choice). is_fare_choice feed (take n legs ++ leg ∷ []) c buyer ≡ true) same extends.pays);
          state = subst (λ (ls : List LegFacts). fare_state feed ls (front choice (n + 1)) ≡ Some move.state) longer
              (subst (λ (c : Choice). fare_state feed (take n legs ++ leg ∷ []) c ≡ Some move.state) same extends.state);
          paid = subst (λ (c : Choice). paid_amount feed c ≡ walked.paid.0 +ℤ move.paid.0) same
              (extends.paid ∙ ap (λ (z : ℤ). z +ℤ move.paid.0) up.paid);
          held = subst (λ (c : Choice). held_amount feed c ≡ move.held.0) same extends.held;
          bound = more walked.paid.0 move.paid.0 up.bound small.paid;
          low = small.held;
        }
      where
        more : (p q : ℤ) → nat_abs p ≤ n * (3 * 10 ^ 12) → nat_abs q ≤ 3 * 10 ^ 12 → nat_abs (p +ℤ q) ≤ (n + 1) * (3 * 10 ^ 12)
        more p q le le' = omega (arith, ints, le, le')

    -- where a leg isn't paid the choice doesn't pay the legs
    pub walk_none : (n : ℕ) (walked : Walked) (leg : LegFacts) (pick : LegChoice) (place : Option ChangeChoice) →
        IsPaidUpTo feed buyer legs choice n walked → slice_get legs n ≡ Some leg → slice_get choice.legs n ≡ Some pick →
        IsPlaceBefore choice.changes n place →
        move_after feed buyer walked.state walked.held.0 leg (bare pick place) ≡ None → None ≡ fare_price feed legs choice buyer
    walk_none n walked leg pick place up at at_pick at_place none = by (is_fare_choice feed legs choice buyer) refl
      where
        same_place : (k : ℕ) (a b : Option ChangeChoice) → IsPlaceBefore choice.changes k a → IsPlaceBefore choice.changes k b → a ≡ b
        same_place zero a b e f = e ∙ sym f
        same_place (suc k) a b e f = some_equal a b (sym e ∙ f)
          where
            some_equal : (x y : Option ChangeChoice) → Some x ≡ Some y → x ≡ y
            some_equal x y e = ap (λ (o : Option (Option ChangeChoice)). out o) e
              where
                out : Option (Option ChangeChoice) → Option ChangeChoice
                out None = None
                out (Some z) = z

        pick_equal : (x y : LegChoice) → Some x ≡ Some y → x ≡ y
        pick_equal x y e = ap (λ (o : Option LegChoice). out o) e
          where
            out : Option LegChoice → LegChoice
            out None = x
            out (Some z) = z

        no : is_fare_choice feed legs choice buyer ≡ true → ⊥
        no pays =
            let lt = slice_get_within legs n leg at in
            let made = made_front n leg at (front_pays pays (length legs - (n + 1)) (n + 1) (omega (arith, lt))) in
            let to = front_made n leg at made in
            let from_front : move_after feed buyer (fare_state feed (take n legs) (front choice n)) (held_amount feed (front choice n)) leg made.move ≡ Some made.move =
            subst (λ (c : Choice). IsMoveAfter feed buyer (take n legs) c leg made.move) to.same made.is in
            let from_walked : move_after feed buyer walked.state walked.held.0 leg made.move ≡ Some made.move =
            subst (λ (h : ℤ). move_after feed buyer walked.state h leg made.move ≡ Some made.move) up.held
            (subst (λ (s : Option FareState). move_after feed buyer s (held_amount feed (front choice n)) leg made.move ≡ Some made.move) up.state from_front) in
            let whole = (extends_by feed buyer (take n legs) made.choice leg made.move made.pays made.is).whole in
            let there =
            same_test feed buyer leg walked.state walked.held.0 made.move (bare pick place)
            (pick_equal _ _ (sym to.pick ∙ at_pick))
            (same_place n _ _ to.place at_place ∙ sym (place_of_bare pick place))
            (whole ∙ sym (whole_bare pick place)) in
            let bad : true ≡ false = sym (ap is_some from_walked) ∙ there ∙ ap is_some none in
            absurd (cc)

        by : (b : Bool) → is_fare_choice feed legs choice buyer ≡ b → None ≡ when b (fare_sum feed choice)
        by false is = refl
        by true is = absurd (no is)

    -- after all legs
    pub walk_end : (n : ℕ) (walked : Walked) → n ≡ length legs → IsPaidUpTo feed buyer legs choice n walked →
        Some (walked.paid.0 +ℤ walked.held.0) ≡ fare_price feed legs choice buyer
    unfolding paid_amount
    walk_end n walked all up =
        let whole : front choice n ≡ choice = ap (front choice) all ∙ front_all in
        let all_legs : take n legs ≡ legs = take_all n legs (omega (arith, all)) in
        let pays =
        subst (λ (ls : List LegFacts). is_fare_choice feed ls choice buyer ≡ true) all_legs
        (subst (λ (c : Choice). is_fare_choice feed (take n legs) c buyer ≡ true) whole up.pays) in
        let paid = subst (λ (c : Choice). paid_amount feed c ≡ walked.paid.0) whole up.paid in
        let held = subst (λ (c : Choice). held_amount feed c ≡ walked.held.0) whole up.held in
        ap Some (sum_of _ _ _ _ paid held ∙ both_parts) ∙ sym (ap (λ (b : Bool). when b (fare_sum feed choice)) pays)
      where
        sum_of : (p q h k : ℤ) → p ≡ q → h ≡ k → q +ℤ k ≡ p +ℤ h
        sum_of p q h k e f = rw (e, f) refl

        both_parts : (paid_amount feed choice +ℤ held_amount feed choice) ≡ fare_sum feed choice
        both_parts = omega (arith, ints)

-- ---- what doesn't fit

-- a choice with other numbers of places pays nothing
pub misfit : (feed : FeedRows) (buyer : Buyer) (legs : List LegFacts) (choice : Choice) (picks : List LegChoice)
    (places : List (Option ChangeChoice)) → picks ≡ choice.legs → places ≡ choice.changes →
    false ≡ ((length picks == length legs) && (length places == length legs - 1)) → None ≡ fare_price feed legs choice buyer
misfit feed buyer legs choice picks places is_picks is_places unfit = by (is_fare_choice feed legs choice buyer) refl
  where
    by : (b : Bool) → is_fare_choice feed legs choice buyer ≡ b → None ≡ when b (fare_sum feed choice)
    by false is = refl
    by true is =
        let paid = places_of_paid feed buyer legs choice is in
        let many = ap length is_picks ∙ paid.0 in
        let few = ap length is_places ∙ paid.1 in
        absurd (grind (arith, nat_tests, many, few, unfit))

-- a choice that fits has a place for each
pub fit : (legs : List LegFacts) (choice : Choice) (picks : List LegChoice) (places : List (Option ChangeChoice)) → picks ≡ choice.legs →
    places ≡ choice.changes → true ≡ ((length picks == length legs) && (length places == length legs - 1)) →
    (length choice.legs ≡ length legs) × (length choice.changes ≡ length legs - 1)
fit legs choice picks places is_picks is_places fits =
    let parts = and_parts (length picks == length legs) (length places == length legs - 1) (sym fits) in (
      sym (ap length is_picks) ∙ eqb-true (length picks) (length legs) parts.0,
      sym (ap length is_places) ∙ eqb-true (length places) (length legs - 1) parts.1,
    )

-- what is applied, by what it is applied to
pub moved : (feed feed' : FeedRows) (buyer : Buyer) (state state' : Option FareState) (held : ℤ) (leg : LegFacts)
    (taken taken' : Move) (o : Option Move) → o ≡ move_after feed' buyer state' held leg taken → feed' ≡ feed → state' ≡ state →
    taken ≡ taken' → move_after feed buyer state held leg taken' ≡ o
moved feed feed' buyer state state' held leg taken taken' o is e f g =
    sym (is ∙ ap (λ (x : FeedRows). move_after x buyer state' held leg taken) e
    ∙ ap (λ (x : Option FareState). move_after feed buyer x held leg taken) f
    ∙ ap (move_after feed buyer state held leg) g)

-- what is applied is small
pub small_of : (feed : FeedRows) (buyer : Buyer) (state : Option FareState) (held : ℤ) (leg : LegFacts) (taken move : Move) →
    IsSoundFeed feed → nat_abs held ≤ 10 ^ 12 → move_after feed buyer state held leg taken ≡ Some move → IsSmall move
small_of feed buyer state held leg taken move sound low is =
    move_small feed buyer state held leg move sound low (applied feed buyer leg state held taken move is).is

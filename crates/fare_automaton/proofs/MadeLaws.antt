-- The moves that are made option by option are exactly those that there are.
use Rattle.std.proofs.Common.{◌≡◌, ◌≢◌, refl, sym, ◌∙◌, ap, subst, ℕ, zero, suc, ◌+◌, ◌<◌, Bool, true, false, ◌&&◌, List, [], ◌∷◌, ◌++◌, length, get_or, arith}
use Rattle.std.specs.Prelude.{if◌then◌else◌, Option, Some, None, is_none, ℤ, pos, map, option_map, slice_get, All, AllPairs, Contains}
use Rattle.std.specs.Option.{option_map_or}
use Rattle.std.proofs.lemmas.Option.{same_Some, none-some, slice_get_within, slice_get-map, slice_get-get_or}
use Rattle.std.proofs.lemmas.List.{length-map}
use Rattle.transit_base.specs.declared.numbers.ProductRowId.{ProductRowId}
use Rattle.transit_base.specs.declared.numbers.XferId.{XferId}
use Rattle.feed_rows.specs.declared.journeys.Buyer.{Buyer}
use Rattle.feed_rows.specs.declared.fares.ChangeChoice.{ChangeChoice}
use Rattle.feed_rows.specs.declared.fares.LegChoice.{LegChoice}
use Rattle.feed_rows.specs.declared.journeys.LegFacts.{LegFacts}
use Rattle.feed_rows.specs.declared.rows.LegRuleRow.{LegRuleRow}
use Rattle.feed_rows.specs.declared.states.FareState.{FareState}
use Rattle.feed_rows.specs.declared.states.Move.{Move}
use Rattle.feed_rows.specs.FeedRows.{FeedRows}
use Rattle.feed_rows.specs.TransferRules.{FareLeg}
use Rattle.feed_rows.specs.FareChoices.{chosen_leg, is_leg_choice}
use Rattle.feed_rows.specs.FareSteps.{leg_taken, place_taken, is_whole, asked_after, is_place_after, first_move, next_move, move_of_first, move_of_next, AreMovesAfter}
use Rattle.plain_laws.specs.Plain.{joined_below}
use Rattle.plain_laws.proofs.Laws.{Contains-joined_below, joined_below-tells, AllPairs-joined_below, All-from, All-slice_get, slice_get-Contains, Contains-map, map-tells}
use Rattle.fare_automaton.specs.declared.changes.GroupedLeg.{GroupedLeg}
use Rattle.fare_automaton.specs.declared.changes.LegTimes.{LegTimes}
use Rattle.fare_automaton.specs.Changes.{chosen_at, leg_by, leg_of, times_of}
use Rattle.fare_automaton.specs.Options.{ArePicks, HasPlaces, place_list, first_made, next_made, made_at}
use Rattle.fare_laws.specs.BareMoves.{bare}
use Rattle.fare_laws.proofs.MoveLaws.{place_by, first_tells, first_is_bare, first_when, next_tells, next_when}
use Rattle.fare_automaton.proofs.OptionLaws.{are_places}

-- the list of the option with this number
pub made_of : (made : LegChoice → List Move) (picks : List LegChoice) (i : ℕ) (pick : LegChoice) → slice_get picks i ≡ Some pick →
    made_at made picks i ≡ made pick
made_of made picks i pick is = rw is refl

-- the lists so far, with that of the next option
pub added_made : (before now : List Move) (made : LegChoice → List Move) (picks : List LegChoice) (i : ℕ) (d : LegChoice) → i < length picks →
    before ≡ joined_below i (made_at made picks) → now ≡ before ++ made (get_or picks i d) → now ≡ joined_below (i + 1) (made_at made picks)
added_made before now made picks i d lt is more =
    let next : i + 1 ≡ suc i = omega arith in
    more ∙ ap (λ (xs : List Move). xs ++ made (get_or picks i d)) is
    ∙ ap (λ (xs : List Move). joined_below i (made_at made picks) ++ xs) (sym (made_of made picks i (get_or picks i d) (slice_get-get_or picks i d lt)))
    ∙ ap (λ (k : ℕ). joined_below k (made_at made picks)) (sym next)

-- the lists of all options, by these moments or the same ones
pub whole_made : (made : LegTimes → LegChoice → List Move) (picks : List LegChoice) (moves : List Move) (n : ℕ) (times other : LegTimes) →
    n ≡ length picks → other ≡ times → moves ≡ joined_below n (made_at (made times) picks) →
    moves ≡ joined_below (length picks) (made_at (made other) picks)
whole_made made picks moves n times other whole same are =
    are ∙ ap (λ (k : ℕ). joined_below k (made_at (made times) picks)) whole
    ∙ ap (λ (t : LegTimes). joined_below (length picks) (made_at (made t) picks)) (sym same)

-- the moves are exactly those of this pick, each once
pub record AreOf (step : Move → Option Move) (pick : LegChoice) (moves : List Move) : Type 0 where
  pub right : (move : Move) → Contains moves move → (leg_taken move ≡ pick) × (step move ≡ Some move)
  pub all : (move : Move) → step move ≡ Some move → leg_taken move ≡ pick → Contains moves move
  pub once : AllPairs (λ a b. a ≢ b) moves

-- the moves are exactly those that there are, each once
record AreAll (step : Move → Option Move) (moves : List Move) : Type 0 where
  pub right : All (λ move. step move ≡ Some move) moves
  pub all : (move : Move) → step move ≡ Some move → Contains moves move
  pub once : AllPairs (λ a b. a ≢ b) moves

module _ (feed : FeedRows) (buyer : Buyer) (leg : LegFacts) (picks : List LegChoice)
    (right : All (λ pick. is_leg_choice feed buyer leg pick ≡ true) picks) (step : Move → Option Move) (made : LegChoice → List Move)
    (each : (pick : LegChoice) → is_leg_choice feed buyer leg pick ≡ true → AreOf step pick (made pick)) where
  -- the pick of a number
  at : (i : ℕ) (pick : LegChoice) → slice_get picks i ≡ Some pick → AreOf step pick (made pick)
  at i pick is = each pick (All-slice_get (λ (p : LegChoice). is_leg_choice feed buyer leg p ≡ true) picks i pick is right)

  -- a move of a number
  tells : (i : ℕ) (move : Move) → Contains (made_at made picks i) move →
      (slice_get picks i ≡ Some (leg_taken move)) × (step move ≡ Some move)
  tells i move c = by (slice_get picks i) refl c
    where
      by : (o : Option LegChoice) → slice_get picks i ≡ o → Contains (option_map_or made o []) move →
          (slice_get picks i ≡ Some (leg_taken move)) × (step move ≡ Some move)
      by None is (k, lt, e) = absurd (omega (arith, lt))
      by (Some pick) is c =
          let r = (at i pick is).right move c in
          (is ∙ ap Some (sym r.0), r.1)

  -- what is made is right
  pub right_made : All (λ (m : Move). step m ≡ Some m) (joined_below (length picks) (made_at made picks))
  right_made = All-from (λ (m : Move). step m ≡ Some m) _ (λ m c.
      let f = joined_below-tells (length picks) (made_at made picks) m c in
      (tells f.0 m f.2).1)

  -- and each move of one of the picks is made
  pub made_in : (pick : LegChoice) → Contains picks pick → (m : Move) → step m ≡ Some m → leg_taken m ≡ pick →
      Contains (joined_below (length picks) (made_at made picks)) m
  made_in pick among m is same =
      let place = slice_get-Contains picks pick among in
      Contains-joined_below (length picks) (made_at made picks) place.0 m (slice_get_within picks place.0 pick place.1)
      (subst (λ (xs : List Move). Contains xs m) (sym (made_of made picks place.0 pick place.1)) ((at place.0 pick place.1).all m is same))

module _ (feed : FeedRows) (buyer : Buyer) (leg : LegFacts) (picks : List LegChoice) (are : ArePicks feed buyer leg picks)
    (step : Move → Option Move) (made : LegChoice → List Move)
    (each : (pick : LegChoice) → is_leg_choice feed buyer leg pick ≡ true → AreOf step pick (made pick))
    (judged : (move : Move) → step move ≡ Some move → is_leg_choice feed buyer leg (leg_taken move) ≡ true) where
  once_at : (i : ℕ) → AllPairs (λ (a b : Move). a ≢ b) (made_at made picks i)
  once_at i = by (slice_get picks i) refl
    where
      by : (o : Option LegChoice) → slice_get picks i ≡ o → AllPairs (λ (a b : Move). a ≢ b) (option_map_or made o [])
      by None is = λ a b d lt lt'. absurd (omega (arith, lt'))
      by (Some pick) is = (at feed buyer leg picks are.right step made each i pick is).once

  -- two numbers have two picks
  apart : (i j : ℕ) (pick : LegChoice) → i < j → slice_get picks i ≡ Some pick → slice_get picks j ≡ Some pick → ⊥
  apart i j pick lt is is' =
      let within = slice_get_within picks j pick is' in
      are.once i j pick lt within
      (same_Some _ _ (sym (slice_get-get_or picks i pick (omega (arith, lt, within))) ∙ is ∙ sym is' ∙ slice_get-get_or picks j pick within))

  -- what is made pick by pick is all that there is
  all_made : AreAll step (joined_below (length picks) (made_at made picks))
  all_made = record {
    right = right_made feed buyer leg picks are.right step made each;
    all = λ m is. made_in feed buyer leg picks are.right step made each (leg_taken m) (are.all (leg_taken m) (judged m is)) m is refl;
    once = AllPairs-joined_below (λ (a b : Move). a ≢ b) (length picks) (made_at made picks) (λ i lt. once_at i)
        (λ i j x y lt lt' c c' same.
        let a = tells feed buyer leg picks are.right step made each i x c in
        let b = tells feed buyer leg picks are.right step made each j y c' in
        apart i j (leg_taken x) lt a.0 (b.0 ∙ ap (λ (m : Move). Some (leg_taken m)) (sym same)));
  }

-- ---- a first leg

module _ (feed : FeedRows) (buyer : Buyer) (leg : LegFacts) where
  pub first_of : (pick : LegChoice) → is_leg_choice feed buyer leg pick ≡ true → AreOf (move_of_first feed buyer leg) pick (first_made feed (times_of leg) pick)
  first_of pick paid = by (chosen_leg feed leg pick) refl
    where
      only : (m x : Move) → Contains (m ∷ []) x → m ≡ x
      only m x (zero, lt, is) = is
      only m x (suc k, lt, is) = absurd (omega (arith, lt))

      by : (o : Option FareLeg) → chosen_leg feed leg pick ≡ o →
          AreOf (move_of_first feed buyer leg) pick (option_map_or (λ first. first_move feed first (bare pick None) ∷ []) o [])
      by None chosen = record {
        right = λ move (k, lt, e). absurd (omega (arith, lt));
        all = λ move is same. let m = first_tells feed buyer leg move is in absurd (none-some m.first (sym chosen ∙ ap (chosen_leg feed leg) (sym same) ∙ m.chosen));
        once = λ i j d lt lt'. absurd (omega (arith, lt'));
      }
      by (Some first) chosen = record {
        right = λ move c.
            let same = only (first_move feed first (bare pick None)) move c in (
              ap leg_taken (sym same),
              subst (λ (m : Move). move_of_first feed buyer leg m ≡ Some m) same
                  (sym (first_when feed buyer leg (first_move feed first (bare pick None)) first true chosen (rw paid refl))),
            );
        all = λ move is same.
            let m = first_tells feed buyer leg move is in
            let legs : m.first ≡ first = same_Some m.first first (sym m.chosen ∙ ap (chosen_leg feed leg) same ∙ chosen) in (
              0,
              omega arith,
              ap (λ (p : LegChoice). first_move feed first (bare p None)) (sym same) ∙ sym (first_is_bare feed first move m.no_change m.whole)
                  ∙ ap (λ (f : FareLeg). first_move feed f move) (sym legs) ∙ m.follows,
            );
        once = λ i j d lt lt'. absurd (omega (arith, lt, lt'));
      }

  pub starts_are : (picks : List LegChoice) (moves : List Move) → ArePicks feed buyer leg picks →
      moves ≡ joined_below (length picks) (made_at (first_made feed (times_of leg)) picks) → AreMovesAfter feed buyer None (pos 0) leg moves
  starts_are picks moves are is =
      subst (AreMovesAfter feed buyer None (pos 0) leg) (sym is)
      (let all = all_made feed buyer leg picks are (move_of_first feed buyer leg) (first_made feed (times_of leg)) first_of (λ move e. (first_tells feed buyer leg move e).paid_leg) in
      record { right = all.right; all = all.all; once = all.once })

-- ---- a leg after a state

-- what a bare move takes
pub place_of_bare : (pick : LegChoice) (place : Option ChangeChoice) → place_taken (bare pick place) ≡ place
place_of_bare pick None = refl
place_of_bare pick (Some c) = refl

pub whole_bare : (pick : LegChoice) (place : Option ChangeChoice) → is_whole (bare pick place) ≡ true
whole_bare pick None = refl
whole_bare pick (Some c) = refl

-- different items are made different by what keeps them apart
once_map : {X Y : Type 0} (g : X → Y) (back : Y → X) (xs : List X) → ((x : X) → back (g x) ≡ x) → AllPairs (λ (a b : X). a ≢ b) xs →
    AllPairs (λ (a b : Y). a ≢ b) (map g xs)
once_map {X} {Y} g back xs same once i j d lt lt' equal =
    by (slice_get xs i) (slice_get xs j) refl refl
  where
    long : length (map g xs) ≡ length xs
    long = simp length-map

    within : j < length xs
    within = omega (arith, lt', long)

    at : (k : ℕ) → k < length (map g xs) → option_map g (slice_get xs k) ≡ Some (get_or (map g xs) k d)
    at k in_list = sym (slice_get-map g xs k) ∙ slice_get-get_or (map g xs) k d in_list

    by : (o p : Option X) → slice_get xs i ≡ o → slice_get xs j ≡ p → ⊥
    by None p is is' = none-some _ (sym (ap (option_map g) is) ∙ at i (omega (arith, lt, lt')))
    by (Some x) None is is' = none-some _ (sym (ap (option_map g) is') ∙ at j lt')
    by (Some x) (Some y) is is' =
        let a : g x ≡ get_or (map g xs) i d = same_Some _ _ (sym (ap (option_map g) is) ∙ at i (omega (arith, lt, lt'))) in
        let b : g y ≡ get_or (map g xs) j d = same_Some _ _ (sym (ap (option_map g) is') ∙ at j lt') in
        let items : x ≡ y = sym (same x) ∙ ap back (a ∙ equal ∙ sym b) ∙ same y in
        once i j x lt within
        (same_Some _ _ (sym (slice_get-get_or xs i x (omega (arith, lt, within))) ∙ is ∙ ap Some items ∙ sym is' ∙ slice_get-get_or xs j x within))

module _ (feed : FeedRows) (buyer : Buyer) (state : FareState) (held : ℤ) (leg : LegFacts) where
  -- a whole move takes what a bare one does
  pub next_is_bare : (next : FareLeg) (move : Move) → is_whole move ≡ true →
      next_move feed state held next move ≡ next_move feed state held next (bare (leg_taken move) (place_taken move))
  next_is_bare next move whole = by move.xfer move.xfer_product whole
    where
      by : (x : Option XferId) (row : Option ProductRowId) → (if is_none x then is_none row else true) ≡ true →
          next_move feed state held next (record move { xfer = x; xfer_product = row })
          ≡ next_move feed state held next (bare (leg_taken move) (place_by x row))
      by None None whole = refl
      by None (Some row) whole = absurd (let no : false ≡ true = whole in cc)
      by (Some x) row whole = refl

  -- a bare move, with what follows
  abbrev pub full : FareLeg → LegChoice → Option ChangeChoice → Move
  full next pick place = next_move feed state held next (bare pick place)

  pub full_again : (next : FareLeg) (pick : LegChoice) (place : Option ChangeChoice) → next_move feed state held next (full next pick place) ≡ full next pick place
  full_again next pick None = refl
  full_again next pick (Some c) = refl

  pub all_true : (a b c : Bool) → a ≡ true → b ≡ true → c ≡ true → true ≡ (a && b && c)
  all_true a b c e f g = rw (e, f, g) refl

  pub next_of : (pick : LegChoice) → is_leg_choice feed buyer leg pick ≡ true → AreOf (move_of_next feed buyer state held leg) pick (next_made feed buyer state held (times_of leg) pick)
  next_of pick paid = by (chosen_leg feed leg pick) refl
    where
      by : (o : Option FareLeg) → chosen_leg feed leg pick ≡ o →
          AreOf (move_of_next feed buyer state held leg) pick
          (option_map_or (λ next. map (full next pick) (place_list feed buyer (asked_after state next))) o [])
      by None chosen = record {
        right = λ move (k, lt, e). absurd (omega (arith, lt));
        all = λ move is same. let m = next_tells feed buyer state held leg move is in absurd (none-some m.next (sym chosen ∙ ap (chosen_leg feed leg) (sym same) ∙ m.chosen));
        once = λ i j d lt lt'. absurd (omega (arith, lt'));
      }
      by (Some next) chosen =
          let places = are_places feed buyer (asked_after state next) in
          record {
            right = λ move c.
                let f = map-tells (full next pick) (place_list feed buyer (asked_after state next)) move c in
                let at = slice_get-Contains (place_list feed buyer (asked_after state next)) f.0 f.1 in
                let right_place = All-slice_get (λ (p : Option ChangeChoice). is_place_after feed buyer (asked_after state next) p ≡ true) (place_list feed buyer (asked_after state next)) at.0 f.0 at.1 places.right in (
                  ap leg_taken (sym f.2),
                  subst (λ (m : Move). move_of_next feed buyer state held leg m ≡ Some m) f.2
                      (sym (next_when feed buyer leg (full next pick f.0) state held next true chosen
                      (all_true _ _ _ paid (ap (is_place_after feed buyer (asked_after state next)) (place_of_bare pick f.0) ∙ right_place) (whole_bare pick f.0)))
                      ∙ ap Some (full_again next pick f.0)),
                );
            all = λ move is same.
                let m = next_tells feed buyer state held leg move is in
                let legs : m.next ≡ next = same_Some m.next next (sym m.chosen ∙ ap (chosen_leg feed leg) same ∙ chosen) in
                let right_place = subst (λ (x : FareLeg). is_place_after feed buyer (asked_after state x) (place_taken move) ≡ true) legs m.right_place in
                let is_full : full next pick (place_taken move) ≡ move =
                ap (λ (p : LegChoice). full next p (place_taken move)) (sym same) ∙ sym (next_is_bare next move m.whole)
                ∙ ap (λ (x : FareLeg). next_move feed state held x move) (sym legs) ∙ m.follows in
                subst (Contains (map (full next pick) (place_list feed buyer (asked_after state next)))) is_full
                (Contains-map (full next pick) (place_list feed buyer (asked_after state next)) (place_taken move) (places.all (place_taken move) right_place));
            once = once_map (full next pick) place_taken (place_list feed buyer (asked_after state next)) (place_of_bare pick) places.once;
          }

  pub steps_are : (picks : List LegChoice) (moves : List Move) → ArePicks feed buyer leg picks →
      moves ≡ joined_below (length picks) (made_at (next_made feed buyer state held (times_of leg)) picks) → AreMovesAfter feed buyer (Some state) held leg moves
  steps_are picks moves are is =
      subst (AreMovesAfter feed buyer (Some state) held leg) (sym is)
      (let all = all_made feed buyer leg picks are (move_of_next feed buyer state held leg) (next_made feed buyer state held (times_of leg)) next_of (λ move e. (next_tells feed buyer state held leg move e).paid_leg) in
      record { right = all.right; all = all.all; once = all.once })

-- a leg that was chosen has these moments
module _ (feed : FeedRows) (buyer : Buyer) (state : FareState) (held : ℤ) (times : LegTimes) where
  pub chosen_moments : (pick : LegChoice) (next : GroupedLeg) → Some (leg_of next) ≡ chosen_at feed times pick →
      leg_of next ≡ leg_by times next.group
  chosen_moments pick next is = by (slice_get feed.leg_rules pick.rule.0) is
    where
      by : (o : Option LegRuleRow) → Some (leg_of next) ≡ option_map (λ (rule : LegRuleRow). leg_by times rule.group) o →
          leg_of next ≡ leg_by times next.group
      by None e = absurd (cc)
      by (Some rule) e =
          let same : leg_of next ≡ leg_by times rule.group = same_Some _ _ e in
          same ∙ ap (leg_by times) (sym (ap (λ (l : FareLeg). l.group) same))

  -- the moves by the places of the change to it
  pub made_by_places : (pick : LegChoice) (next : GroupedLeg) (places : List (Option ChangeChoice)) →
      Some (leg_of next) ≡ chosen_at feed times pick → HasPlaces feed buyer state times places next.group →
      map (λ place. next_move feed state held (leg_of next) (bare pick place)) places ≡ next_made feed buyer state held times pick
  made_by_places pick next places chosen has =
      let places_of = λ (l : FareLeg). place_list feed buyer (asked_after state l) in
      let by_places = λ (l : FareLeg). map (λ (place : Option ChangeChoice). next_move feed state held l (bare pick place)) in
      ap (by_places (leg_of next)) (has ∙ ap places_of (sym (chosen_moments pick next chosen)))
      ∙ ap (λ (o : Option FareLeg). option_map_or (λ l. by_places l (places_of l)) o []) chosen

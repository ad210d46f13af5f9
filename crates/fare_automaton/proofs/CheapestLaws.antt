-- One move for each option, that costs least, is enough.
use Rattle.std.proofs.Common.{◌≡◌, refl, sym, ◌∙◌, ap, subst, ℕ, zero, suc, ◌+◌, ◌<◌, Bool, true, false, not, List, [], ◌∷◌, ◌++◌, length, take, get_or, arith, ℤ, ◌+ℤ◌, ◌≤ℤ◌}
use Rattle.std.specs.Prelude.{if◌then◌else◌, Option, Some, None, is_none, pos, map, option_map, slice_get, All, Contains, MatchOption}
use Rattle.std.specs.Option.{is_some}
use Rattle.std.proofs.lemmas.Int.{ints}
use Rattle.std.proofs.lemmas.List.{take_all, append-nil, length-map}
use Rattle.std.proofs.lemmas.List.Elements.{All-append, All-contains, All-weaker, Contains-append_left, Contains-append_right}
use Rattle.std.proofs.lemmas.Option.{slice_get-get_or, slice_get-map}
use Rattle.feed_rows.specs.declared.journeys.Buyer.{Buyer}
use Rattle.feed_rows.specs.declared.fares.ChangeChoice.{ChangeChoice}
use Rattle.feed_rows.specs.declared.fares.LegChoice.{LegChoice}
use Rattle.feed_rows.specs.declared.journeys.LegFacts.{LegFacts}
use Rattle.feed_rows.specs.declared.rows.TransferRuleRow.{TransferRuleRow}
use Rattle.feed_rows.specs.declared.states.FareState.{FareState}
use Rattle.feed_rows.specs.declared.states.Move.{Move}
use Rattle.feed_rows.specs.FeedRows.{FeedRows}
use Rattle.feed_rows.specs.FareSteps.{next_held, place_kind, is_arranged_after, is_place_after, is_row_after, move_after, next_move}
use Rattle.feed_rows.specs.FareSums.{amount_of}
use Rattle.feed_rows.specs.TransferRules.{AskedChange, FareLeg}
use Rattle.plain_laws.specs.Lesser.{IsLeastBy}
use Rattle.plain_laws.specs.Plain.{filled_and, joined_below}
use Rattle.plain_laws.proofs.LesserLaws.{lesser_more}
use Rattle.plain_laws.proofs.Laws.{All-from, Contains-map, filled_and-true, map-tells}
use Rattle.fare_laws.specs.BareMoves.{bare}
use Rattle.feed_rows.specs.Amounts.{spent_by}
use Rattle.fare_laws.proofs.AmountLaws.{no_dearer-trans}
use Rattle.fare_automaton.specs.Fewest.{AddsFewer, AreAlike, AreEnoughMoves, AreFewerMoves, HasLesserMove, IsLesserMove}
use Rattle.fare_automaton.specs.declared.cheapest.PaidPlace.{PaidPlace}
use Rattle.fare_automaton.specs.Cheapest.{cheaper, paid_by, paid_place}
use Rattle.fare_automaton.specs.Options.{made_at, place_list}
use Rattle.fare_automaton.proofs.MadeLaws.{made_of}
use Rattle.fare_automaton.proofs.OptionLaws.{are_places, arranged_by}

-- ---- the least of some

-- what is paid by the place of a list
abbrev pub paid_of : PaidPlace → ℤ
paid_of one = one.paid.0

-- it is one of all, and no more is paid by it than by each of the first of them
abbrev pub IsLeastOf : List PaidPlace → List PaidPlace → PaidPlace → Type 0
IsLeastOf = IsLeastBy paid_of

module _ (feed : FeedRows) (held amount : ℤ) where
  abbrev pub with_paid : Option ChangeChoice → PaidPlace
  with_paid place = paid_place feed held amount place

  -- less is paid by it than by each of the others
  abbrev pub IsCheapest : List (Option ChangeChoice) → Option ChangeChoice → Type 0
  IsCheapest places place = Contains places place
      × All (λ (other : Option ChangeChoice). paid_by feed held amount place ≤ℤ paid_by feed held amount other) places

  -- the cheapest of the places so far
  abbrev pub IsLeastSoFar : List (Option ChangeChoice) → ℕ → Option PaidPlace → Type 0
  IsLeastSoFar places i least =
      MatchOption least (i ≡ 0) (IsLeastOf (map with_paid places) (take i (map with_paid places)))

  -- and of one more
  pub least_more : (places : List (Option ChangeChoice)) (i : ℕ) (d : Option ChangeChoice) (least : Option PaidPlace) → i < length places →
      IsLeastSoFar places i least → IsLeastOf (map with_paid places) (take (i + 1) (map with_paid places)) (cheaper least (with_paid (get_or places i d)))
  least_more places i d least lt before =
      lesser_more paid_of (map with_paid places) i (with_paid (get_or places i d)) least
      (slice_get-map with_paid places i ∙ ap (option_map with_paid) (slice_get-get_or places i d lt)) before

  -- one of all
  pub least_of_all : (places : List (Option ChangeChoice)) (n : ℕ) (found : PaidPlace) → n ≡ length places →
      IsLeastOf (map with_paid places) (take n (map with_paid places)) found → IsCheapest places found.place
  least_of_all places n found long least =
      let long' : length (map with_paid places) ≡ length places = simp length-map in
      let all : take n (map with_paid places) ≡ map with_paid places = take_all n (map with_paid places) (omega (arith, long, long')) in
      let one = map-tells with_paid places found least.0 in
      let same : one.0 ≡ found.place = ap (λ (p : PaidPlace). p.place) one.2 in
      let every = subst (All (λ y. paid_of found ≤ℤ paid_of y)) all least.1 in
      subst (IsCheapest places) same (
        one.1,
        All-from (λ (other : Option ChangeChoice). paid_by feed held amount one.0 ≤ℤ paid_by feed held amount other) places (λ other at.
            subst (λ (p : PaidPlace). paid_of p ≤ℤ paid_by feed held amount other) (sym one.2)
            (All-contains (λ y. paid_of found ≤ℤ paid_of y) (map with_paid places) (with_paid other) every (Contains-map with_paid places other at))),
      )

-- ---- fewer moves

pub fewer_none : AreFewerMoves [] []
fewer_none = record { from = λ k d lt. absurd (omega (arith, lt)); each = λ k d lt. absurd (omega (arith, lt)) }

-- of each of two lists fewer
pub fewer_both : (xs ys few less : List Move) → AreFewerMoves xs few → AreFewerMoves ys less → AreFewerMoves (xs ++ ys) (few ++ less)
fewer_both xs ys few less a b = record {
  from = All-append (Contains (xs ++ ys)) few less
      (All-weaker (Contains xs) (Contains (xs ++ ys)) (λ m at. Contains-append_left xs ys m at) few a.from)
      (All-weaker (Contains ys) (Contains (xs ++ ys)) (λ m at. Contains-append_right xs ys m at) less b.from);
  each = All-append (HasLesserMove (few ++ less)) xs ys
      (All-weaker (HasLesserMove few) (HasLesserMove (few ++ less)) (λ m has. (has.0, Contains-append_left few less has.0 has.1, has.2)) xs a.each)
      (All-weaker (HasLesserMove less) (HasLesserMove (few ++ less)) (λ m has. (has.0, Contains-append_right few less has.0 has.1, has.2)) ys b.each);
}

-- one option more
pub fewer_more : (made : LegChoice → List Move) (picks : List LegChoice) (i : ℕ) (d : LegChoice) (before now : List Move) → i < length picks →
    AreFewerMoves (joined_below i (made_at made picks)) before → AddsFewer (made (get_or picks i d)) before now →
    AreFewerMoves (joined_below (i + 1) (made_at made picks)) now
fewer_more made picks i d before now lt few adds =
    let next : suc i ≡ i + 1 = omega arith in
    subst (AreFewerMoves (joined_below (i + 1) (made_at made picks))) (sym adds.adds)
    (subst (λ (n : ℕ). AreFewerMoves (joined_below n (made_at made picks)) (before ++ adds.added)) next
    (fewer_both (joined_below i (made_at made picks)) (made_at made picks i) before adds.added few
    (subst (λ (xs : List Move). AreFewerMoves xs adds.added)
    (sym (made_of made picks i (get_or picks i d) (slice_get-get_or picks i d lt))) adds.fewer)))

-- nothing is added where there is nothing
pub adds_none : (moves before : List Move) → moves ≡ [] → AddsFewer moves before before
adds_none moves before none = record {
  added = [];
  adds = sym (append-nil before);
  fewer = subst (λ (xs : List Move). AreFewerMoves xs []) (sym none) fewer_none;
}

-- what costs no more than one that costs no more
lesser_through : (a b c : Move) → IsLesserMove a b → IsLesserMove b c → IsLesserMove a c
lesser_through a b c ab bc = record {
  state = ab.state ∙ bc.state;
  cost = no_dearer-trans (spent_by a) (spent_by b) (spent_by c) ab.cost bc.cost;
}

-- fewer of enough moves are enough
pub enough_fewer : (feed : FeedRows) (buyer : Buyer) (state : Option FareState) (held : ℤ) (leg : LegFacts) (moves fewer : List Move) →
    AreEnoughMoves feed buyer state held leg moves → AreFewerMoves moves fewer → AreEnoughMoves feed buyer state held leg fewer
enough_fewer feed buyer state held leg moves fewer are few = record {
  right = All-weaker (Contains moves) (λ move. move_after feed buyer state held leg move ≡ Some move)
      (λ move at. All-contains (λ move. move_after feed buyer state held leg move ≡ Some move) moves move are.right at) fewer few.from;
  enough = λ move is.
      let first = are.enough move is in
      let less = All-contains (HasLesserMove fewer) moves first.0 few.each first.1 in
      (less.0, less.1, lesser_through less.0 first.0 move less.2 first.2);
}

-- ---- places of a change

-- what a place says of its change
record Tells (feed : FeedRows) (arranged : Bool) (place : Option ChangeChoice) : Type 0 where
  pub filled : is_some place ≡ arranged
  pub kind : is_none (place_kind feed place) ≡ not arranged

module _ (feed : FeedRows) (buyer : Buyer) where
  unarranged : (b : Bool) → not b ≡ true → false ≡ b
  unarranged false e = refl
  unarranged true e = absurd (let no : false ≡ true = e in cc)

  tells : (change : Option AskedChange) (place : Option ChangeChoice) → is_place_after feed buyer change place ≡ true →
      Tells feed (filled_and change (is_arranged_after feed)) place
  unfolding is_row_after
  tells change None holds = record { filled = unarranged _ holds; kind = sym holds }
  tells None (Some pick) holds = absurd (let no : false ≡ true = holds in cc)
  tells (Some change) (Some pick) holds =
      let row = filled_and-true (slice_get feed.transfer_rules pick.rule.0) _ holds in
      let arranged = arranged_by feed buyer change pick holds in
      record {
        filled = sym arranged;
        kind = ap (λ (o : Option TransferRuleRow). is_none (option_map (λ (r : TransferRuleRow). r.kind) o)) row.is ∙ ap not (sym arranged);
      }

  -- the places of a change are alike
  pub places_alike : (change : Option AskedChange) (places : List (Option ChangeChoice)) → places ≡ place_list feed buyer change → AreAlike feed places
  places_alike change places is a b has_a has_b =
      let at = λ (place : Option ChangeChoice) (has : Contains places place).
      tells change place
      (All-contains (λ p. is_place_after feed buyer change p ≡ true) (place_list feed buyer change) place (are_places feed buyer change).right
      (subst (λ (ps : List (Option ChangeChoice)). Contains ps place) is has)) in
      ((at a has_a).filled ∙ sym (at b has_b).filled, (at a has_a).kind ∙ sym (at b has_b).kind)

-- ---- moves by places

module _ (feed : FeedRows) (state : FareState) (held : ℤ) (next : FareLeg) (pick : LegChoice) where
  abbrev pub by_place : Option ChangeChoice → Move
  by_place place = next_move feed state held next (bare pick place)

  sum_le : (p q h k : ℤ) → p ≤ℤ q → h ≡ k → (p +ℤ h) ≤ℤ (q +ℤ k)
  sum_le p q h k le same = omega (arith, ints, le, same)

  held_same : (a b : Option ChangeChoice) → is_none (place_kind feed a) ≡ is_none (place_kind feed b) →
      next_held (place_kind feed a) (amount_of feed pick.product) ≡ next_held (place_kind feed b) (amount_of feed pick.product)
  held_same a b same = ap (λ (none : Bool). if none then amount_of feed pick.product else pos 0) same

  -- of two places that are alike the one by which less is paid makes a move that costs no more
  lesser_place : (a b : Option ChangeChoice) → is_some a ≡ is_some b → is_none (place_kind feed a) ≡ is_none (place_kind feed b) →
      paid_by feed held (amount_of feed pick.product) a ≤ℤ paid_by feed held (amount_of feed pick.product) b → IsLesserMove (by_place a) (by_place b)
  lesser_place None None filled kind le = record { state = refl; cost = record { paid = le; price = sum_le _ _ _ _ le (held_same None None kind) } }
  lesser_place (Some x) (Some y) filled kind le =
      record { state = refl; cost = record { paid = le; price = sum_le _ _ _ _ le (held_same (Some x) (Some y) kind) } }
  lesser_place None (Some y) filled kind le = absurd (let no : false ≡ true = filled in cc)
  lesser_place (Some x) None filled kind le = absurd (let no : false ≡ true = sym filled in cc)

  -- the move by a place by which least is paid is enough
  pub fewer_by_place : (places : List (Option ChangeChoice)) (place : Option ChangeChoice) → AreAlike feed places →
      IsCheapest feed held (amount_of feed pick.product) places place →
      AreFewerMoves (map by_place places) (by_place place ∷ [])
  fewer_by_place places place alike least = record {
    from = λ k d lt. only k d lt;
    each = All-from (HasLesserMove (by_place place ∷ [])) _ (λ m c.
        let one = map-tells by_place places m c in
        let same = alike place one.0 least.0 one.1 in (
          by_place place,
          (0, omega arith, refl),
          subst (IsLesserMove (by_place place)) one.2
              (lesser_place place one.0 same.0 same.1
              (All-contains (λ p. paid_by feed held (amount_of feed pick.product) place ≤ℤ paid_by feed held (amount_of feed pick.product) p) places one.0 least.1 one.1)),
        ));
  }
    where
      only : (k : ℕ) (d : Move) → k < length (by_place place ∷ []) → Contains (map by_place places) (get_or (by_place place ∷ []) k d)
      only zero d lt = Contains-map by_place places place least.0
      only (suc k) d lt = absurd (omega (arith, lt))

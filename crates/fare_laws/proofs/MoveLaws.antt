-- What moves are, step by step, and bounds of counts.
use Rattle.std.proofs.Common.{◌≡◌, refl, ◌∙◌, ℕ, ◌+◌, suc, ◌≤◌, Bool, true, false, ◌&&◌, List, [], ◌∷◌, arith}
use Rattle.std.specs.Prelude.{◌==◌, if◌then◌else◌, Option, Some, None, is_none, ℤ, pos, ◌+ℤ◌, slice_get, map, fold, max, option_map, option_and_then}
use Rattle.std.specs.Option.{unwrap_or, is_some, ForSome}
use Rattle.std.proofs.lemmas.Bool.{and_parts}
use Rattle.std.proofs.lemmas.Int.{ints}
use Rattle.std.proofs.lemmas.Option.{none-some, cond_some}
use Rattle.transit_base.specs.declared.numbers.LegGroupId.{LegGroupId}
use Rattle.transit_base.specs.declared.numbers.ProductRowId.{ProductRowId}
use Rattle.transit_base.specs.declared.numbers.XferId.{XferId}
use Rattle.feed_rows.specs.declared.journeys.Buyer.{Buyer}
use Rattle.feed_rows.specs.declared.fares.ChangeChoice.{ChangeChoice}
use Rattle.feed_rows.specs.declared.journeys.LegFacts.{LegFacts}
use Rattle.feed_rows.specs.declared.rows.TransferRuleRow.{TransferRuleRow}
use Rattle.feed_rows.specs.declared.states.FareState.{FareState}
use Rattle.feed_rows.specs.declared.states.Move.{Move}
use Rattle.feed_rows.specs.FeedRows.{FeedRows}
use Rattle.feed_rows.specs.SoundFares.{AreSoundTransferRules}
use Rattle.feed_rows.specs.TransferRules.{FareLeg, same_group}
use Rattle.feed_rows.specs.FareChoices.{chosen_leg, is_leg_choice}
use Rattle.feed_rows.specs.FareSteps.{next_paid, leg_taken, place_taken, is_whole, asked_after, is_place_after, first_move, next_move, next_state, move_of_first, move_of_next}
use Rattle.feed_rows.specs.FareStates.{is_within, capped_count, count_within, greatest_count, state_of_run}
use Rattle.plain_laws.specs.Plain.{when}
use Rattle.fare_laws.specs.BareMoves.{bare}
use Rattle.feed_laws.proofs.FareLaws.{same_group-equal}
use Rattle.plain_laws.proofs.Laws.{All-slice_get}

-- ---- sums

-- what a change that includes no leg adds
pub paid_both : (h a c : ℤ) (code : ℕ) → (code == 2) ≡ false → (code == 0) ≡ false →
    h +ℤ c +ℤ a ≡ next_paid (pos 0) h (Some code) a c
paid_both h a c code e f = rw (e, f) (omega (arith, ints))

-- a sum that is another
pub with_sum : (a b z : ℤ) → b ≡ z → a ≡ b → a ≡ z
with_sum a b z e f = f ∙ e

-- ---- counts

-- the greatest of numbers that are at most m is so too
greatest_low : {X : Type 0} (f : X → ℕ) (xs : List X) (m a : ℕ) → a ≤ m → ((i : ℕ) (x : X) → slice_get xs i ≡ Some x → f x ≤ m) →
    fold max a (map f xs) ≤ m
greatest_low f [] m a le each = le
greatest_low f (x ∷ xs) m a le each =
    let here = each 0 x refl in
    greatest_low f xs m (max a (f x)) (omega (arith, le, here)) (λ i y is. each (suc i) y is)

-- counts of a sound feed are below 2 ^ 31
pub greatest_count-low : (feed : FeedRows) (group : LegGroupId) → AreSoundTransferRules feed → greatest_count feed group ≤ 2_147_483_647
unfolding greatest_count
greatest_count-low feed group sound =
    greatest_low (count_within feed group) feed.transfer_rules 2_147_483_647 0 (omega arith)
    (λ i row is. low row (is_within feed group row) (All-slice_get (λ r. ForSome r.count (λ n. (1 ≤ n) × (n ≤ 2_147_483_647))) feed.transfer_rules i row is sound.counts))
  where
    low_count : (o : Option ℕ) → ForSome o (λ n. (1 ≤ n) × (n ≤ 2_147_483_647)) → unwrap_or o 0 ≤ 2_147_483_647
    low_count None within = omega arith
    low_count (Some n) within = (within n refl).1

    low : (row : TransferRuleRow) (b : Bool) → ForSome row.count (λ n. (1 ≤ n) × (n ≤ 2_147_483_647)) → (if b then unwrap_or row.count 0 else 0) ≤ 2_147_483_647
    low row true within = low_count row.count within
    low row false within = omega arith

-- ---- moves

module _ (feed : FeedRows) (buyer : Buyer) (leg : LegFacts) (taken : Move) where
  -- without a rule there is no move
  pub first_none : chosen_leg feed leg (leg_taken taken) ≡ None → None ≡ move_of_first feed buyer leg taken
  unfolding move_of_first
  first_none none = rw none refl

  -- with a rule the move is there where it is an option
  pub first_when : (first : FareLeg) (b : Bool) → chosen_leg feed leg (leg_taken taken) ≡ Some first →
      b ≡ (is_leg_choice feed buyer leg (leg_taken taken) && is_none (place_taken taken) && is_whole taken) →
      when b (first_move feed first taken) ≡ move_of_first feed buyer leg taken
  unfolding move_of_first
  first_when first b is test = rw (is, test) refl

  pub next_none : (state : FareState) (held : ℤ) → chosen_leg feed leg (leg_taken taken) ≡ None →
      None ≡ move_of_next feed buyer state held leg taken
  unfolding move_of_next
  next_none state held none = rw none refl

  pub next_when : (state : FareState) (held : ℤ) (next : FareLeg) (b : Bool) → chosen_leg feed leg (leg_taken taken) ≡ Some next →
      b ≡ (is_leg_choice feed buyer leg (leg_taken taken) && is_place_after feed buyer (asked_after state next) (place_taken taken) && is_whole taken) →
      when b (next_move feed state held next taken) ≡ move_of_next feed buyer state held leg taken
  unfolding move_of_next
  next_when state held next b is test = rw (is, test) refl

-- ---- what a move tells

-- the place by a row and a product row
abbrev pub place_by : Option XferId → Option ProductRowId → Option ChangeChoice
place_by x row = option_map (λ r. record { rule = r; product = row }) x

-- a move without a change takes what a bare one does
pub first_is_bare : (feed : FeedRows) (first : FareLeg) (move : Move) → is_none (place_taken move) ≡ true → is_whole move ≡ true →
    first_move feed first move ≡ first_move feed first (bare (leg_taken move) None)
first_is_bare feed first move none whole = by move.xfer move.xfer_product none whole
  where
    by : (x : Option XferId) (row : Option ProductRowId) →
        is_none (place_by x row) ≡ true → (if is_none x then is_none row else true) ≡ true →
        first_move feed first (record move { xfer = x; xfer_product = row }) ≡ first_move feed first (bare (leg_taken move) None)
    by None None none whole = refl
    by None (Some row) none whole = absurd (let no : false ≡ true = whole in cc)
    by (Some x) row none whole = absurd (let no : false ≡ true = none in cc)

module _ (feed : FeedRows) (buyer : Buyer) (leg : LegFacts) where
  -- what a move of a first leg tells
  pub record IsFirst (move : Move) : Type 0 where
    pub first : FareLeg
    pub chosen : chosen_leg feed leg (leg_taken move) ≡ Some first
    pub paid_leg : is_leg_choice feed buyer leg (leg_taken move) ≡ true
    pub no_change : is_none (place_taken move) ≡ true
    pub whole : is_whole move ≡ true
    pub follows : first_move feed first move ≡ move

  pub first_tells : (move : Move) → move_of_first feed buyer leg move ≡ Some move → IsFirst move
  unfolding move_of_first
  first_tells move is = by (chosen_leg feed leg (leg_taken move)) refl is
    where
      by : (o : Option FareLeg) → chosen_leg feed leg (leg_taken move) ≡ o →
          option_and_then (λ first. when (is_leg_choice feed buyer leg (leg_taken move) && is_none (place_taken move) && is_whole move) (first_move feed first move)) o ≡ Some move →
          IsFirst move
      by None chosen e = absurd (none-some move e)
      by (Some first) chosen e =
          let found = cond_some _ _ _ e in
          let parts = and_parts _ (is_whole move) found.0 in
          let both = and_parts (is_leg_choice feed buyer leg (leg_taken move)) _ parts.0 in
          record { first = first; chosen = chosen; paid_leg = both.0; no_change = both.1; whole = parts.1; follows = found.1 }

module _ (feed : FeedRows) (buyer : Buyer) (state : FareState) (held : ℤ) (leg : LegFacts) where
  -- what a move of a leg after the state tells
  pub record IsNext (move : Move) : Type 0 where
    pub next : FareLeg
    pub chosen : chosen_leg feed leg (leg_taken move) ≡ Some next
    pub paid_leg : is_leg_choice feed buyer leg (leg_taken move) ≡ true
    pub right_place : is_place_after feed buyer (asked_after state next) (place_taken move) ≡ true
    pub whole : is_whole move ≡ true
    pub follows : next_move feed state held next move ≡ move

  pub next_tells : (move : Move) → move_of_next feed buyer state held leg move ≡ Some move → IsNext move
  unfolding move_of_next
  next_tells move is = by (chosen_leg feed leg (leg_taken move)) refl is
    where
      by : (o : Option FareLeg) → chosen_leg feed leg (leg_taken move) ≡ o →
          option_and_then (λ next. when (is_leg_choice feed buyer leg (leg_taken move) && is_place_after feed buyer (asked_after state next) (place_taken move) && is_whole move)
          (next_move feed state held next move)) o ≡ Some move → IsNext move
      by None chosen e = absurd (none-some move e)
      by (Some next) chosen e =
          let found = cond_some _ _ _ e in
          let parts = and_parts _ (is_whole move) found.0 in
          let both = and_parts (is_leg_choice feed buyer leg (leg_taken move)) _ parts.0 in
          record { next = next; chosen = chosen; paid_leg = both.0; right_place = both.1; whole = parts.1; follows = found.1 }

-- ---- the state after a leg

-- it has the group of the leg's rule
pub next_group : (feed : FeedRows) (state : FareState) (next : FareLeg) (place : Option ChangeChoice) →
    (next_state feed state next place).group ≡ next.group
next_group feed state next place = by (same_group state.group next.group && is_some place) refl
  where
    by : (b : Bool) → (same_group state.group next.group && is_some place) ≡ b →
        (if b
        then record state { count = capped_count feed state.group (state.count + 1); first = false }
        else state_of_run feed next.group 0 next (is_none place)).group ≡ next.group
    by true is =
        same_group-equal state.group next.group (and_parts (same_group state.group next.group) (is_some place) is).0
    by false is = refl

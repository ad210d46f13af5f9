-- The levels, one after another, and what they tell together.
use Rattle.std.proofs.Common.{◌≡◌, refl, sym, ◌∙◌, ap, subst, ℕ, ◌+◌, ◌<◌, ◌≤◌, ◌⊎◌, inl, inr, Bool, true, false, List, [], ◌∷◌, ◌++◌, length, map, get_or, arith}
use Rattle.std.specs.Prelude.{Option, Some, None, slice_get, ℤ, pos, ◌+ℤ◌, ◌≤ℤ◌}
use Rattle.std.specs.Int.{int_min}
use Rattle.std.specs.Option.{option_map_or}
use Rattle.std.proofs.lemmas.Bool.{cases_lt}
use Rattle.std.proofs.lemmas.Int.{ints}
use Rattle.std.proofs.Math.ListN.{get_or-map}
use Rattle.std.proofs.lemmas.Option.{same_Some, get_or_from_slice_get, slice_get_within, slice_get_cases, slice_get-get_or}
use Rattle.std.proofs.lemmas.List.{length_push}
use Rattle.plain_laws.proofs.Laws.{slice_get-append_left, slice_get-push_last}
use Rattle.feed_rows.specs.declared.journeys.Buyer.{Buyer}
use Rattle.feed_rows.specs.declared.journeys.LegFacts.{LegFacts}
use Rattle.feed_rows.specs.declared.states.FareState.{FareState}
use Rattle.feed_rows.specs.declared.states.Move.{Move}
use Rattle.feed_rows.specs.FeedRows.{FeedRows}
use Rattle.feed_rows.specs.FareSteps.{move_after}
use Rattle.fare_bounds.specs.declared.least.LeastAmounts.{LeastAmounts}
use Rattle.fare_bounds.specs.declared.level.Level.{Level}
use Rattle.fare_bounds.specs.Payable.{AreLeastAmounts}
use Rattle.fare_bounds.specs.Amounts.{amount_at, place_of, end_by}
use Rattle.fare_bounds.specs.Levels.{end_at, IsNextLevel}
use Rattle.fare_bounds.specs.FareBounds.{least_by, least_in, unknown, AreFareBounds}
use Rattle.fare_bounds.specs.Limits.{AreLimits}
use Rattle.fare_bounds.proofs.AmountLaws.{min_first, min_second, le_trans}
use Rattle.fare_bounds.proofs.StepLaws.{AllCountTo, late_counts, level_step}

-- each of the levels that come next is for one ride more than the level before it
abbrev pub AreNext : FeedRows → Bool → LeastAmounts → List Level → List Level → Type 0
AreNext feed late amounts levels nexts =
    (more : ℕ) (before level : Level) → slice_get levels more ≡ Some before → slice_get nexts (more + 1) ≡ Some level →
    IsNextLevel feed late amounts before level

-- so many levels past the first, and as many for late changes
pub record AreLevels (feed : FeedRows) (amounts : LeastAmounts) (levels lates : List Level) (rides : ℕ) : Type 0 where
  pub long : length levels ≡ rides + 1
  pub late_long : length lates ≡ rides + 1
  pub counted : (more : ℕ) (level : Level) → slice_get levels more ≡ Some level → level.rides ≡ more
  pub next : AreNext feed false amounts levels levels
  pub late : AreNext feed true amounts levels lates

-- where a journey may end so, its end adds nothing
end_none : (lasts : List Bool) (amounts : LeastAmounts) (place : ℕ) → amounts.ends.items ≡ map end_by lasts →
    slice_get lasts place ≡ Some true → end_at amounts place ≡ pos 0
end_none lasts amounts place ends is =
    ap (λ (xs : List ℤ). amount_at xs place) ends ∙ get_or-map end_by lasts place false
    ∙ ap end_by (get_or_from_slice_get lasts place true false is)

-- the bounds are right, where each level is
module _ (feed : FeedRows) (buyer : Buyer) (lasts : List Bool) (amounts : LeastAmounts) (limits : List ℕ)
    (levels lates : List Level) (rides : ℕ) (least : AreLeastAmounts feed buyer amounts)
    (ends : amounts.ends.items ≡ map end_by lasts) (within : AreLimits feed limits)
    (are : AreLevels feed amounts levels lates rides) where
  there : (ls : List Level) → length ls ≡ rides + 1 → (n : ℕ) → n < rides + 1 →
      (level : Level) × (slice_get ls n ≡ Some level)
  there ls long n lt = by (slice_get_cases ls n).1
    where
      by : ((x : Level) × (n < length ls) × (slice_get ls n ≡ Some x) × (get_or ls n x ≡ x))
          ⊎ ((length ls ≤ n) × (slice_get ls n ≡ None)) → (level : Level) × (slice_get ls n ≡ Some level)
      by (inl found) = (found.0, found.2)
      by (inr past) = absurd (let le = past.0 in omega arith)

  told : (ls : List Level) (n : ℕ) (level : Level) → slice_get ls n ≡ Some level →
      (state : Option FareState) (paid held : ℤ) → least_in ls n state paid held ≡ least_by level state paid held
  told ls n level is state paid held = ap (λ o. option_map_or (λ l. least_by l state paid held) o unknown) is

  -- what a move leads to, by the two levels
  module _ (late : Bool) (nexts : List Level) (long : length nexts ≡ rides + 1)
      (follow : AreNext feed late amounts levels nexts) (more : ℕ) (lt : more < rides) (state : Option FareState)
      (paid held : ℤ) (leg : LegFacts) (move : Move) (is : move_after feed buyer state held leg move ≡ Some move)
      (all : AllCountTo feed late state leg) where
    step : least_in nexts (more + 1) state paid held ≤ℤ
        int_min (paid +ℤ move.paid.0 +ℤ move.held.0 +ℤ end_at amounts (place_of move.state.group))
        (least_in levels more (Some move.state) (paid +ℤ move.paid.0) move.held.0)
    step =
        let before = there levels are.long more (omega (arith, lt)) in
        let level = there nexts long (more + 1) (omega (arith, lt)) in
        rw (
          told nexts (more + 1) level.0 level.1 state paid held,
          told levels more before.0 before.1 (Some move.state) (paid +ℤ move.paid.0) move.held.0,
        )
        (level_step feed late buyer amounts before.0 level.0 least
        (follow more before.0 level.0 before.1 level.1) state paid held leg move is all)

    goes_on : least_in nexts (more + 1) state paid held ≤ℤ
        least_in levels more (Some move.state) (paid +ℤ move.paid.0) move.held.0
    goes_on = le_trans _ _ _ step (min_second _ _)

    ends_there : slice_get lasts (place_of move.state.group) ≡ Some true →
        least_in nexts (more + 1) state paid held ≤ℤ (paid +ℤ move.paid.0 +ℤ move.held.0)
    ends_there last =
        le_trans _ _ _ step
        (le_trans _ _ _ (min_first _ _)
        (nothing (paid +ℤ move.paid.0 +ℤ move.held.0) _
        (end_none lasts amounts (place_of move.state.group) ends last)))
      where
        nothing : (x z : ℤ) → z ≡ pos 0 → (x +ℤ z) ≤ℤ x
        nothing x z is = omega (arith, ints, is)

  -- each row counts where the level isn't one for late changes
  each_counts : (state : Option FareState) (leg : LegFacts) → AllCountTo feed false state leg
  each_counts state leg own is next departs arrives change asked number row at selected = refl

  pub bounds_are :
      AreFareBounds feed buyer rides lasts (record { levels = levels; lates = lates; limits = limits })
  bounds_are =
      record {
        on = λ more lt state paid held leg move is.
            goes_on false levels are.long are.next more lt state paid held leg move is (each_counts state leg);
        ends = λ more lt state paid held leg move is last.
            ends_there false levels are.long are.next more lt state paid held leg move is (each_counts state leg) last;
        late_on = λ more lt state paid held leg move is past order.
            goes_on true lates are.late_long are.late more lt state paid held leg move is
            (late_counts feed limits state leg within past order);
        late_ends = λ more lt state paid held leg move is past order last.
            ends_there true lates are.late_long are.late more lt state paid held leg move is
            (late_counts feed limits state leg within past order) last;
      }

-- the first levels alone
pub first_levels : (feed : FeedRows) (amounts : LeastAmounts) (first late : Level) (levels lates : List Level) →
    first.rides ≡ 0 → levels ≡ first ∷ [] → lates ≡ late ∷ [] → AreLevels feed amounts levels lates 0
first_levels feed amounts first late levels lates none made late_made =
    record {
      long = ap length made;
      late_long = ap length late_made;
      counted = λ more level is. by more level (ap (λ ls. slice_get ls more) (sym made) ∙ is)
          (within first levels made more level is);
      next = λ more before level is is_next.
          absurd (let lt = within first levels made (more + 1) level is_next in omega (arith, lt));
      late = λ more before level is is_next.
          absurd (let lt = within late lates late_made (more + 1) level is_next in omega (arith, lt));
    }
  where
    within : (one : Level) (ls : List Level) → ls ≡ one ∷ [] → (more : ℕ) (level : Level) →
        slice_get ls more ≡ Some level → more ≡ 0
    within one ls are more level is =
        let lt = slice_get_within (one ∷ []) more level (ap (λ ls. slice_get ls more) (sym are) ∙ is) in
        omega (arith, lt)

    by : (more : ℕ) (level : Level) → slice_get (first ∷ []) more ≡ Some level → more ≡ 0 → level.rides ≡ more
    by more level is zero_is =
        let same : first ≡ level = same_Some first level (sym (ap (slice_get (first ∷ [])) zero_is) ∙ is) in
        ap (λ (l : Level). l.rides) (sym same) ∙ none ∙ sym zero_is

-- the level with a number below that of the levels is for so many rides
pub level_rides : (feed : FeedRows) (amounts : LeastAmounts) (levels lates : List Level) (n i : ℕ) (level : Level) →
    AreLevels feed amounts levels lates n → i ≡ n → level ≡ get_or levels i level → level.rides ≡ n
level_rides feed amounts levels lates n i level are same at =
    are.counted n level
    (slice_get-get_or levels n level (let long = are.long in omega arith)
    ∙ ap Some (ap (λ (j : ℕ). get_or levels j level) (sym same) ∙ sym at))

-- ---- one level more

-- what a longer list has
within_more : (ls : List Level) (new : Level) (more : ℕ) (level : Level) →
    slice_get (ls ++ new ∷ []) more ≡ Some level → more < length ls + 1
within_more ls new more level is =
    let lt = slice_get_within (ls ++ new ∷ []) more level is in let pushed = length_push ls new in omega arith

-- past the others there is the new one
pushed_is : (ls : List Level) (new : Level) (more : ℕ) (level : Level) →
    slice_get (ls ++ new ∷ []) more ≡ Some level → length ls ≤ more → new ≡ level
pushed_is ls new more level is ge =
    same_Some new level
    (sym (slice_get-push_last ls new more (let lt = within_more ls new more level is in omega arith)) ∙ is)

-- one more of those that come next
next_more : (feed : FeedRows) (late : Bool) (amounts : LeastAmounts) (levels nexts : List Level) (n : ℕ)
    (before after new : Level) → length levels ≡ n + 1 → length nexts ≡ n + 1 →
    slice_get levels n ≡ Some before → AreNext feed late amounts levels nexts →
    IsNextLevel feed late amounts before new → AreNext feed late amounts (levels ++ after ∷ []) (nexts ++ new ∷ [])
next_more feed late amounts levels nexts n before after new long next_long last are follows more b l is_b is_l =
    by (cases_lt (more + 1) (length nexts))
  where
    old : more < length levels → slice_get levels more ≡ Some b
    old lt = sym (slice_get-append_left levels (after ∷ []) more lt) ∙ is_b

    by : (more + 1 < length nexts) ⊎ (length nexts ≤ more + 1) → IsNextLevel feed late amounts b l
    by (inl lt) =
        are more b l (old (omega (arith, lt, long, next_long)))
        (sym (slice_get-append_left nexts (new ∷ []) (more + 1) lt) ∙ is_l)
    by (inr ge) =
        let lt = within_more nexts new (more + 1) l is_l in
        let same : more ≡ n = omega (arith, lt, ge, next_long) in
        let is_before : before ≡ b =
        same_Some before b
        (sym last ∙ ap (slice_get levels) (sym same) ∙ old (omega (arith, same, long))) in
        subst (λ (x : Level). IsNextLevel feed late amounts x l) is_before
        (subst (λ (y : Level). IsNextLevel feed late amounts before y) (pushed_is nexts new (more + 1) l is_l ge)
        follows)

pub levels_more : (feed : FeedRows) (amounts : LeastAmounts) (levels lates longer late_longer : List Level) (n : ℕ)
    (before new late : Level) → AreLevels feed amounts levels lates n → before ≡ get_or levels n before →
    IsNextLevel feed false amounts before new → IsNextLevel feed true amounts before late →
    longer ≡ levels ++ new ∷ [] → late_longer ≡ lates ++ late ∷ [] → AreLevels feed amounts longer late_longer (n + 1)
levels_more feed amounts levels lates longer late_longer n before new late are at follows late_follows made late_made =
    subst (λ (ls : List Level). AreLevels feed amounts ls late_longer (n + 1)) (sym made)
    (subst (λ (ls : List Level). AreLevels feed amounts (levels ++ new ∷ []) ls (n + 1)) (sym late_made)
    (record {
      long = let pushed = length_push levels new in let long = are.long in omega arith;
      late_long = let pushed = length_push lates late in let long = are.late_long in omega arith;
      counted = λ more level is. counted more level is (cases_lt more (length levels));
      next = next_more feed false amounts levels levels n before new new are.long are.long last are.next follows;
      late =
          next_more feed true amounts levels lates n before new late are.long are.late_long last are.late late_follows;
    }))
  where
    last : slice_get levels n ≡ Some before
    last = slice_get-get_or levels n before (let long = are.long in omega arith) ∙ ap Some (sym at)

    counted : (more : ℕ) (level : Level) → slice_get (levels ++ new ∷ []) more ≡ Some level →
        (more < length levels) ⊎ (length levels ≤ more) → level.rides ≡ more
    counted more level is (inl lt) = are.counted more level (sym (slice_get-append_left levels (new ∷ []) more lt) ∙ is)
    counted more level is (inr ge) =
        ap (λ (l : Level). l.rides) (sym (pushed_is levels new more level is ge)) ∙ follows.rides
        ∙ (let of_last = are.counted n before last in let lt = within_more levels new more level is in
        let long = are.long in omega arith)

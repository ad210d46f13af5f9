-- Times of day between which no timeframe starts or ends.
use Rattle.std.proofs.Common.{◌≡◌, refl, sym, ◌∙◌, ap, subst, ℕ, ◌+◌, ◌-◌, ◌<◌, ◌≤◌, ◌⊎◌, ⊎_elim, Bool, true, false, ◌&&◌, ◌==◌, List, [], ◌∷◌, ◌++◌, length, get_or, Contains, ℤ, pos, ◌-ℤ◌, arith}
use Rattle.std.specs.Prelude.{Some, leb, nat_le, nat_lt}
use Rattle.std.specs.List.{AllWithin, list_any}
use Rattle.std.specs.List.Sorted.{IsNonDecreasingBy}
use Rattle.std.proofs.lemmas.Bool.{cases_lt, leb-true, false≢true}
use Rattle.std.proofs.lemmas.Bool.Decides.{nat_tests}
use Rattle.std.proofs.lemmas.Int.{ints}
use Rattle.std.proofs.lemmas.List.Elements.{Contains-append_left, Contains-push, Contains-push_cases}
use Rattle.std.proofs.lemmas.Option.{get_or_from_slice_get, slice_get-get_or}
use Rattle.transit_base.specs.Moments.{civil_day, moment_at, time_of_day}
use Rattle.feed_rows.specs.declared.rows.TimeframeRow.{TimeframeRow}
use Rattle.feed_rows.specs.FeedRows.{FeedRows}
use Rattle.feed_rows.specs.Legs.{frames_at, holds_at, is_within}
use Rattle.feed_laws.proofs.MomentLaws.{civil_day-moment_at, moment_at-parts, time_of_day_bound, time_of_day-moment_at}
use Rattle.plain_laws.proofs.Laws.{Contains-cons_first, Contains-cons_later, picks_below-same, same_test}
use Rattle.fare_timeframes.specs.Cuts.{AreCutsOf, IsCutBefore}

-- a test of some item depends on what it is of the members
pub any_of_members : {X : Type 0} (p q : X → Bool) (xs : List X) → ((x : X) → Contains xs x → p x ≡ q x) → list_any p xs ≡ list_any q xs
any_of_members p q [] same = refl
any_of_members p q (x ∷ xs) same =
    rw (same x (Contains-cons_first x xs), any_of_members p q xs (λ y at. same y (Contains-cons_later x xs y at))) refl

-- times with no start and no end between them lie in the same spans
same_starts : (start time cut : ℕ) → cut ≤ time → (start ≤ time → start ≤ cut) → nat_le start cut ≡ nat_le start time
same_starts start time cut within by = same_test _ _ (λ h. grind (arith, nat_tests, h, within)) (λ h. let le : start ≤ time = grind (arith, nat_tests, h) in let e = by le in grind (arith, nat_tests, e))

same_ends : (end time cut : ℕ) → cut ≤ time → (end ≤ time → end ≤ cut) → nat_lt cut end ≡ nat_lt time end
same_ends end time cut within by =
    ⊎_elim
    (λ (lt : time < end). same_test _ _ (λ h. grind (arith, nat_tests, lt)) (λ h. grind (arith, nat_tests, lt, within)))
    (λ (past : end ≤ time). let e = by past in same_test _ _ (λ h. absurd (grind (arith, nat_tests, h, e))) (λ h. absurd (grind (arith, nat_tests, h, past))))
    (cases_lt time end)

pub frames_by_cut : (feed : FeedRows) (cuts : List ℕ) (at like : ℤ) (cut : ℕ) → AreCutsOf feed cuts → IsCutBefore cuts (time_of_day at) cut →
    like ≡ at -ℤ pos (time_of_day at - cut) → frames_at feed (record { 0 = like }) ≡ frames_at feed (record { 0 = at })
unfolding holds_at
frames_by_cut feed cuts at like cut are is e =
    let bound = time_of_day_bound at in
    let within = is.within in
    let parts = moment_at-parts at in
    let there : moment_at (civil_day at) (pos cut) ≡ like = omega (arith, ints, parts, e, within) in
    let day : civil_day like ≡ civil_day at = ap civil_day (sym there) ∙ civil_day-moment_at (civil_day at) cut (omega (arith, bound, within)) in
    let time : time_of_day like ≡ cut = ap time_of_day (sym there) ∙ time_of_day-moment_at (civil_day at) cut (omega (arith, bound, within)) in
    picks_below-same (length feed.frame_names) (held like) (held at) (λ i. record { 0 = i }) (λ i lt. rw (day, time) (any_of_members (λ row. (row.frame.0 == i) && is_within feed (civil_day at) cut row) (λ row. (row.frame.0 == i) && is_within feed (civil_day at) (time_of_day at) row) feed.timeframes (λ row has.
    rw (same_starts row.start (time_of_day at) cut within (is.same row.start (are.starts row has)), same_ends row.end (time_of_day at) cut within (is.same row.end (are.ends row has))) refl)))
  where
    held : ℤ → ℕ → Bool
    held moment i = holds_at feed (record { 0 = i }) moment

-- the cut before the first that isn't passed
pub cut_at : (cuts : List ℕ) (time i cut : ℕ) → IsNonDecreasingBy (λ (c : ℕ). c) cuts → 0 < i → i ≤ length cuts → cut ≡ get_or cuts (i - 1) 0 →
    AllWithin (λ c. leb c time ≡ true) cuts 0 i → AllWithin (λ c. leb c time ≡ false) cuts i (length cuts) → IsCutBefore cuts time cut
cut_at cuts time i cut up some within e passed left =
    record {
      within = let le = leb-true _ time (passed (i - 1) 0 (omega arith) (omega (arith, some))) in omega (arith, le, e);
      same = λ other at le. ⊎_elim
          (λ (before : at.0 < i). let low = up at.0 (i - 1) 0 (omega (arith, before)) (omega (arith, some, within)) in let here : get_or cuts at.0 0 ≡ other = get_or_from_slice_get cuts at.0 other 0 (slice_get-get_or cuts at.0 other at.1 ∙ ap Some at.2) in omega (arith, low, here, e))
          (λ (past : i ≤ at.0). let off = left at.0 other past at.1 in absurd (false≢true (sym off ∙ ap (λ n. leb n time) at.2 ∙ hit other le)))
          (cases_lt at.0 i);
    }
  where
    hit : (n : ℕ) → n ≤ time → leb n time ≡ true
    hit n le = grind (arith, nat_tests, le)

-- no cut is passed
pub cut_none : (cuts : List ℕ) (time : ℕ) → AllWithin (λ c. leb c time ≡ false) cuts 0 (length cuts) → IsCutBefore cuts time 0
cut_none cuts time left =
    record {
      within = omega arith;
      same = λ other at le. let off = left at.0 other (omega arith) at.1 in absurd (false≢true (sym off ∙ ap (λ n. leb n time) at.2 ∙ hit other le));
    }
  where
    hit : (n : ℕ) → n ≤ time → leb n time ≡ true
    hit n le = grind (arith, nat_tests, le)

-- the start and the end of one timeframe more
pub cuts_more : (rows : List TimeframeRow) (row : TimeframeRow) (cuts : List ℕ) → ((r : TimeframeRow) → Contains rows r → Contains cuts r.start × Contains cuts r.end) →
    (r : TimeframeRow) → Contains (rows ++ row ∷ []) r → Contains ((cuts ++ row.start ∷ []) ++ row.end ∷ []) r.start × Contains ((cuts ++ row.start ∷ []) ++ row.end ∷ []) r.end
cuts_more rows row cuts were r at = ⊎_elim
    (λ (old : Contains rows r). let had = were r old in (Contains-append_left (cuts ++ row.start ∷ []) _ r.start (Contains-append_left cuts _ r.start had.0), Contains-append_left (cuts ++ row.start ∷ []) _ r.end (Contains-append_left cuts _ r.end had.1)))
    (λ (new : row ≡ r). subst (λ (x : TimeframeRow). Contains ((cuts ++ row.start ∷ []) ++ row.end ∷ []) x.start × Contains ((cuts ++ row.start ∷ []) ++ row.end ∷ []) x.end) new
    (Contains-append_left (cuts ++ row.start ∷ []) _ row.start (Contains-push cuts row.start), Contains-push (cuts ++ row.start ∷ []) row.end))
    (Contains-push_cases rows row r at)

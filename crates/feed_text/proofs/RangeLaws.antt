-- What is found or met in a range or a text.
use Rattle.std.proofs.Common.{◌≡◌, ◌∙◌, ⊎_elim, ℕ, zero, suc, ◌+◌, ◌-◌, ◌<◌, ◌≤◌, ◌++◌, ◌∷◌, [], Bool, true, false, Option, None, Some, refl, sym, ap, arith}
use Rattle.std.specs.Prelude.{nat_le, ◌&&◌, ◌||◌, List, length, slice_index}
use Rattle.std.specs.List.{list_any, range_with_len, AllWithin, HoldsAt}
use Rattle.std.specs.Option.{MatchOption}
use Rattle.std.proofs.lemmas.Bool.{cases_lt, false_from_ne_true}
use Rattle.std.proofs.lemmas.Bool.Decides.{nat_tests}
use Rattle.std.proofs.lemmas.Option.{none-some}
use Rattle.std.proofs.lemmas.List.Folds.{list_any-append}
use Rattle.plain_laws.specs.Plain.{any_below, find_below}
use Rattle.plain_laws.proofs.Laws.{IsFirst, find_below_none, find_below_hit, find_below_tells, find_below_some, any_below_hit, any_below-same}
use Rattle.feed_text.proofs.HeaderLaws.{none_before}

-- the first of a range from 0 on is the first below its end
pub found_below : (test : ℕ → Bool) (n : ℕ) (r : Option ℕ)
    → MatchOption r ((k : ℕ) → 0 ≤ k → k < n → false ≡ test k) (λ i. (0 ≤ i) × (i < n) × (true ≡ test i) × ((k : ℕ) → 0 ≤ k → k < i → false ≡ test k))
    → r ≡ find_below n test
found_below test n None none = sym (find_below_none test n (λ k lt. sym (none k (omega arith) lt)))
found_below test n (Some i) first = sym (find_below_hit test n i (record { within = first.1; passes = sym first.2; earlier = λ k lt. sym (first.3 k (omega arith) lt) }))

-- and so is the first byte of a text
pub byte_found : (test : ℕ → Bool) (xs : List ℕ) (r : Option ℕ)
    → MatchOption r (AllWithin (λ y. false ≡ test y) xs 0 (length xs)) (λ i. (i < length xs) × HoldsAt (λ y. true ≡ test y) xs i × AllWithin (λ y. false ≡ test y) xs 0 i)
    → r ≡ find_below (length xs) (λ i. test (slice_index xs i))
byte_found test xs None none = sym (find_below_none (λ i. test (slice_index xs i)) (length xs) (λ k lt. sym (none k 0 (omega arith) lt)))
byte_found test xs (Some i) first =
    sym (find_below_hit (λ i. test (slice_index xs i)) (length xs) i (record { within = first.0; passes = sym (first.1 0); earlier = λ k lt. sym (first.2 k 0 (omega arith) lt) }))

range_more : (a n j : ℕ) → a + n ≡ j → range_with_len a (suc n) ≡ range_with_len a n ++ j ∷ []
range_more a zero j e = let same : a ≡ j = omega (arith, e) in ap (λ k. k ∷ []) same
range_more a (suc n) j e = ap (λ l. a ∷ l) (range_more (a + 1) n j (omega (arith, e)))

alone : (b : Bool) → (b || false) ≡ b
alone true = refl
alone false = refl

-- where one of a range passes, that starts so many numbers behind another number
any_behind : (test : ℕ → Bool) (start past n : ℕ) → list_any test (range_with_len (start + past) n) ≡ any_below (past + n) (λ c. nat_le past c && test (start + c))
any_behind test start past zero = sym (none_before past (λ c. test (start + c)) (past + 0) (omega arith))
any_behind test start past (suc n) =
    let j = start + (past + n) in
    let here : nat_le past (past + n) ≡ true = grind (arith, nat_tests) in
    let e : past + suc n ≡ suc (past + n) = omega arith in
    ap (list_any test) (range_more (start + past) n j (omega arith))
    ∙ list_any-append test (range_with_len (start + past) n) (j ∷ [])
    ∙ rw (any_behind test start past n, e, here) (ap (λ b. any_below (past + n) (λ c. nat_le past c && test (start + c)) || b) (alone (test j)))

pub any_between : (test : ℕ → Bool) (start past end from count : ℕ) → from ≡ start + past → count ≡ end - start
    → list_any test (range_with_len from (end - from)) ≡ any_below count (λ c. nat_le past c && test (start + c))
any_between test start past end from count begins counts = ⊎_elim inside outside (cases_lt from end)
  where
    inside : from < end → list_any test (range_with_len from (end - from)) ≡ any_below count (λ c. nat_le past c && test (start + c))
    inside lt =
        let e : past + (end - from) ≡ count = omega (arith, lt, begins, counts) in
        ap (λ k. list_any test (range_with_len k (end - from))) begins ∙ any_behind test start past (end - from) ∙ ap (λ n. any_below n (λ c. nat_le past c && test (start + c))) e

    outside : end ≤ from → list_any test (range_with_len from (end - from)) ≡ any_below count (λ c. nat_le past c && test (start + c))
    outside le =
        let e : end - from ≡ 0 = omega (arith, le) in
        ap (λ n. list_any test (range_with_len from n)) e ∙ sym (none_before past (λ c. test (start + c)) count (omega (arith, le, begins, counts)))

pub any_from : (test : ℕ → Bool) (past end : ℕ) → list_any test (range_with_len past (end - past)) ≡ any_below end (λ c. nat_le past c && test c)
any_from test past end =
    any_between test 0 past end past end (omega arith) (omega arith)
    ∙ any_below-same (λ c. nat_le past c && test (0 + c)) (λ c. nat_le past c && test c) end (λ c lt. let e : 0 + c ≡ c = omega arith in ap (λ k. nat_le past c && test k) e)

module _ (test : ℕ → Bool) where
  fails : (n : ℕ) → ((k : ℕ) → k < n → test k ≡ false) → any_below n test ≡ false
  fails zero none = refl
  fails (suc n) none = rw (fails n (λ k lt. none k (omega arith)), none n (omega arith)) refl

turn : (b c : Bool) → (b && c) ≡ (c && b)
turn true true = refl
turn true false = refl
turn false true = refl
turn false false = refl

-- one stands twice where one stands behind the first
pub twice_behind : (test : ℕ → Bool) (n first : ℕ) → find_below n test ≡ Some first
    → any_below n (λ later. test later && any_below later test) ≡ any_below n (λ c. nat_le (first + 1) c && test c)
twice_behind test n first found =
    any_below-same (λ later. test later && any_below later test) (λ c. nat_le (first + 1) c && test c) n same
  where
    is : IsFirst test n first
    is = find_below_tells test n first found

    same : (k : ℕ) → k < n → (test k && any_below k test) ≡ (nat_le (first + 1) k && test k)
    same k lt = ap (λ b. test k && b) (⊎_elim after before (cases_lt first k)) ∙ turn (test k) (nat_le (first + 1) k)
      where
        after : first < k → any_below k test ≡ nat_le (first + 1) k
        after past = let past_it : nat_le (first + 1) k ≡ true = grind (arith, nat_tests, past) in any_below_hit test k first past is.passes ∙ sym past_it

        before : k ≤ first → any_below k test ≡ nat_le (first + 1) k
        before le = let not_past : nat_le (first + 1) k ≡ false = grind (arith, nat_tests, le) in fails test k (λ i below. is.earlier i (omega (arith, le, below))) ∙ sym not_past

-- and none where none stands once
pub none_twice : (test : ℕ → Bool) (n : ℕ) → find_below n test ≡ None → any_below n (λ later. test later && any_below later test) ≡ false
none_twice test n none = fails (λ later. test later && any_below later test) n (λ k lt. rw (fails_at k lt) refl)
  where
    fails_at : (k : ℕ) → k < n → test k ≡ false
    fails_at k lt = false_from_ne_true (test k) (λ here. let some = find_below_some test n k lt here in none-some some.0 (sym none ∙ some.1))

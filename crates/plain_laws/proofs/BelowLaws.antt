-- What is found, listed, collected or summed number by number.
use Rattle.std.proofs.Common.{◌≡◌, ℕ, ◌<◌, Bool, true, false, refl, zero, suc, arith, ap, ◌≤◌, ◌⊎◌, inl, inr, subst, ⊎_elim, sym, ◌∙◌, ◌||◌, [], ◌∷◌, Contains, ◌+◌, List, ◌++◌, length, get_or, All, AllPairs, add-one}
use Rattle.std.specs.Prelude.{None, Some, Option, slice_get, ℤ, if◌then◌else◌, option_and_then}
use Rattle.plain_laws.specs.Below.{find_below, last_below, any_below, list_below, collect_below, first_below, sum_below, all_below, picks_below, first_in}
use Rattle.std.proofs.lemmas.Bool.{cases_lt, cases_Bool, cases_eq, false_from_ne_true, and_parts}
use Rattle.std.proofs.lemmas.Option.{same_Some, none-some, slice_get-get_or, slice_get_within}
use Rattle.std.proofs.lemmas.List.Elements.{Contains-push, Contains-append_left, Contains-push_cases, All-nil, All-push, All-append}
use Rattle.std.specs.List.{list_any}
use Rattle.std.proofs.lemmas.List.Folds.{list_any-append}
use Rattle.plain_laws.proofs.PlaceLaws.{slice_get-push_before, slice_get-push_last}
use Rattle.std.proofs.lemmas.List.{length_push, length-append}
use Rattle.plain_laws.specs.Optional.{when, at_and}
use Rattle.std.proofs.lemmas.List.Quantifiers.{all_pairs_push}
use Rattle.plain_laws.proofs.OptionalLaws.{none_either}

-- i is the first number below n that passes
pub record IsFirst (test : ℕ → Bool) (n i : ℕ) : Type 0 where
  pub within : i < n
  pub passes : test i ≡ true
  pub earlier : (k : ℕ) → k < i → test k ≡ false

-- i is the last number below n that passes
pub record IsLast (test : ℕ → Bool) (n i : ℕ) : Type 0 where
  pub within : i < n
  pub passes : test i ≡ true
  pub later : (k : ℕ) → i < k → k < n → test k ≡ false

-- none passes below n
abbrev pub NonePass : (ℕ → Bool) → ℕ → Type 0
NonePass test n = (k : ℕ) → k < n → test k ≡ false

-- a number is found, and it is so, or none is found, and that is so
abbrev pub IsFound : Option ℕ → (ℕ → Type 0) → Type 0 → Type 0
IsFound found is none = ((i : ℕ) × (found ≡ Some i) × is i) ⊎ ((found ≡ None) × none)

module _ {found : Option ℕ} {is : ℕ → Type 0} {none : Type 0} where
  -- what is found is so
  found_is : {i : ℕ} → IsFound found is none → found ≡ Some i → is i
  found_is (inl there) e = subst is (same_Some _ _ (sym there.1 ∙ e)) there.2
  found_is {i} (inr nothing) e = absurd (none-some i (sym nothing.0 ∙ e))

  -- where it can't be that none is found, one is
  some_found : IsFound found is none → (none → (i : ℕ) × (found ≡ Some i) × is i) → (i : ℕ) × (found ≡ Some i) × is i
  some_found (inl there) never = there
  some_found (inr nothing) never = never nothing.1

-- where none passes, none is found
pub find_below_none : (test : ℕ → Bool) (n : ℕ) → NonePass test n → find_below n test ≡ None
find_below_none test zero none = refl
find_below_none test (suc n) none = rw (find_below_none test n (λ k lt. none k (omega arith)), none n (omega arith)) refl

-- the first that passes is found
pub find_below_hit : (test : ℕ → Bool) (n i : ℕ) → IsFirst test n i → find_below n test ≡ Some i
find_below_hit test zero i first = let lt = first.within in absurd (omega arith)
find_below_hit test (suc n) i first = step (λ lt. find_below_hit test n i (record { within = lt; passes = first.passes; earlier = first.earlier })) (cases_lt i n)
  where
    step : (i < n → find_below n test ≡ Some i) → (i < n) ⊎ (n ≤ i) → find_below (suc n) test ≡ Some i
    step before (inl lt) = rw (before lt) refl
    step before (inr ge) =
        let within = first.within in
        let same : n ≡ i = omega arith in
        let here : test n ≡ true = rw same first.passes in
        rw (find_below_none test n (λ k lt. first.earlier k (omega arith)), here) (ap Some same)

-- the first that passes, or none
pub find_below_cases : (test : ℕ → Bool) (n : ℕ) → IsFound (find_below n test) (IsFirst test n) (NonePass test n)
find_below_cases test zero = inr (refl, λ k lt. absurd (omega arith))
find_below_cases test (suc n) = step (find_below_cases test n) (cases_Bool (test n))
  where
    step : IsFound (find_below n test) (IsFirst test n) (NonePass test n) → (test n ≡ true) ⊎ (test n ≡ false) → IsFound (find_below (suc n) test) (IsFirst test (suc n)) (NonePass test (suc n))
    step (inl found) here =
        let first = found.2 in
        let within = first.within in
        let wider : IsFirst test (suc n) found.0 = record { within = omega arith; passes = first.passes; earlier = first.earlier } in
        inl (found.0, find_below_hit test (suc n) found.0 wider, wider)
    step (inr none) (inl here) =
        let first : IsFirst test (suc n) n = record { within = omega arith; passes = here; earlier = none.1 } in
        inl (n, find_below_hit test (suc n) n first, first)
    step (inr none) (inr here) =
        let all : NonePass test (suc n) = λ k lt. ⊎_elim (λ below. none.1 k below) (λ past. let same : n ≡ k = omega arith in subst (λ m. test m ≡ false) same here) (cases_lt k n) in
        inr (find_below_none test (suc n) all, all)

-- what is found is the first that passes
pub find_below_tells : (test : ℕ → Bool) (n i : ℕ) → find_below n test ≡ Some i → IsFirst test n i
find_below_tells test n i = found_is (find_below_cases test n)

-- where one passes, one is found
pub find_below_some : (test : ℕ → Bool) (n k : ℕ) → k < n → test k ≡ true → (i : ℕ) × (find_below n test ≡ Some i) × IsFirst test n i
find_below_some test n k lt here = some_found (find_below_cases test n) (λ none. absurd (let no : true ≡ false = sym here ∙ none k lt in cc))

-- tests that agree below n find the same
pub find_below-same : (test other : ℕ → Bool) (n : ℕ) → ((k : ℕ) → k < n → test k ≡ other k) → find_below n test ≡ find_below n other
find_below-same test other zero same = refl
find_below-same test other (suc n) same = rw (find_below-same test other n (λ k lt. same k (omega arith)), same n (omega arith)) refl

-- where none passes, there is no last
pub last_below_none : (test : ℕ → Bool) (n : ℕ) → NonePass test n → last_below n test ≡ None
last_below_none test zero none = refl
last_below_none test (suc n) none = rw (none n (omega arith)) (last_below_none test n (λ k lt. none k (omega arith)))

-- the last that passes is found
pub last_below_hit : (test : ℕ → Bool) (n i : ℕ) → IsLast test n i → last_below n test ≡ Some i
last_below_hit test zero i last = let lt = last.within in absurd (omega arith)
last_below_hit test (suc n) i last = step (λ lt. last_below_hit test n i (record { within = lt; passes = last.passes; later = λ k from to. last.later k from (omega arith) })) (cases_lt i n)
  where
    step : (i < n → last_below n test ≡ Some i) → (i < n) ⊎ (n ≤ i) → last_below (suc n) test ≡ Some i
    step before (inl lt) = rw (last.later n lt (omega arith)) (before lt)
    step before (inr ge) =
        let within = last.within in
        let same : n ≡ i = omega arith in
        let here : test n ≡ true = rw same last.passes in
        rw here (ap Some same)

-- the last that passes, or none
pub last_below_cases : (test : ℕ → Bool) (n : ℕ) → IsFound (last_below n test) (IsLast test n) (NonePass test n)
last_below_cases test zero = inr (refl, λ k lt. absurd (omega arith))
last_below_cases test (suc n) = step (last_below_cases test n) (cases_Bool (test n))
  where
    step : IsFound (last_below n test) (IsLast test n) (NonePass test n) → (test n ≡ true) ⊎ (test n ≡ false) → IsFound (last_below (suc n) test) (IsLast test (suc n)) (NonePass test (suc n))
    step before (inl here) =
        let last : IsLast test (suc n) n = record { within = omega arith; passes = here; later = λ k from to. absurd (omega arith) } in
        inl (n, last_below_hit test (suc n) n last, last)
    step (inl found) (inr here) =
        let last = found.2 in
        let within = last.within in
        let wider : IsLast test (suc n) found.0 =
        record {
          within = omega arith;
          passes = last.passes;
          later = λ k from to. ⊎_elim (λ below. last.later k from below) (λ past. let same : n ≡ k = omega arith in subst (λ m. test m ≡ false) same here) (cases_lt k n);
        } in
        inl (found.0, last_below_hit test (suc n) found.0 wider, wider)
    step (inr none) (inr here) =
        let all : NonePass test (suc n) = λ k lt. ⊎_elim (λ below. none.1 k below) (λ past. let same : n ≡ k = omega arith in subst (λ m. test m ≡ false) same here) (cases_lt k n) in
        inr (last_below_none test (suc n) all, all)

-- what is found is the last that passes
pub last_below_tells : (test : ℕ → Bool) (n i : ℕ) → last_below n test ≡ Some i → IsLast test n i
last_below_tells test n i = found_is (last_below_cases test n)

-- where one passes, there is a last
pub last_below_some : (test : ℕ → Bool) (n k : ℕ) → k < n → test k ≡ true → (i : ℕ) × (last_below n test ≡ Some i) × IsLast test n i
last_below_some test n k lt here = some_found (last_below_cases test n) (λ none. absurd (let no : true ≡ false = sym here ∙ none k lt in cc))

-- some number passes where this one does
pub any_below_hit : (test : ℕ → Bool) (n k : ℕ) → k < n → test k ≡ true → any_below n test ≡ true
any_below_hit test zero k lt here = absurd (omega arith)
any_below_hit test (suc n) k lt here = step (any_below_hit test n k) (cases_lt k n)
  where
    last : (b : Bool) → (b || true) ≡ true
    last true = refl
    last false = refl

    step : (k < n → test k ≡ true → any_below n test ≡ true) → (k < n) ⊎ (n ≤ k) → any_below (suc n) test ≡ true
    step before (inl below) = rw (before below here) refl
    step before (inr past) = let same : k ≡ n = omega arith in let there : test n ≡ true = rw (← same) here in rw there (last (any_below n test))

-- and only then
pub any_below_tells : (test : ℕ → Bool) (n : ℕ) → any_below n test ≡ true → (k : ℕ) × (k < n) × (test k ≡ true)
any_below_tells test zero e = absurd (cc)
any_below_tells test (suc n) e = step (any_below_tells test n) (any_below n test) refl
  where
    step : (any_below n test ≡ true → (k : ℕ) × (k < n) × (test k ≡ true)) → (b : Bool) → any_below n test ≡ b → (k : ℕ) × (k < suc n) × (test k ≡ true)
    step before true some = let found = before some in let lt = found.1 in (found.0, omega arith, found.2)
    step before false none = (n, omega arith, rw none at e)

module _ {X : Type 0} where
  -- a list made number by number has what is given at each
  pub Contains-list_below : (n : ℕ) (f : ℕ → X) (k : ℕ) → k < n → Contains (list_below n f) (f k)
  Contains-list_below zero f k lt = absurd (omega arith)
  Contains-list_below (suc n) f k lt = step (Contains-list_below n f k) (cases_lt k n)
    where
      step : (k < n → Contains (list_below n f) (f k)) → (k < n) ⊎ (n ≤ k) → Contains (list_below (suc n) f) (f k)
      step before (inl below) = Contains-append_left (list_below n f) (f n ∷ []) (f k) (before below)
      step before (inr past) = let same : n ≡ k = omega arith in subst (λ i. Contains (list_below (suc n) f) (f i)) same (Contains-push (list_below n f) (f n))

  -- and nothing else
  pub list_below_tells : (n : ℕ) (f : ℕ → X) (x : X) → Contains (list_below n f) x → (k : ℕ) × (k < n) × (f k ≡ x)
  list_below_tells zero f x at = let lt = at.1 in absurd (omega arith)
  list_below_tells (suc n) f x at = step (list_below_tells n f x) (Contains-push_cases (list_below n f) (f n) x at)
    where
      step : (Contains (list_below n f) x → (k : ℕ) × (k < n) × (f k ≡ x)) → Contains (list_below n f) x ⊎ (f n ≡ x) → (k : ℕ) × (k < suc n) × (f k ≡ x)
      step before (inl there) = let found = before there in let lt = found.1 in (found.0, omega arith, found.2)
      step before (inr here) = (n, omega arith, here)

  -- some item of it passes where what is given at some number does
  pub list_any-list_below : (p : X → Bool) (n : ℕ) (f : ℕ → X) → list_any p (list_below n f) ≡ any_below n (λ k. p (f k))
  list_any-list_below p zero f = refl
  list_any-list_below p (suc n) f = let before = list_any-list_below p n f in list_any-append p (list_below n f) (f n ∷ []) ∙ rw before (alone (any_below n (λ k. p (f k))) (p (f n)))
    where
      alone : (a b : Bool) → (a || (b || false)) ≡ (a || b)
      alone true b = refl
      alone false true = refl
      alone false false = refl

  -- one more that is collected
  pub collect_below_more : (n : ℕ) (f : ℕ → Option X) (xs : List X) (x : X) → collect_below n f ≡ Some xs → f n ≡ Some x → collect_below (n + 1) f ≡ Some (xs ++ x ∷ [])
  collect_below_more n f xs x before here = let e : n + 1 ≡ suc n = omega arith in rw (e, before, here) refl

  -- what is collected, item by item
  pub record IsCollected (n : ℕ) (f : ℕ → Option X) (xs : List X) : Type 0 where
    pub length_is : length xs ≡ n
    pub items : (i : ℕ) → i < n → slice_get xs i ≡ f i

  pub collect_below_tells : (n : ℕ) (f : ℕ → Option X) (xs : List X) → collect_below n f ≡ Some xs → IsCollected n f xs
  collect_below_tells zero f xs e = let none : [] ≡ xs = same_Some _ _ e in record { length_is = sym (ap length none); items = λ i lt. absurd (omega arith) }
  collect_below_tells (suc n) f xs e = step (collect_below n f) refl (f n) refl (collect_below_tells n f)
    where
      step : (o : Option (List X)) → collect_below n f ≡ o → (p : Option X) → f n ≡ p → ((ys : List X) → collect_below n f ≡ Some ys → IsCollected n f ys) → IsCollected (suc n) f xs
      step None before p here earlier = absurd (let no : None ≡ Some xs = rw before at e in none-some xs no)
      step (Some ys) before None here earlier = absurd (let no : None ≡ Some xs = rw (before, here) at e in none-some xs no)
      step (Some ys) before (Some x) here earlier =
          let is : Some (ys ++ x ∷ []) ≡ Some xs = rw (before, here) at e in
          let same : ys ++ x ∷ [] ≡ xs = same_Some _ _ is in
          let was = earlier ys before in
          let long = was.length_is in
          let pushed = length_push ys x in
          subst (IsCollected (suc n) f) same (record {
            length_is = omega arith;
            items = λ i lt. ⊎_elim
                (λ (below : i < n). slice_get-push_before ys x i (omega arith) ∙ was.items i below)
                (λ (past : n ≤ i). let at : n ≡ i = omega arith in slice_get-push_last ys x i (omega arith) ∙ sym here ∙ ap f at)
                (cases_lt i n);
          })

  -- what is given at each number is collected
  pub collect_below_some : (n : ℕ) (f : ℕ → Option X) → ((i : ℕ) → i < n → (x : X) × (f i ≡ Some x)) → (xs : List X) × (collect_below n f ≡ Some xs)
  collect_below_some zero f each = ([], refl)
  collect_below_some (suc n) f each =
      let before = collect_below_some n f (λ i lt. each i (omega arith)) in
      let here = each n (omega arith) in
      (before.0 ++ here.0 ∷ [], rw (before.1, here.1) refl)

-- what f gives at a number is the first, where it gives nothing before
pub first_below_found : {X : Type 0} (f : ℕ → Option X) (n i : ℕ) (x : X) → i < n → first_below i f ≡ None → f i ≡ Some x → first_below n f ≡ Some x
first_below_found f zero i x lt before here = absurd (omega arith)
first_below_found {X} f (suc n) i x lt before here = step (λ inside. first_below_found f n i x inside before here) (cases_lt i n)
  where
    step : ((i < n) → first_below n f ≡ Some x) → (i < n) ⊎ (n ≤ i) → first_below (suc n) f ≡ Some x
    step within (inl inside) = rw (within inside) refl
    step within (inr last) = let e : i ≡ n = omega arith in rw (subst (λ k. first_below k f ≡ None) e before, subst (λ k. f k ≡ Some x) e here) refl

-- a number that passes the test is the first, where none before does
pub find_below_found : (test : ℕ → Bool) (n i : ℕ) → i < n → find_below i test ≡ None → test i ≡ true → find_below n test ≡ Some i
find_below_found test n i lt before here = first_below_found (λ k. when (test k) k) n i i lt before (rw here refl)

-- none below the next number passes the test, where none below this one does, nor this one
pub find_below_next : (test : ℕ → Bool) (i : ℕ) → find_below i test ≡ None → test i ≡ false → find_below (i + 1) test ≡ None
find_below_next test i before here = let e : suc i ≡ i + 1 = omega arith in subst (λ k. find_below k test ≡ None) e step
  where
    step : find_below (suc i) test ≡ None
    step = rw (before, here) refl

-- equal terms have equal sums
pub sum_below-same : (n : ℕ) (f g : ℕ → ℤ) → ((i : ℕ) → i < n → f i ≡ g i) → sum_below n f ≡ sum_below n g
sum_below-same zero f g same = refl
sum_below-same (suc n) f g same =
    let before = sum_below-same n f g (λ i h. same i (omega arith)) in
    let last = same n (omega arith) in
    rw (before, last) refl

-- equal items are collected to equal lists
pub collect_below-same : {X : Type 0} (n : ℕ) (f g : ℕ → Option X) → ((i : ℕ) → i < n → f i ≡ g i) → collect_below n f ≡ collect_below n g
collect_below-same zero f g same = refl
collect_below-same (suc n) f g same =
    let before = collect_below-same n f g (λ i h. same i (omega arith)) in
    let last = same n (omega arith) in
    rw (before, last) refl

-- equal tests hold of equal numbers
pub all_below-same : (n : ℕ) (f g : ℕ → Bool) → ((i : ℕ) → i < n → f i ≡ g i) → all_below n f ≡ all_below n g
all_below-same zero f g same = refl
all_below-same (suc n) f g same =
    let before = all_below-same n f g (λ i h. same i (omega arith)) in
    let last = same n (omega arith) in
    rw (before, last) refl

module _ {X : Type 0} where
  -- an item of a list that is made number by number
  pub length-list_below : (n : ℕ) (f : ℕ → X) → length (list_below n f) ≡ n
  length-list_below zero f = refl
  length-list_below (suc n) f = let before = length-list_below n f in let pushed = length_push (list_below n f) (f n) in omega arith

  pub slice_get-list_below : (n : ℕ) (f : ℕ → X) (i : ℕ) → i < n → slice_get (list_below n f) i ≡ Some (f i)
  slice_get-list_below zero f i lt = absurd (omega arith)
  slice_get-list_below (suc n) f i lt = step (length-list_below n f) (slice_get-list_below n f i) (cases_lt i n)
    where
      step : length (list_below n f) ≡ n → (i < n → slice_get (list_below n f) i ≡ Some (f i)) → (i < n) ⊎ (n ≤ i) → slice_get (list_below n f ++ f n ∷ []) i ≡ Some (f i)
      step long before (inl below) = slice_get-push_before (list_below n f) (f n) i (omega (arith, long)) ∙ before below
      step long before (inr past) = let same : n ≡ i = omega arith in slice_get-push_last (list_below n f) (f n) i (omega (arith, long)) ∙ ap (λ k. Some (f k)) same

  -- lists that are made alike are equal
  pub list_below-same : (n : ℕ) (f g : ℕ → X) → ((i : ℕ) → i < n → f i ≡ g i) → list_below n f ≡ list_below n g
  list_below-same zero f g same = refl
  list_below-same (suc n) f g same = rw (list_below-same n f g (λ i lt. same i (omega arith)), same n (omega arith)) refl

-- an item of a list that is made number by number
pub get_or-list_below : {X : Type 0} (n : ℕ) (f : ℕ → X) (i : ℕ) (d : X) → i < n → get_or (list_below n f) i d ≡ f i
get_or-list_below n f i d lt =
    same_Some (get_or (list_below n f) i d) (f i)
    (sym (slice_get-get_or (list_below n f) i d (let long = length-list_below n f in omega arith)) ∙ slice_get-list_below n f i lt)

module _ {X : Type 0} where
  -- what holds of each row that is made
  pub All-list_below : (P : X → Type 0) (n : ℕ) (f : ℕ → X) → ((i : ℕ) → i < n → P (f i)) → All P (list_below n f)
  All-list_below P zero f each = All-nil P
  All-list_below P (suc n) f each = All-push P (list_below n f) (f n) (All-list_below P n f (λ i lt. each i (omega arith))) (each n (omega arith))

  -- what holds of each row and each later one
  pub AllPairs-list_below : (R : X → X → Type 0) (n : ℕ) (f : ℕ → X) → ((i j : ℕ) → i < j → j < n → R (f i) (f j)) → AllPairs R (list_below n f)
  AllPairs-list_below R zero f each = λ i j d lt within. absurd (omega arith)
  AllPairs-list_below R (suc n) f each =
      all_pairs_push R (list_below n f) (f n) (AllPairs-list_below R n f (λ i j lt within. each i j lt (omega arith)))
      (All-list_below (λ x. R x (f n)) n f (λ i lt. each i n lt (omega arith)))

  -- the rows that are picked
  pub All-picks_below : (P : X → Type 0) (n : ℕ) (test : ℕ → Bool) (f : ℕ → X) → ((i : ℕ) → i < n → test i ≡ true → P (f i)) → All P (picks_below n test f)
  All-picks_below P zero test f each = All-nil P
  All-picks_below P (suc n) test f each = step (All-picks_below P n test f (λ i lt here. each i (omega arith) here)) (test n) refl
    where
      step : All P (picks_below n test f) → (b : Bool) → test n ≡ b → All P (picks_below (suc n) test f)
      step before true e = rw e (All-push P (picks_below n test f) (f n) before (each n (omega arith) e))
      step before false e = rw e (All-append P (picks_below n test f) [] before (All-nil P))

  -- they are no more than the numbers
  pub length-picks_below : (n : ℕ) (test : ℕ → Bool) (f : ℕ → X) → length (picks_below n test f) ≤ n
  length-picks_below zero test f = omega arith
  length-picks_below (suc n) test f = let before = length-picks_below n test f in rw (length-append) (step (test n) before)
    where
      step : (b : Bool) → length (picks_below n test f) ≤ n → length (picks_below n test f) + length (if b then f n ∷ [] else []) ≤ suc n
      step true before = omega arith
      step false before = omega arith

  -- what holds of all rows holds of that at a number
  pub list_below-each : (P : X → Type 0) (n : ℕ) (f : ℕ → X) → All P (list_below n f) → (i : ℕ) → i < n → P (f i)
  list_below-each P n f all i lt = subst P (get_or-list_below n f i (f i) lt) (all i (f i) (rw (length-list_below n f) lt))

-- nothing is given at a number below n
pub none_below : {X : Type 0} (f : ℕ → Option X) (n i : ℕ) → first_below n f ≡ None → i < n → f i ≡ None
none_below f zero i e lt = absurd (omega arith)
none_below f (suc n) i e lt =
    let both = none_either (first_below n f) (f n) e in
    ⊎_elim (λ (same : i ≡ n). rw same both.1) (λ (other : i ≡ n → ⊥). none_below f n i both.0 (omega arith)) (cases_eq i n)

-- nothing is given at an item
pub none_in : {X Y : Type 0} (ys : List Y) (f : Y → Option X) (k : ℕ) (y : Y) → first_in ys f ≡ None → slice_get ys k ≡ Some y → f y ≡ None
none_in ys f k y e at =
    let here = none_below (λ i. option_and_then f (slice_get ys i)) (length ys) k e (slice_get_within ys k y at) in
    rw at at here

-- no number below n passes
pub none_any : (test : ℕ → Bool) (n i : ℕ) → any_below n test ≡ false → i < n → test i ≡ false
none_any test n i e lt = false_from_ne_true (test i) (λ here. let yes = any_below_hit test n i lt here in let no : false ≡ true = sym e ∙ yes in absurd (cc))

-- the first below the next number, where there is none below this one, nor at this one
pub first_below_next : {X : Type 0} (f : ℕ → Option X) (i : ℕ) → first_below i f ≡ None → f i ≡ None → first_below (i + 1) f ≡ None
first_below_next f i none here = let e : i + 1 ≡ suc i = omega arith in rw (e, none, here) refl

-- what holds at every number below n holds at each
pub all_below-at : (n : ℕ) (test : ℕ → Bool) → all_below n test ≡ true → (i : ℕ) → i < n → test i ≡ true
all_below-at zero test e i lt = absurd (omega arith)
all_below-at (suc n) test e i lt = step (all_below-at n test (and_parts _ _ e).0 i) (and_parts _ _ e).1 (cases_lt i n)
  where
    step : (i < n → test i ≡ true) → test n ≡ true → (i < n) ⊎ (n ≤ i) → test i ≡ true
    step before last (inl below) = before below
    step before last (inr ge) = let same : n ≡ i = omega arith in subst (λ k. test k ≡ true) same last

-- tests that agree below a number
pub any_below-same : (test other : ℕ → Bool) (n : ℕ) → ((k : ℕ) → k < n → test k ≡ other k) → any_below n test ≡ any_below n other
any_below-same test other zero same = refl
any_below-same test other (suc n) same = rw (any_below-same test other n (λ k lt. same k (omega arith)), same n (omega arith)) refl

-- what f gives at an item of a list
abbrev pub at_item : {X Y : Type 0} → List Y → (Y → Option X) → ℕ → Option X
at_item ys f k = option_and_then f (slice_get ys k)

-- what f gives at an item is the first, where it gives nothing at the items before
pub first_in_found : {X Y : Type 0} (ys : List Y) (f : Y → Option X) (i : ℕ) (d : Y) (x : X) → i < length ys → first_below i (at_item ys f) ≡ None → f (get_or ys i d) ≡ Some x → first_in ys f ≡ Some x
first_in_found ys f i d x lt before here = first_below_found (at_item ys f) (length ys) i x lt before (ap (λ o. option_and_then f o) (slice_get-get_or ys i d lt) ∙ here)

-- nothing at the items before the next, where nothing before this one, nor at it
pub first_in_next : {X Y : Type 0} (ys : List Y) (f : Y → Option X) (i : ℕ) (d : Y) → i < length ys → first_below i (at_item ys f) ≡ None → f (get_or ys i d) ≡ None → first_below (i + 1) (at_item ys f) ≡ None
first_in_next ys f i d lt before here = first_below_next (at_item ys f) i before (ap (λ o. option_and_then f o) (slice_get-get_or ys i d lt) ∙ here)

-- a test of a row that is there
pub at_and-list_below : {X : Type 0} (n : ℕ) (f : ℕ → X) (i : ℕ) (test : X → Bool) → i < n → at_and (list_below n f) i test ≡ test (f i)
at_and-list_below n f i test lt = rw (slice_get-list_below n f i lt) refl

-- one item more of a list that is made number by number
pub list_below_more : {X : Type 0} (n : ℕ) (f : ℕ → X) (xs ys : List X) (x : X) → xs ≡ list_below n f → ys ≡ xs ++ x ∷ [] → x ≡ f n → ys ≡ list_below (n + 1) f
list_below_more n f xs ys x before push is = rw add-one (push ∙ ap (λ zs. zs ++ x ∷ []) before ∙ ap (λ z. list_below n f ++ z ∷ []) is)

-- the step and the end of a loop that seeks the first
pub ruleset firsts = (first_below_found, first_below_next)

pub ruleset found_firsts = (find_below_found, find_below_next)

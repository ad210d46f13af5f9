-- What is picked of the numbers below a bound: where just the first so many pass, and by its members.
use Rattle.std.proofs.Common.{◌≡◌, refl, sym, ◌∙◌, subst, ℕ, zero, suc, ◌<◌, ◌≤◌, ◌⊎◌, inl, inr, ⊎_elim, Bool, true, false, List, [], Contains, AllPairs, append-nil, arith}
use Rattle.std.proofs.lemmas.Bool.{cases_lt}
use Rattle.std.proofs.lemmas.List.Quantifiers.{all_pairs_push}
use Rattle.plain_laws.specs.Below.{picks_below, list_below}
use Rattle.plain_laws.proofs.BelowLaws.{All-picks_below}
use Rattle.plain_laws.proofs.JoinedLaws.{one_where, joined_below-picks, Contains-joined_below, joined_below-tells}
use Rattle.plain_laws.proofs.OrderLaws.{IsStrictOrder, same_from_members, Contains-cons_first, Contains-cons_cases}

module _ {X : Type 0} where
  -- where all pass, all are picked
  pub picks_below_all : (test : ℕ → Bool) (f : ℕ → X) (n : ℕ) → ((x : ℕ) → x < n → test x ≡ true) → picks_below n test f ≡ list_below n f
  picks_below_all test f zero pass = refl
  picks_below_all test f (suc n) pass =
      let here = pass n (omega arith) in
      rw (here, picks_below_all test f n (λ x lt. pass x (omega arith))) refl

  -- where the first so many pass and no other, these are picked
  pub picks_below_first : (test : ℕ → Bool) (f : ℕ → X) (few n : ℕ) → few ≤ n → ((x : ℕ) → x < few → test x ≡ true) → ((x : ℕ) → few ≤ x → test x ≡ false) → picks_below n test f ≡ list_below few f
  picks_below_first test f few zero le pass fail =
      let none : few ≡ 0 = omega arith in rw none refl
  picks_below_first test f few (suc n) le pass fail = step (cases_lt n few) (λ from. picks_below_first test f few n from pass fail)
    where
      step : (n < few) ⊎ (few ≤ n) → (few ≤ n → picks_below n test f ≡ list_below few f) → picks_below (suc n) test f ≡ list_below few f
      step (inl lt) rest =
          let all : few ≡ suc n = omega arith in
          rw all (picks_below_all test f (suc n) (λ x lt. pass x (omega arith)))
      step (inr from) rest =
          let here = fail n from in
          rw here (append-nil (picks_below n test f) ∙ rest from)

module _ {X : Type 0} where
  -- tests that agree pick the same
  pub picks_below-same : (n : ℕ) (p q : ℕ → Bool) (f : ℕ → X) → ((i : ℕ) → i < n → p i ≡ q i) → picks_below n p f ≡ picks_below n q f
  picks_below-same zero p q f same = refl
  picks_below-same (suc n) p q f same = rw (picks_below-same n p q f (λ i lt. same i (omega arith)), same n (omega arith)) refl

  -- nothing is picked where no number passes
  pub picks_below-none : (n : ℕ) (test : ℕ → Bool) (f : ℕ → X) → ((i : ℕ) → i < n → test i ≡ false) → picks_below n test f ≡ []
  picks_below-none zero test f none = refl
  picks_below-none (suc n) test f none = rw (picks_below-none n test f (λ i lt. none i (omega arith)), none n (omega arith)) refl

  -- what a number that passes gives is among what is picked
  pub Contains-picks_below : (n : ℕ) (test : ℕ → Bool) (f : ℕ → X) (i : ℕ) → i < n → test i ≡ true → Contains (picks_below n test f) (f i)
  Contains-picks_below n test f i lt here =
      subst (λ xs. Contains xs (f i)) (joined_below-picks n test f)
      (Contains-joined_below n (λ k. one_where (test k) (f k)) i (f i) lt (rw here (Contains-cons_first (f i) [])))

  -- and nothing else is
  pub record IsPicked (n : ℕ) (test : ℕ → Bool) (f : ℕ → X) (x : X) : Type 0 where
    pub number : ℕ
    pub within : number < n
    pub passes : test number ≡ true
    pub is : f number ≡ x

  pub picks_below-tells : (n : ℕ) (test : ℕ → Bool) (f : ℕ → X) (x : X) → Contains (picks_below n test f) x → IsPicked n test f x
  picks_below-tells n test f x at =
      let found = joined_below-tells n (λ k. one_where (test k) (f k)) x (subst (λ xs. Contains xs x) (sym (joined_below-picks n test f)) at) in
      step found.0 found.1 (test found.0) refl found.2
    where
      step : (i : ℕ) → i < n → (b : Bool) → test i ≡ b → Contains (one_where b (f i)) x → IsPicked n test f x
      step i lt true e at = ⊎_elim
          (λ (same : f i ≡ x). record { number = i; within = lt; passes = e; is = same })
          (λ (none : Contains [] x). let no = none.1 in absurd (omega arith))
          (Contains-cons_cases (f i) [] x at)
      step i lt false e at = let no = at.1 in absurd (omega arith)

  -- what is picked stands as the numbers do
  pub AllPairs-picks_below : (R : X → X → Type 0) (n : ℕ) (test : ℕ → Bool) (f : ℕ → X) → ((i j : ℕ) → i < j → j < n → R (f i) (f j)) → AllPairs R (picks_below n test f)
  AllPairs-picks_below R zero test f each = λ i j d lt within. absurd (omega arith)
  AllPairs-picks_below R (suc n) test f each = step (AllPairs-picks_below R n test f (λ i j lt within. each i j lt (omega arith))) (test n) refl
    where
      step : AllPairs R (picks_below n test f) → (b : Bool) → test n ≡ b → AllPairs R (picks_below (suc n) test f)
      step before true e = rw e (all_pairs_push R (picks_below n test f) (f n) before (All-picks_below (λ x. R x (f n)) n test f (λ i lt here. each i n lt (omega arith))))
      step before false e = rw (e, append-nil) before

  by_less : (key : X → ℕ) → IsStrictOrder (λ x y. key x < key y)
  by_less key = record { irreflexive = λ x lt. omega arith; transitive = λ x y z a b. omega arith }

  -- a list that ascends by a number and whose members are what the numbers below n that pass give is what is picked
  pub picks_from_ascending : (key : X → ℕ) (n : ℕ) (test : ℕ → Bool) (f : ℕ → X) (xs : List X) → ((i : ℕ) → key (f i) ≡ i) → AllPairs (λ x y. key x < key y) xs
      → ((x : X) → Contains xs x → IsPicked n test f x) → ((i : ℕ) → i < n → test i ≡ true → Contains xs (f i)) → xs ≡ picks_below n test f
  picks_from_ascending key n test f xs numbered rises tells has =
      same_from_members (λ x y. key x < key y) (by_less key) xs (picks_below n test f) rises
      (AllPairs-picks_below (λ x y. key x < key y) n test f (λ i j lt within. rw (numbered i, numbered j) lt))
      (record {
        there = λ x at. let p = tells x at in subst (Contains (picks_below n test f)) p.is (Contains-picks_below n test f p.number p.within p.passes);
        back = λ x at. let p = picks_below-tells n test f x at in subst (Contains xs) p.is (has p.number p.within p.passes);
      })

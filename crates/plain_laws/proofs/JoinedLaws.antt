-- Lists that are joined number by number.
use Rattle.std.proofs.Common.{◌≡◌, subst, ℕ, zero, suc, ◌<◌, ◌≤◌, ⊎_elim, List, Contains, arith, AllPairs, refl, Bool, [], ◌∷◌, ap, ◌⊎◌, inl, inr, ◌++◌, ◌+◌}
use Rattle.std.proofs.lemmas.Bool.{cases_lt}
use Rattle.std.proofs.lemmas.List.Elements.{Contains-append_left, Contains-append_right, Contains-append_cases}
use Rattle.plain_laws.specs.Below.{joined_below, picks_below}
use Rattle.plain_laws.proofs.PlaceLaws.{AllPairs-append}
use Rattle.std.specs.Prelude.{if◌then◌else◌}
use Rattle.std.proofs.lemmas.List.{append-nil}

module _ {X : Type 0} where
  -- a member of what is joined at a number
  pub Contains-joined_below : (n : ℕ) (f : ℕ → List X) (i : ℕ) (x : X) → i < n → Contains (f i) x → Contains (joined_below n f) x
  Contains-joined_below zero f i x lt at = absurd (omega arith)
  Contains-joined_below (suc n) f i x lt at = ⊎_elim
      (λ (below : i < n). Contains-append_left (joined_below n f) (f n) x (Contains-joined_below n f i x below at))
      (λ (past : n ≤ i). let same : i ≡ n = omega arith in Contains-append_right (joined_below n f) (f n) x (subst (λ k. Contains (f k) x) same at))
      (cases_lt i n)

  -- and no other
  pub joined_below-tells : (n : ℕ) (f : ℕ → List X) (x : X) → Contains (joined_below n f) x → (i : ℕ) × (i < n) × Contains (f i) x
  joined_below-tells zero f x at = let lt = at.1 in absurd (omega arith)
  joined_below-tells (suc n) f x at = ⊎_elim
      (λ (before : Contains (joined_below n f) x). let found = joined_below-tells n f x before in let lt = found.1 in (found.0, omega arith, found.2))
      (λ (here : Contains (f n) x). (n, omega arith, here))
      (Contains-append_cases (joined_below n f) (f n) x at)

  -- what is joined ascends where each part does, and each part before the later ones
  pub AllPairs-joined_below : (R : X → X → Type 0) (n : ℕ) (f : ℕ → List X) → ((i : ℕ) → i < n → AllPairs R (f i)) → ((i j : ℕ) (x y : X) → i < j → j < n → Contains (f i) x → Contains (f j) y → R x y) → AllPairs R (joined_below n f)
  AllPairs-joined_below R zero f each between = λ i j d lt within. absurd (omega arith)
  AllPairs-joined_below R (suc n) f each between =
      AllPairs-append R (joined_below n f) (f n) (AllPairs-joined_below R n f (λ i lt. each i (omega arith)) (λ i j x y lt within. between i j x y lt (omega arith))) (each n (omega arith))
      (λ x y at also. let found = joined_below-tells n f x at in between found.0 n x y found.1 (omega arith) found.2 also)

  -- lists that are alike number by number join alike
  pub joined_below-same : (n : ℕ) (f g : ℕ → List X) → ((i : ℕ) → i < n → f i ≡ g i) → joined_below n f ≡ joined_below n g
  joined_below-same zero f g same = refl
  joined_below-same (suc n) f g same = rw (joined_below-same n f g (λ i lt. same i (omega arith)), same n (omega arith)) refl

  -- one item where the test holds
  abbrev pub one_where : Bool → X → List X
  one_where test x = if test then x ∷ [] else []

  -- what is picked is what is joined one by one
  pub joined_below-picks : (n : ℕ) (test : ℕ → Bool) (f : ℕ → X) → joined_below n (λ i. one_where (test i) (f i)) ≡ picks_below n test f
  joined_below-picks zero test f = refl
  joined_below-picks (suc n) test f = rw (joined_below-picks n test f) refl

  -- nothing joins to nothing
  pub joined_below-none : (n : ℕ) (f : ℕ → List X) → ((i : ℕ) → i < n → f i ≡ []) → joined_below n f ≡ []
  joined_below-none zero f none = refl
  joined_below-none (suc n) f none = rw (joined_below-none n f (λ i lt. none i (omega arith)), none n (omega arith)) refl

  -- one number alone joins to its list
  pub joined_below-one : (n i : ℕ) (f : ℕ → List X) → i < n → ((k : ℕ) → k < n → (k ≡ i → ⊥) → f k ≡ []) → joined_below n f ≡ f i
  joined_below-one zero i f lt none = absurd (omega arith)
  joined_below-one (suc n) i f lt none = step (λ below. joined_below-one n i f below (λ k kn apart. none k (omega arith) apart)) (cases_lt i n)
    where
      step : (i < n → joined_below n f ≡ f i) → (i < n) ⊎ (n ≤ i) → joined_below n f ++ f n ≡ f i
      step before (inl below) = rw (before below, none n (omega arith) (λ e. omega arith)) (append-nil (f i))
      step before (inr past) =
          let same : n ≡ i = omega arith in
          rw (joined_below-none n f (λ k kn. none k (omega arith) (λ e. omega arith))) (ap f same)

-- one list more that joins
pub joined_more : {X : Type 0} (n : ℕ) (f : ℕ → List X) (before here xs : List X) → before ≡ joined_below n f → f n ≡ here → xs ≡ before ++ here → xs ≡ joined_below (n + 1) f
joined_more n f before here xs was is e = let next : n + 1 ≡ suc n = omega arith in rw (next, ← was, is) e

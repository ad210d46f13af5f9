-- Steps in a row, by number and from the front.
use Rattle.std.proofs.Common.{◌≡◌, refl, ℕ, zero, suc, ◌<◌, List, arith, ◌≤◌, ◌++◌, length, ◌+◌, [], ◌∷◌, ◌∙◌}
use Rattle.std.specs.Prelude.{Option, slice_get, option_and_then, Some, None}
use Rattle.plain_laws.specs.Steps.{after_first, after}
use Rattle.plain_laws.proofs.PlaceLaws.{slice_get-append_left}
use Rattle.plain_laws.proofs.OptionalLaws.{option_and_then-assoc}

-- the first n steps are the same where the lists agree on them
pub after_first-same : {S R : Type 0} (next : S → R → Option S) (s : S) (rs rs' : List R) (n : ℕ) →
    ((i : ℕ) → i < n → slice_get rs i ≡ slice_get rs' i) → after_first next s rs n ≡ after_first next s rs' n
after_first-same next s rs rs' zero same = refl
after_first-same next s rs rs' (suc n) same =
    let before = after_first-same next s rs rs' n (λ i lt. same i (omega arith)) in
    let last = same n (omega arith) in
    rw (before, last) refl

-- the first steps of a list look at no step that comes later
pub after_first-append : {S R : Type 0} (next : S → R → Option S) (s : S) (rs more : List R) (n : ℕ) → n ≤ length rs →
    after_first next s (rs ++ more) n ≡ after_first next s rs n
after_first-append next s rs more n le =
    after_first-same next s (rs ++ more) rs n (λ i lt. slice_get-append_left rs more i (omega arith))

-- the first of a list's steps is made before the others
pub after_first-cons : {S R : Type 0} (next : S → R → Option S) (s : S) (r : R) (rs : List R) (n : ℕ) →
    after_first next s (r ∷ rs) (suc n) ≡ option_and_then (λ p. after_first next p rs n) (next s r)
after_first-cons {S} next s r rs zero = by (next s r)
  where
    by : (o : Option S) → o ≡ option_and_then (λ p. Some p) o
    by None = refl
    by (Some p) = refl
after_first-cons next s r rs (suc n) =
    let before = after_first-cons next s r rs n in
    rw before (option_and_then-assoc (λ p. after_first next p rs n) (λ p. option_and_then (next p) (slice_get rs n)) (next s r))

-- all steps by number are the steps from the front
pub after_first-all : {S R : Type 0} (next : S → R → Option S) (s : S) (rs : List R) → after_first next s rs (length rs) ≡ after next s rs
after_first-all next s [] = refl
after_first-all {S} next s (r ∷ rs) =
    after_first-cons next s r rs (length rs) ∙ by (next s r) (λ p. after_first-all next p rs)
  where
    by : (o : Option S) → ((p : S) → after_first next p rs (length rs) ≡ after next p rs) →
        option_and_then (λ p. after_first next p rs (length rs)) o ≡ option_and_then (λ p. after next p rs) o
    by None same = refl
    by (Some p) same = same p

-- steps of two lists in a row
pub after-append : {S R : Type 0} (next : S → R → Option S) (s : S) (rs more : List R) →
    after next s (rs ++ more) ≡ option_and_then (λ p. after next p more) (after next s rs)
after-append next s [] more = refl
after-append {S} next s (r ∷ rs) more = by (next s r) (λ p. after-append next p rs more)
  where
    by : (o : Option S) → ((p : S) → after next p (rs ++ more) ≡ option_and_then (λ q. after next q more) (after next p rs)) →
        option_and_then (λ p. after next p (rs ++ more)) o ≡ option_and_then (λ q. after next q more) (option_and_then (λ p. after next p rs) o)
    by None same = refl
    by (Some p) same = same p

-- one more step at the end, from the front
pub after-push : {S R : Type 0} (next : S → R → Option S) (s : S) (rs : List R) (r : R) →
    after next s (rs ++ r ∷ []) ≡ option_and_then (λ p. next p r) (after next s rs)
after-push {S} next s rs r = after-append next s rs (r ∷ []) ∙ by (after next s rs)
  where
    one : (o : Option S) → option_and_then (λ q. Some q) o ≡ o
    one None = refl
    one (Some q) = refl

    by : (o : Option S) → option_and_then (λ p. option_and_then (λ q. Some q) (next p r)) o ≡ option_and_then (λ p. next p r) o
    by None = refl
    by (Some p) = one (next p r)

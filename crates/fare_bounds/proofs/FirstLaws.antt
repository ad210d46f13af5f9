-- What holds of the first items of a list.
use Rattle.std.proofs.Common.{◌≡◌, sym, ◌∙◌, ap, subst, ℕ, ◌+◌, ◌<◌, ◌≤◌, ◌⊎◌, inl, inr, List, length, get_or, arith}
use Rattle.std.specs.Prelude.{Some, slice_get}
use Rattle.std.proofs.lemmas.Bool.{cases_lt}
use Rattle.std.proofs.lemmas.Option.{slice_get_within, get_or_from_slice_get}

-- it holds of the first n items
abbrev pub AreFirst : {X : Type 0} → (X → Type 0) → List X → ℕ → Type 0
AreFirst {X} P xs n = (i : ℕ) (x : X) → i < n → slice_get xs i ≡ Some x → P x

-- one item more, where what held of the others still holds in another way
pub first_more : {X : Type 0} (P Q : X → Type 0) (xs : List X) (n : ℕ) (d : X) → AreFirst P xs n →
    ((x : X) → P x → Q x) → Q (get_or xs n d) → AreFirst Q xs (n + 1)
first_more P Q xs n d before keeps here i x lt is = by (cases_lt i n)
  where
    by : (i < n) ⊎ (n ≤ i) → Q x
    by (inl less) = keeps x (before i x less is)
    by (inr ge) =
        let same : i ≡ n = omega (arith, lt, ge) in
        subst Q (ap (λ (j : ℕ). get_or xs j d) (sym same) ∙ get_or_from_slice_get xs i x d is) here

-- all items are among the first n, where the list has no more
pub first_all : {X : Type 0} (P : X → Type 0) (xs ys : List X) (n : ℕ) → xs ≡ ys → length xs ≤ n → AreFirst P xs n →
    (i : ℕ) (x : X) → slice_get ys i ≡ Some x → P x
first_all P xs ys n same le all i x is =
    let at : slice_get xs i ≡ Some x = ap (λ zs. slice_get zs i) same ∙ is in
    all i x (let within = slice_get_within xs i x at in omega (arith, within, le)) at

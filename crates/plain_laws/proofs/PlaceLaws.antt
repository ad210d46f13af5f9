-- The items of a list by their places.
use Rattle.std.proofs.Common.{◌≡◌, refl, ℕ, zero, suc, ◌<◌, List, [], ◌∷◌, ◌++◌, length, arith, sym, subst, ◌≤◌, ◌⊎◌, inl, inr, get_or, Contains, ◌∙◌, ap, Bool, false, slice_index_or, ◌+◌, take, ◌-◌}
use Rattle.std.specs.Prelude.{slice_get, Some, All, AllPairs, ◌≢◌}
use Rattle.std.proofs.lemmas.Option.{slice_get_within, get_or_from_slice_get, slice_get-get_or}
use Rattle.plain_laws.specs.Items.{ForItem}
use Rattle.std.proofs.lemmas.Bool.{cases_lt}
use Rattle.std.proofs.lemmas.List.Elements.{All-append}
use Rattle.plain_laws.proofs.OrderLaws.{AllPairs-cons, AllPairs-head, AllPairs-tail, Contains-cons_first, Contains-cons_later}
use Rattle.plain_laws.proofs.TestLaws.{or_false}
use Rattle.std.specs.List.{list_any, slice_range}
use Rattle.std.proofs.Math.Seq.{take-add}

module _ {X : Type 0} where
  -- an item before the one that is pushed
  pub slice_get-push_before : (xs : List X) (x : X) (i : ℕ) → i < length xs → slice_get (xs ++ x ∷ []) i ≡ slice_get xs i
  slice_get-push_before [] x i lt = absurd (omega arith)
  slice_get-push_before (y ∷ xs) x zero lt = refl
  slice_get-push_before (y ∷ xs) x (suc i) lt = slice_get-push_before xs x i (omega arith)

  -- the item that is pushed
  pub slice_get-push_last : (xs : List X) (x : X) (i : ℕ) → i ≡ length xs → slice_get (xs ++ x ∷ []) i ≡ Some x
  slice_get-push_last [] x zero e = refl
  slice_get-push_last [] x (suc i) e = absurd (omega arith)
  slice_get-push_last (y ∷ xs) x zero e = absurd (omega arith)
  slice_get-push_last (y ∷ xs) x (suc i) e = slice_get-push_last xs x i (omega arith)

-- an item of the front part
pub slice_get-append_left : {X : Type 0} (xs ys : List X) (i : ℕ) → i < length xs → slice_get (xs ++ ys) i ≡ slice_get xs i
slice_get-append_left [] ys i lt = absurd (omega arith)
slice_get-append_left (x ∷ xs) ys zero lt = refl
slice_get-append_left (x ∷ xs) ys (suc i) lt = slice_get-append_left xs ys i (omega arith)

-- an item past the first list
pub slice_get-append_right : {X : Type 0} (xs ys : List X) (k : ℕ) → slice_get (xs ++ ys) (length xs + k) ≡ slice_get ys k
slice_get-append_right [] ys k = ap (slice_get ys) (omega arith)
slice_get-append_right (x ∷ xs) ys k =
    let next : length (x ∷ xs) + k ≡ suc (length xs + k) = omega arith in
    ap (slice_get (x ∷ (xs ++ ys))) next ∙ slice_get-append_right xs ys k

-- no more than n items are the first n
pub take_short : {X : Type 0} (n : ℕ) (xs : List X) → length (take n xs) ≤ n
take_short zero xs = omega arith
take_short (suc n) [] = omega arith
take_short (suc n) (x ∷ xs) = let rest = take_short n xs in omega arith

-- an item among the first n
pub slice_get-take : {X : Type 0} (n : ℕ) (xs : List X) (i : ℕ) → i < n → slice_get (take n xs) i ≡ slice_get xs i
slice_get-take zero xs i lt = absurd (omega arith)
slice_get-take (suc n) [] i lt = refl
slice_get-take (suc n) (x ∷ xs) zero lt = refl
slice_get-take (suc n) (x ∷ xs) (suc i) lt = slice_get-take n xs i (omega arith)

-- the choices of the legs and changes before the new ones stay
pub slice_get-old_item : {X : Type 0} (xs ys : List X) (x : X) (i : ℕ) → ys ≡ xs ++ x ∷ [] → i < length xs → slice_get xs i ≡ slice_get ys i
slice_get-old_item xs ys x i e lt = rw e (sym (slice_get-append_left xs (x ∷ []) i lt))

-- the new choice is the last
pub slice_get-new_item : {X : Type 0} (xs ys : List X) (x : X) (n : ℕ) → length xs ≡ n → ys ≡ xs ++ x ∷ [] → slice_get ys n ≡ Some x
slice_get-new_item xs ys x n long e = rw e (slice_get-push_last xs x n (sym long))

-- what holds of each item holds of one that is got by its place
pub All-slice_get : {X : Type 0} (P : X → Type 0) (xs : List X) (i : ℕ) (x : X) → slice_get xs i ≡ Some x → All P xs → P x
All-slice_get P xs i x got all = subst P (get_or_from_slice_get xs i x x got) (all i x (slice_get_within xs i x got))

-- what holds of whatever stands at a place holds of what is got there
pub ForItem-slice_get : {X : Type 0} (P : X → Type 0) (xs : List X) (i : ℕ) (x : X) → slice_get xs i ≡ Some x → ForItem xs i P → P x
ForItem-slice_get P xs i x got item = subst P (get_or_from_slice_get xs i x x got) (item x (slice_get_within xs i x got))

-- two places of a list are one where no two places have items in such a relation, and these do
pub same-place : {X : Type 0} (R : X → X → Type 0) (xs : List X) (i j : ℕ) (x y : X) → AllPairs (λ a b. ¬ (R a b)) xs → (R x y → R y x) → slice_get xs i ≡ Some x → slice_get xs j ≡ Some y → R x y → i ≡ j
same-place R xs i j x y apart turn gx gy same = step (cases_lt i j) (cases_lt j i)
  where
    step : (i < j) ⊎ (j ≤ i) → (j < i) ⊎ (i ≤ j) → i ≡ j
    step (inl lt) _ = absurd (apart i j x lt (slice_get_within xs j y gy) (rw (get_or_from_slice_get xs i x x gx, get_or_from_slice_get xs j y x gy) same))
    step (inr le) (inl lt) = absurd (apart j i x lt (slice_get_within xs i x gx) (rw (get_or_from_slice_get xs j y x gy, get_or_from_slice_get xs i x x gx) (turn same)))
    step (inr le) (inr ge) = omega arith

-- two rows with one key are one row
pub same-key : {X K : Type 0} (key : X → K) (xs : List X) (i j : ℕ) (x y : X) → AllPairs (λ a b. key a ≢ key b) xs → slice_get xs i ≡ Some x → slice_get xs j ≡ Some y → key x ≡ key y → i ≡ j
same-key key xs i j x y apart gx gy same = same-place (λ a b. key a ≡ key b) xs i j x y apart sym gx gy same

-- two rows with one key of two parts are one row
pub same-keys : {X K L : Type 0} (key : X → K) (part : X → L) (xs : List X) (i j : ℕ) (x y : X) → AllPairs (λ a b. key a ≡ key b → part a ≢ part b) xs → slice_get xs i ≡ Some x → slice_get xs j ≡ Some y → key x ≡ key y → part x ≡ part y → i ≡ j
same-keys key part xs i j x y apart gx gy same also =
    same-place
    (λ a b. (key a ≡ key b) × (part a ≡ part b))
    xs
    i
    j
    x
    y
    (λ a b d lt within both. apart a b d lt within both.0 both.1)
    (λ both. (sym both.0, sym both.1))
    gx
    gy
    (same, also)

module _ {X : Type 0} where
  -- an item at its own place
  get_or_same : (xs : List X) (k : ℕ) (d : X) → k < length xs → get_or xs k (get_or xs k d) ≡ get_or xs k d
  get_or_same [] k d lt = absurd (omega arith)
  get_or_same (x ∷ xs) zero d lt = refl
  get_or_same (x ∷ xs) (suc k) d lt = get_or_same xs k d (omega arith)

  -- what holds of each member holds of each item
  pub All-from : (P : X → Type 0) (xs : List X) → ((x : X) → Contains xs x → P x) → All P xs
  All-from P xs each k d lt = each (get_or xs k d) (k, lt, get_or_same xs k d lt)

  -- a list after another, each as ordered, and each item of the one before each of the other
  pub AllPairs-append : (R : X → X → Type 0) (xs ys : List X) → AllPairs R xs → AllPairs R ys → ((x y : X) → Contains xs x → Contains ys y → R x y) → AllPairs R (xs ++ ys)
  AllPairs-append R [] ys one other between = other
  AllPairs-append R (x ∷ xs) ys one other between =
      AllPairs-cons R x (xs ++ ys) (All-append (R x) xs ys (AllPairs-head R x xs one) (All-from (R x) ys (λ y at. between x y (Contains-cons_first x xs) at))) (AllPairs-append R xs ys (AllPairs-tail R x xs one) other (λ a b at also. between a b (Contains-cons_later x xs a at) also))

  -- a member, by its place
  pub Contains-slice_get : (xs : List X) (i : ℕ) (x : X) → slice_get xs i ≡ Some x → Contains xs x
  Contains-slice_get xs i x got = (i, slice_get_within xs i x got, get_or_from_slice_get xs i x x got)

  pub slice_get-Contains : (xs : List X) (x : X) → Contains xs x → (i : ℕ) × (slice_get xs i ≡ Some x)
  slice_get-Contains xs x at = (at.0, slice_get-get_or xs at.0 x at.1 ∙ ap Some at.2)

-- the test fails at each element where it holds of none
pub none_holds : {X : Type 0} (test : X → Bool) (xs : List X) (k : ℕ) (d : X) → list_any test xs ≡ false → k < length xs → test (slice_index_or xs k d) ≡ false
none_holds test [] k d e lt = absurd (omega (arith, lt))
none_holds test (x ∷ xs) zero d e lt = (or_false (test x) (list_any test xs) e).0
none_holds test (x ∷ xs) (suc k) d e lt = none_holds test xs k d (or_false (test x) (list_any test xs) e).1 (omega (arith, lt))

-- a list of one item
pub one_item : {X : Type 0} (xs : List X) → length xs ≡ 1 → (x : X) × (xs ≡ x ∷ [])
one_item [] long = absurd (omega arith)
one_item (x ∷ []) long = (x, refl)
one_item (x ∷ y ∷ xs) long = absurd (omega arith)

pub no_item : {X : Type 0} (xs : List X) → length xs ≡ 0 → xs ≡ []
no_item [] long = refl
no_item (x ∷ xs) long = absurd (omega arith)

-- a list is cut at a place, and again at a later one
pub cut_further : {X : Type 0} (xs : List X) (from to : ℕ) → from ≤ to → take to xs ≡ take from xs ++ slice_range xs from to
cut_further xs from to le = let e : from + (to - from) ≡ to = omega arith in subst (λ n. take n xs ≡ take from xs ++ slice_range xs from to) e (take-add from (to - from) xs)

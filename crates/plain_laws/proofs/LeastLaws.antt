-- Among items that pass a test, one of least measure.
use Rattle.std.proofs.Common.{◌≡◌, refl, sym, ℕ, zero, suc, Bool, true, false, not, ◌&&◌, ◌||◌, List, [], ◌∷◌}
use Rattle.std.specs.Prelude.{Some, slice_get}
use Rattle.std.specs.List.{list_any, list_all}
use Rattle.std.proofs.lemmas.Bool.{and_parts}

-- one of the items passes, and no item that passes has a lesser measure
pub record HasLeast (X C : Type 0) (test : X → Bool) (measure : X → C) (le : C → C → Bool) (xs : List X) : Type 0 where
  pub item : X
  pub passes : test item ≡ true
  pub least : list_all (λ x. not (test x) || le (measure item) (measure x)) xs ≡ true
  pub is_item : (p : X → Bool) → p item ≡ true → list_any p xs ≡ true

module _ {X C : Type 0} (test : X → Bool) (measure : X → C) (le : C → C → Bool)
    (le-trans : (a b c : C) → le a b ≡ true → le b c ≡ true → le a c ≡ true)
    (le-either : (a b : C) → (le a b || le b a) ≡ true) where
  -- what is at most b is at most each that b is at most
  below_all : (a b : C) (xs : List X) → le a b ≡ true →
      list_all (λ x. not (test x) || le b (measure x)) xs ≡ true →
      list_all (λ x. not (test x) || le a (measure x)) xs ≡ true
  below_all a b [] ab all = refl
  below_all a b (x ∷ xs) ab all =
      let parts = and_parts (not (test x) || le b (measure x)) _ all in
      rw (below_all a b xs ab parts.1) (step (test x) parts.0)
    where
      step : (t : Bool) → (not t || le b (measure x)) ≡ true → ((not t || le a (measure x)) && true) ≡ true
      step false h = refl
      step true h = let ac = le-trans a b (measure x) ab h in rw ac refl

  -- where none passes, nothing is asked
  below_none : (a : C) (xs : List X) → list_any test xs ≡ false →
      list_all (λ x. not (test x) || le a (measure x)) xs ≡ true
  below_none a [] none = refl
  below_none a (x ∷ xs) none = step (test x) none (below_none a xs)
    where
      step : (t : Bool) → (t || list_any test xs) ≡ false →
          (list_any test xs ≡ false → list_all (λ y. not (test y) || le a (measure y)) xs ≡ true) →
          ((not t || le a (measure x)) && list_all (λ y. not (test y) || le a (measure y)) xs) ≡ true
      step true none before = absurd (cc)
      step false none before = before none

  -- where some item passes, one of least measure does
  pub least_of_some : (xs : List X) → list_any test xs ≡ true → HasLeast X C test measure le xs
  least_of_some [] some = absurd (cc)
  least_of_some (x ∷ xs) some = step (test x) refl (list_any test xs) refl some (least_of_some xs)
    where
      head : test x ≡ true → list_all (λ y. not (test y) || le (measure x) (measure y)) xs ≡ true →
          HasLeast X C test measure le (x ∷ xs)
      head e below = record {
        item = x;
        passes = e;
        least = rw (below, self (measure x) (test x)) refl;
        is_item = λ p h. rw h refl;
      }
        where
          self : (c : C) (t : Bool) → (not t || le c c) ≡ true
          self c false = refl
          self c true = of_both (le c c) (le-either c c)
            where
              of_both : (b : Bool) → (b || b) ≡ true → b ≡ true
              of_both true h = refl
              of_both false h = h

      tail : (t : Bool) → test x ≡ t → (l : HasLeast X C test measure le xs) →
          (not t || le (measure l.item) (measure x)) ≡ true → HasLeast X C test measure le (x ∷ xs)
      tail t e l ge = record {
        item = l.item;
        passes = l.passes;
        least = let rest = l.least in rw (e, ge, rest) refl;
        is_item = λ p h. later (p x) _ (l.is_item p h);
      }
        where
          later : (a b : Bool) → b ≡ true → (a || b) ≡ true
          later true b h = refl
          later false b h = h

      both : test x ≡ true → (l : HasLeast X C test measure le xs) → (a b : Bool) →
          le (measure x) (measure l.item) ≡ a → le (measure l.item) (measure x) ≡ b → (a || b) ≡ true →
          HasLeast X C test measure le (x ∷ xs)
      both e l true b below above or = head e (below_all (measure x) (measure l.item) xs below l.least)
      both e l false true below above or = tail true e l above
      both e l false false below above or = absurd (cc)

      step : (t : Bool) → test x ≡ t → (s : Bool) → list_any test xs ≡ s → (t || s) ≡ true →
          (list_any test xs ≡ true → HasLeast X C test measure le xs) → HasLeast X C test measure le (x ∷ xs)
      step true e false none some before = head e (below_none (measure x) xs none)
      step true e true more some before =
          let l = before more in
          both e l (le (measure x) (measure l.item)) (le (measure l.item) (measure x)) refl refl
          (le-either (measure x) (measure l.item))
      step false e true more some before = tail false e (before more) refl
      step false e false none some before = absurd (cc)

-- the one test passes some item where the other does
pub any_of_any : {X : Type 0} (p q : X → Bool) (xs : List X) → ((x : X) → p x ≡ true → q x ≡ true) →
    list_any p xs ≡ true → list_any q xs ≡ true
any_of_any p q [] each some = some
any_of_any p q (x ∷ xs) each some = step (p x) refl some (any_of_any p q xs each)
  where
    step : (b : Bool) → p x ≡ b → (b || list_any p xs) ≡ true → (list_any p xs ≡ true → list_any q xs ≡ true) →
        (q x || list_any q xs) ≡ true
    step true e some before = let here = each x e in rw here refl
    step false e some before = or_true (q x) _ (before some)
      where
        or_true : (a b : Bool) → b ≡ true → (a || b) ≡ true
        or_true true b h = refl
        or_true false b h = h

-- what each item passes, the item at a place passes
pub list_all-at : {X : Type 0} (p : X → Bool) (xs : List X) (i : ℕ) (x : X) → list_all p xs ≡ true →
    slice_get xs i ≡ Some x → p x ≡ true
list_all-at p [] i x all at = absurd (cc)
list_all-at p (y ∷ xs) zero x all at = let same : y ≡ x = cc in rw (sym same) (and_parts (p y) _ all).0
list_all-at p (y ∷ xs) (suc i) x all at = list_all-at p xs i x (and_parts (p y) _ all).1 at

-- and what the item at each place passes, each item passes
pub list_all-from : {X : Type 0} (p : X → Bool) (xs : List X) →
    ((i : ℕ) (x : X) → slice_get xs i ≡ Some x → p x ≡ true) → list_all p xs ≡ true
list_all-from p [] each = refl
list_all-from p (x ∷ xs) each = let here = each 0 x refl in rw here (list_all-from p xs (λ i y at. each (suc i) y at))

-- an item at a place passes where none is said to fail
pub list_any-place : {X : Type 0} (p : X → Bool) (xs : List X) (i : ℕ) (x : X) → slice_get xs i ≡ Some x →
    p x ≡ true → list_any p xs ≡ true
list_any-place p [] i x at passes = absurd (cc)
list_any-place p (y ∷ xs) zero x at passes = let same : y ≡ x = cc in rw same (rw passes refl)
list_any-place p (y ∷ xs) (suc i) x at passes = or_true (p y) _ (list_any-place p xs i x at passes)
  where
    or_true : (a b : Bool) → b ≡ true → (a || b) ≡ true
    or_true true b h = refl
    or_true false b h = h

-- an item that passes stands somewhere
pub record HasPlace (X : Type 0) (p : X → Bool) (xs : List X) : Type 0 where
  pub index : ℕ
  pub item : X
  pub is : slice_get xs index ≡ Some item
  pub passes : p item ≡ true

pub place_of_any : {X : Type 0} (p : X → Bool) (xs : List X) → list_any p xs ≡ true → HasPlace X p xs
place_of_any {X} p [] some = absurd (cc)
place_of_any {X} p (x ∷ xs) some = step (p x) refl some (place_of_any p xs)
  where
    step : (b : Bool) → p x ≡ b → (b || list_any p xs) ≡ true → (list_any p xs ≡ true → HasPlace X p xs) →
        HasPlace X p (x ∷ xs)
    step true e some before = record { index = 0; item = x; is = refl; passes = e }
    step false e some before = let place = before some in record { index = suc place.index; item = place.item; is = place.is; passes = place.passes }

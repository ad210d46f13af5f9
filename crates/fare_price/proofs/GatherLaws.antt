-- What is kept of offers that are made one after another.
use Rattle.std.proofs.Common.{◌≡◌, subst, append_assoc, sym, ◌∙◌, ap, ℕ, ◌+◌, ◌<◌, ◌≤◌, Bool, List, [], ◌∷◌, ◌++◌, length, get_or, take, take_all, map}
use Rattle.std.specs.Prelude.{Some, slice_get, Result, Ok, Err, OnOk}
use Rattle.std.proofs.lemmas.List.{take_more, map-append}
use Rattle.std.proofs.lemmas.Option.{slice_get_within, get_or_from_slice_get}
use Rattle.label_bag.specs.Bags.{Gathers}
use Rattle.label_bag.proofs.BagLaws.{gathers-then}

module _ {X : Type 0} (at_most : X → X → Bool) where
  -- the offer of one item more
  pub gathers_map : {Y : Type 0} (f : Y → X) (ys : List Y) (i : ℕ) (d : Y) (old mid new : List X) → i < length ys →
      Gathers at_most old (map f (take i ys)) mid → Gathers at_most mid (f (get_or ys i d) ∷ []) new →
      Gathers at_most old (map f (take (i + 1) ys)) new
  gathers_map f ys i d old mid new lt before last =
      subst (λ xs. Gathers at_most old xs new)
      (sym (ap (map f) (take_more ys i d lt) ∙ map-append f (take i ys) (get_or ys i d ∷ [])))
      (gathers-then at_most old mid new (map f (take i ys)) (f (get_or ys i d) ∷ []) before last)

  -- the offers of all items
  pub gathers_map-all : {Y : Type 0} (f : Y → X) (ys : List Y) (i : ℕ) (old new : List X) → length ys ≤ i →
      Gathers at_most old (map f (take i ys)) new → Gathers at_most old (map f ys) new
  gathers_map-all f ys i old new past made = subst (λ zs. Gathers at_most old (map f zs) new) (take_all i ys past) made

-- ---- lists, item by item

-- the first items, with one more
pub take_next : {X : Type 0} (xs : List X) (i : ℕ) (x : X) → slice_get xs i ≡ Some x →
    take (i + 1) xs ≡ take i xs ++ x ∷ []
take_next xs i x is =
    take_more xs i x (slice_get_within xs i x is) ∙ ap (λ y. take i xs ++ y ∷ []) (get_or_from_slice_get xs i x x is)

-- one item more of a list that is copied
pub taken_more : {X : Type 0} (xs : List X) (i : ℕ) (x : X) (old mid new : List X) → slice_get xs i ≡ Some x →
    mid ≡ old ++ take i xs → new ≡ mid ++ x ∷ [] → new ≡ old ++ take (i + 1) xs
taken_more xs i x old mid new is before more =
    more
    ∙ ap (λ ys. ys ++ x ∷ []) before
    ∙ append_assoc old (take i xs) (x ∷ [])
    ∙ ap (λ ys. old ++ ys) (sym (take_next xs i x is))

-- what is known of an answer without a fault, and what follows
pub OnOk_then : {A E P Q : Type 0} (r : Result A E) → (P → Q) → OnOk r P → OnOk r Q
OnOk_then (Ok a) f p = f p
OnOk_then (Err e) f p = tt

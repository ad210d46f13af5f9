-- A list with one item more at a place.
use Rattle.std.proofs.Common.{◌≡◌, ◌≢◌, ◌∙◌, ap, ℕ, ◌+◌, ◌-◌, ◌<◌, ◌≤◌, ◌⊎◌, List, length, get_or, insert, AllPairs, arith, sym, Bool, ◌||◌, ◌∷◌, take, drop, All}
use mathlib.Core.Logic.{inl, inr}
use Rattle.std.proofs.lemmas.Bool.{cases_lt, cases_eq}
use Rattle.std.proofs.lemmas.List.Edits.{length-insert, get_or-insert_below, get_or-insert_at, get_or-insert_above}
use Rattle.std.specs.List.{list_any}
use Rattle.std.proofs.lemmas.List.{take-append-drop}
use Rattle.std.proofs.lemmas.List.Folds.{list_any-append}
use Rattle.std.proofs.lemmas.List.Elements.{All-append, All-take, All-drop, All-cons}

module _ {X : Type 0} where
  -- what stands in order stays so where a new member is set in at its place
  pub AllPairs-insert : (R : X → X → Type 0) (xs : List X) (n : ℕ) (y : X) → n ≤ length xs → AllPairs R xs →
      ((k : ℕ) (d : X) → k < n → R (get_or xs k d) y) → ((k : ℕ) (d : X) → n ≤ k → k < length xs → R y (get_or xs k d)) →
      AllPairs R (insert xs n y)
  AllPairs-insert R xs n y le h low high i j d lt within = by (cases_lt j n) (cases_eq j n) (cases_lt i n) (cases_eq i n)
    where
      long : length (insert xs n y) ≡ length xs + 1
      long = length-insert xs n y le

      at_new : (k : ℕ) → k ≡ n → get_or (insert xs n y) k d ≡ y
      at_new k same = ap (λ m. get_or (insert xs n y) m d) same ∙ get_or-insert_at xs n y d le

      at_past : (k : ℕ) → n < k → get_or (insert xs n y) k d ≡ get_or xs (k - 1) d
      at_past k past =
          let back : k ≡ (k - 1) + 1 = omega arith in
          ap (λ m. get_or (insert xs n y) m d) back ∙ get_or-insert_above xs n y d (k - 1) (omega arith) le

      at_low : (k : ℕ) → k < n → get_or (insert xs n y) k d ≡ get_or xs k d
      at_low k below = get_or-insert_below xs n y d k below le

      by : (j < n) ⊎ (n ≤ j) → (j ≡ n) ⊎ (j ≢ n) → (i < n) ⊎ (n ≤ i) → (i ≡ n) ⊎ (i ≢ n) → R (get_or (insert xs n y) i d) (get_or (insert xs n y) j d)
      by (inl jn) _ _ _ = rw (at_low i (omega arith), at_low j jn) (h i j d lt (omega arith))
      by (inr nj) (inl same) (inl below) _ = rw (at_low i below, at_new j same) (low i d below)
      by (inr nj) (inl same) (inr above) _ = absurd (omega arith)
      by (inr nj) (inr past) (inl below) _ = rw (at_low i below, at_past j (omega arith)) (h i (j - 1) d (omega arith) (let long' = long in omega arith))
      by (inr nj) (inr past) (inr above) (inl at) = rw (at_new i at, at_past j (omega arith)) (high (j - 1) d (omega arith) (let long' = long in omega arith))
      by (inr nj) (inr past) (inr above) (inr over) = rw (at_past i (omega arith), at_past j (omega arith)) (h (i - 1) (j - 1) d (omega arith) (let long' = long in omega arith))

  -- a list with a new member has what it had
  pub list_any-insert : (p : X → Bool) (xs : List X) (n : ℕ) (y : X) → list_any p (insert xs n y) ≡ (p y || list_any p xs)
  list_any-insert p xs n y =
      let halves : list_any p xs ≡ (list_any p (take n xs) || list_any p (drop n xs)) = ap (list_any p) (sym (take-append-drop n xs)) ∙ list_any-append p (take n xs) (drop n xs) in
      grind (arith, halves, list_any-append p (take n xs) (y ∷ drop n xs))

  -- each of its members was one, or is the new one
  pub All-insert : (P : X → Type 0) (xs : List X) (n : ℕ) (e : X) → All P xs → P e → All P (insert xs n e)
  All-insert P xs n e h p = All-append P (take n xs) (e ∷ drop n xs) (All-take P n xs h) (All-cons P e (drop n xs) p (All-drop P n xs h))

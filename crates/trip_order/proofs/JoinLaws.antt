-- Lists that are made of the items of another, one after another.
use Rattle.std.proofs.Common.{◌≡◌, sym, ◌∙◌, ap, subst, ℕ, zero, suc, ◌+◌, ◌-◌, ◌<◌, List, [], ◌∷◌, ◌++◌, length, get_or, set, append_assoc, ◌≤◌, arith, IsPermutation}
use Rattle.std.specs.List.{flat_map, swap}
use Rattle.std.proofs.lemmas.List.{get_or_default, append-nil}
use Rattle.std.proofs.lemmas.List.Elements.{All-push}
use Rattle.std.proofs.lemmas.List.Concat.{flat_map-append}
use Rattle.std.proofs.lemmas.List.Sorted.{IsPermutation-refl, IsPermutation-trans, IsPermutation-keeps, IsPermutation-append_left, IsPermutation-append_right, IsPermutation-append_comm}
use Rattle.trip_order.specs.declared.keys.PlaceKey.{PlaceKey}
use Rattle.trip_order.specs.declared.stretches.Stretch.{Stretch}
use Rattle.trip_order.specs.Joined.{keys_within, LiesWithin, AreCut}
use Rattle.trip_order.specs.Order.{key_of}
use Rattle.plain_laws.specs.Plain.{list_below}
use Rattle.feed_rows.specs.declared.rows.StopTimeRow.{StopTimeRow}

module _ {X Y : Type 0} (f : X → List Y) where
  abbrev all : List X → List Y
  all xs = flat_map f xs

  -- the first two of three parts change places
  turned : (a b rest : List Y) → IsPermutation (a ++ (b ++ rest)) (b ++ (a ++ rest))
  turned a b rest =
      let whole = IsPermutation-append_left rest (a ++ b) (b ++ a) (IsPermutation-append_comm a b) in
      subst (λ xs. IsPermutation xs (b ++ (a ++ rest))) (append_assoc a b rest) (subst (λ ys. IsPermutation ((a ++ b) ++ rest) ys) (append_assoc b a rest) whole)

  -- an item before the others changes places with one of them
  first_exchanged : (xs : List X) (j : ℕ) (x y : X) → j < length xs → get_or xs j y ≡ y → IsPermutation (f x ++ all xs) (f y ++ all (set xs j x))
  first_exchanged [] j x y lt is = absurd (omega arith)
  first_exchanged (w ∷ ws) zero x y lt is = subst (λ v. IsPermutation (f x ++ (f w ++ all ws)) (f v ++ (f x ++ all ws))) is (turned (f x) (f w) (all ws))
  first_exchanged (w ∷ ws) (suc j) x y lt is =
      let rest = IsPermutation-append_right (f w) (f x ++ all ws) (f y ++ all (set ws j x)) (first_exchanged ws j x y (omega arith) is) in
      IsPermutation-trans (f x ++ (f w ++ all ws)) (f w ++ (f x ++ all ws)) (f y ++ (f w ++ all (set ws j x))) (turned (f x) (f w) (all ws))
      (IsPermutation-trans (f w ++ (f x ++ all ws)) (f w ++ (f y ++ all (set ws j x))) (f y ++ (f w ++ all (set ws j x))) rest (turned (f w) (f y) (all (set ws j x))))

  -- two items change places
  exchanged : (xs : List X) (i j : ℕ) (x y : X) → i < length xs → j < length xs → get_or xs i x ≡ x → get_or xs j y ≡ y → IsPermutation (all xs) (all (set (set xs i y) j x))
  exchanged [] i j x y li lj ex ey = absurd (omega arith)
  exchanged (w ∷ ws) zero zero x y li lj ex ey = subst (λ v. IsPermutation (f w ++ all ws) (f v ++ all ws)) ex (IsPermutation-refl (f w ++ all ws))
  exchanged (w ∷ ws) zero (suc j) x y li lj ex ey = subst (λ v. IsPermutation (f w ++ all ws) (f y ++ all (set ws j v))) ex (first_exchanged ws j w y (omega arith) ey)
  exchanged (w ∷ ws) (suc i) zero x y li lj ex ey = subst (λ v. IsPermutation (f w ++ all ws) (f x ++ all (set ws i v))) ey (first_exchanged ws i w x (omega arith) ex)
  exchanged (w ∷ ws) (suc i) (suc j) x y li lj ex ey = IsPermutation-append_right (f w) (all ws) (all (set (set ws i y) j x)) (exchanged ws i j x y (omega arith) (omega arith) ex ey)

  swapped : (xs : List X) (i j : ℕ) → i < length xs → j < length xs → IsPermutation (all xs) (all (swap xs i j))
  swapped [] i j li lj = absurd (omega arith)
  swapped (d ∷ ys) i j li lj =
      let x = get_or (d ∷ ys) i d in
      let y = get_or (d ∷ ys) j d in
      exchanged (d ∷ ys) i j x y li lj (get_or_default (d ∷ ys) i x d li) (get_or_default (d ∷ ys) j y d lj)

  -- lists in another order, joined, have the same items
  pub joined_IsPermutation : (xs ys : List X) → IsPermutation xs ys → IsPermutation (flat_map f xs) (flat_map f ys)
  joined_IsPermutation xs ys moved =
      IsPermutation-keeps xs (λ l. IsPermutation (all xs) (all l)) (IsPermutation-refl (all xs)) (λ l i j li lj p. IsPermutation-trans (all xs) (all l) (all (swap l i j)) p (swapped l i j li lj)) ys moved

-- the first rows, and those from there on
list_below_on : {X : Type 0} (f : ℕ → X) (from n : ℕ) →
    list_below (from + n) f ≡ list_below from f ++ list_below n (λ k. f (from + k))
list_below_on f from zero = let none : from + 0 ≡ from = omega arith in rw none (sym (append-nil (list_below from f)))
list_below_on f from (suc n) =
    let next : from + suc n ≡ suc (from + n) = omega arith in
    rw next
    (ap (λ xs. xs ++ f (from + n) ∷ []) (list_below_on f from n)
    ∙ append_assoc (list_below from f) (list_below n (λ k. f (from + k))) (f (from + n) ∷ []))

-- one stretch more reaches further
pub joined_further : (times : List StopTimeRow) (stretches : List Stretch) (stretch : Stretch) →
    AreCut times stretches stretch.from → stretch.from ≤ stretch.to → stretch.to ≤ length times →
    AreCut times (stretches ++ stretch ∷ []) stretch.to
joined_further times stretches stretch cut le within =
    let whole : stretch.from + (stretch.to - stretch.from) ≡ stretch.to = omega arith in
    record {
      joined = flat_map-append (keys_within times) stretches (stretch ∷ [])
          ∙ ap (λ xs. xs ++ (keys_within times stretch ++ [])) cut.joined
          ∙ ap (λ xs. list_below stretch.from (key_of times) ++ xs) (append-nil (keys_within times stretch))
          ∙ sym (list_below_on (key_of times) stretch.from (stretch.to - stretch.from))
          ∙ ap (λ n. list_below n (key_of times)) whole;
      within = All-push (LiesWithin times) stretches stretch cut.within (record { forward = le; ends = within });
    }

-- in any order they have the same keys
pub joined_permutation : (times : List StopTimeRow) (old new : List Stretch) → AreCut times old (length times) →
    IsPermutation old new →
    IsPermutation (list_below (length times) (key_of times)) (flat_map (keys_within times) new)
joined_permutation times old new cut moved =
    subst (λ xs. IsPermutation xs (flat_map (keys_within times) new)) cut.joined
    (joined_IsPermutation (keys_within times) old new moved)

-- one key more of a stretch
pub keys_more : (times : List StopTimeRow) (stretch : Stretch) (row : ℕ) (old mid new : List PlaceKey) →
    stretch.from ≤ row →
    mid ≡ old ++ list_below (row - stretch.from) (λ k. key_of times (stretch.from + k)) →
    new ≡ mid ++ key_of times row ∷ [] →
    new ≡ old ++ list_below (row + 1 - stretch.from) (λ k. key_of times (stretch.from + k))
keys_more times stretch row old mid new le before pushed =
    let next : row + 1 - stretch.from ≡ suc (row - stretch.from) = omega arith in
    let here : stretch.from + (row - stretch.from) ≡ row = omega arith in
    rw next
    (pushed ∙ ap (λ xs. xs ++ key_of times row ∷ []) before
    ∙ append_assoc old (list_below (row - stretch.from) (λ k. key_of times (stretch.from + k))) (key_of times row ∷ [])
    ∙ ap (λ n. old ++ (list_below (row - stretch.from) (λ k. key_of times (stretch.from + k)) ++ key_of times n ∷ [])) (sym here))

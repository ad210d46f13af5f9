-- The least of some things, found one by one.
use Rattle.std.proofs.Common.{◌≡◌, refl, sym, ◌∙◌, ap, subst, ℕ, ◌+◌, ◌<◌, Bool, true, false, List, [], ◌∷◌, ◌++◌, length, take, arith, ℤ, ◌≤ℤ◌}
use Rattle.std.specs.Prelude.{if◌then◌else◌, Option, Some, None, slice_get, int_le, All, Contains, MatchOption}
use Rattle.std.proofs.lemmas.Int.{ints}
use Rattle.std.proofs.lemmas.List.{take_more}
use Rattle.std.proofs.lemmas.List.Elements.{All-push, All-weaker}
use Rattle.std.proofs.lemmas.Option.{get_or_from_slice_get, slice_get_within}
use Rattle.plain_laws.specs.Lesser.{IsLeastBy, lesser_by}
use Rattle.plain_laws.proofs.NumberLaws.{int_le-true}
use Rattle.plain_laws.proofs.PlaceLaws.{Contains-slice_get}

-- the least of those so far, and one more
pub lesser_more : {X : Type 0} (cost : X → ℤ) (xs : List X) (i : ℕ) (item : X) (least : Option X) → slice_get xs i ≡ Some item →
    MatchOption least (i ≡ 0) (IsLeastBy cost xs (take i xs)) → IsLeastBy cost xs (take (i + 1) xs) (lesser_by cost least item)
lesser_more {X} cost xs i item least is before = by least before
  where
    here : Contains xs item
    here = Contains-slice_get xs i item is

    longer : take i xs ++ item ∷ [] ≡ take (i + 1) xs
    longer =
        sym (take_more xs i item (slice_get_within xs i item is)
        ∙ ap (λ x. take i xs ++ x ∷ []) (get_or_from_slice_get xs i item item is))

    itself : (x : ℤ) → x ≤ℤ x
    itself x = omega (arith, ints)

    more : (w : X) → Contains xs w → All (λ y. cost w ≤ℤ cost y) (take i xs) → cost w ≤ℤ cost item →
        IsLeastBy cost xs (take (i + 1) xs) w
    more w at each le =
        (at, subst (All (λ y. cost w ≤ℤ cost y)) longer (All-push (λ y. cost w ≤ℤ cost y) (take i xs) item each le))

    through : (a b c : ℤ) → a ≤ℤ b → b ≤ℤ c → a ≤ℤ c
    through a b c p q = omega (arith, ints, p, q)

    less : (a b : ℤ) → int_le a b ≡ false → b ≤ℤ a
    less a b e = grind (arith, ints)

    choose : (w : X) → IsLeastBy cost xs (take i xs) w → (b : Bool) → int_le (cost w) (cost item) ≡ b →
        IsLeastBy cost xs (take (i + 1) xs) (if b then w else item)
    choose w least true le = more w least.0 least.1 (int_le-true (cost w) (cost item) le)
    choose w least false gt =
        more item here
        (All-weaker (λ y. cost w ≤ℤ cost y) (λ y. cost item ≤ℤ cost y)
        (λ y le. through (cost item) (cost w) (cost y) (less (cost w) (cost item) gt) le) (take i xs) least.1)
        (itself (cost item))

    by : (o : Option X) → MatchOption o (i ≡ 0) (IsLeastBy cost xs (take i xs)) →
        IsLeastBy cost xs (take (i + 1) xs) (lesser_by cost o item)
    by None none = more item here (λ k e lt. absurd (no_less k e lt)) (itself (cost item))
      where
        no_less : (k : ℕ) (e : X) → k < length (take i xs) → ⊥
        no_less k e lt =
            let none' : take i xs ≡ [] = ap (λ n. take n xs) none in
            let lt' : k < 0 = subst (λ (ys : List X). k < length ys) none' lt in
            omega arith
    by (Some w) least = choose w least (int_le (cost w) (cost item)) refl

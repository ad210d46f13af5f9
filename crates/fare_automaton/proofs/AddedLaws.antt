-- Lists to which a loop adds what each item gives.
use Rattle.std.proofs.Common.{◌≡◌, sym, ◌∙◌, ap, ℕ, ◌+◌, ◌<◌, ◌≤◌, List, [], ◌∷◌, ◌++◌, take, get_or, length, map, append_assoc, take_all}
use Rattle.std.specs.Prelude.{flat_map}
use Rattle.std.proofs.lemmas.List.{take_more, map_more, flat_map_more}

-- one item more gives one thing
pub map_added : {X Y : Type 0} (f : X → Y) (xs : List X) (i : ℕ) (d : X) (old before now : List Y) → i < length xs
    → before ≡ old ++ map f (take i xs) → now ≡ before ++ f (get_or xs i d) ∷ [] → now ≡ old ++ map f (take (i + 1) xs)
map_added f xs i d old before now lt is made =
    made ∙ ap (λ ys. ys ++ f (get_or xs i d) ∷ []) is ∙ append_assoc old (map f (take i xs)) (f (get_or xs i d) ∷ [])
    ∙ ap (λ ys. old ++ ys) (sym (map_more f xs i d lt))

-- and one item more gives some
pub flat_added : {X Y : Type 0} (f : X → List Y) (xs : List X) (i : ℕ) (d : X) (old before now : List Y) → i < length xs
    → before ≡ old ++ flat_map f (take i xs) → now ≡ before ++ f (get_or xs i d)
    → now ≡ old ++ flat_map f (take (i + 1) xs)
flat_added f xs i d old before now lt is made =
    made ∙ ap (λ ys. ys ++ f (get_or xs i d)) is ∙ flat_map_more f old (take i xs) (get_or xs i d)
    ∙ ap (λ ys. old ++ flat_map f ys) (sym (take_more xs i d lt))

-- and one item more stands after those before it
pub taken_more : {X : Type 0} (xs : List X) (i : ℕ) (d : X) (before now : List X) → i < length xs → before ≡ take i xs
    → now ≡ before ++ get_or xs i d ∷ [] → now ≡ take (i + 1) xs
taken_more xs i d before now lt is made = made ∙ ap (λ ys. ys ++ get_or xs i d ∷ []) is ∙ sym (take_more xs i d lt)

-- at the end each item gave its own
pub map_whole : {X Y : Type 0} (f : X → Y) (xs : List X) (i : ℕ) (old now : List Y) → length xs ≤ i
    → now ≡ old ++ map f (take i xs) → now ≡ old ++ map f xs
map_whole f xs i old now past is = is ∙ ap (λ ys. old ++ map f ys) (take_all i xs past)

pub flat_whole : {X Y : Type 0} (f : X → List Y) (xs : List X) (i : ℕ) (old now : List Y) → length xs ≤ i
    → now ≡ old ++ flat_map f (take i xs) → now ≡ old ++ flat_map f xs
flat_whole f xs i old now past is = is ∙ ap (λ ys. old ++ flat_map f ys) (take_all i xs past)

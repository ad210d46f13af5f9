-- Lists that are joined and mapped, of what is picked by its number.
use Rattle.std.proofs.Common.{◌≡◌, refl, sym, ◌∙◌, ap, ℕ, zero, suc, Bool, true, false, List, [], ◌∷◌, ◌++◌, append_assoc, map}
use Rattle.std.specs.Prelude.{if◌then◌else◌, flat_map}
use Rattle.std.proofs.lemmas.List.{append-nil, map-append}
use Rattle.plain_laws.specs.Plain.{joined_below, picks_below}

flat_map-append : {X Y : Type 0} (g : X → List Y) (xs ys : List X) → flat_map g (xs ++ ys) ≡ flat_map g xs ++ flat_map g ys
flat_map-append g [] ys = refl
flat_map-append g (x ∷ xs) ys = ap (λ zs. g x ++ zs) (flat_map-append g xs ys) ∙ sym (append_assoc (g x) (flat_map g xs) (flat_map g ys))

-- the lists of what is picked join as those of all numbers do, where the others have none
pub flat_map-picks : {X Y : Type 0} (n : ℕ) (test : ℕ → Bool) (id : ℕ → X) (g : X → List Y) (f : ℕ → List Y)
    → ((i : ℕ) → (if test i then g (id i) else []) ≡ f i) → flat_map g (picks_below n test id) ≡ joined_below n f
flat_map-picks zero test id g f each = refl
flat_map-picks {X} {Y} (suc n) test id g f each =
    flat_map-append g (picks_below n test id) (if test n then id n ∷ [] else [])
    ∙ rw (flat_map-picks n test id g f each) (ap (λ zs. joined_below n f ++ zs) (last (test n) ∙ each n))
  where
    last : (b : Bool) → flat_map g (if b then id n ∷ [] else []) ≡ (if b then g (id n) else [])
    last true = append-nil (g (id n))
    last false = refl

-- what is picked, mapped
pub map-picks : {X Y : Type 0} (n : ℕ) (test : ℕ → Bool) (id : ℕ → X) (g : X → Y)
    → map g (picks_below n test id) ≡ picks_below n test (λ i. g (id i))
map-picks zero test id g = refl
map-picks {X} {Y} (suc n) test id g =
    map-append g (picks_below n test id) (if test n then id n ∷ [] else [])
    ∙ rw (map-picks n test id g) (ap (λ zs. picks_below n test (λ i. g (id i)) ++ zs) (last (test n)))
  where
    last : (b : Bool) → map g (if b then id n ∷ [] else []) ≡ (if b then g (id n) ∷ [] else [])
    last true = refl
    last false = refl

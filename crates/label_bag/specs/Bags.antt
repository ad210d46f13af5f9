-- Lists of labels of which none is at most another, and what they cover.
use Rattle.std.specs.Prelude.{◌≡◌, Bool, true, false, not, List, filter, All, AllPairs, Contains, ◌⊎◌}
use Rattle.std.specs.List.{list_any}

-- some member is at most the label
abbrev pub covers : {X : Type 0} → (X → X → Bool) → List X → X → Bool
covers at_most members label = list_any (λ m. at_most m label) members

-- no member is at most the label
abbrev pub IsUncovered : {X : Type 0} → (X → X → Bool) → List X → X → Type 0
IsUncovered at_most members label = All (λ m. at_most m label ≡ false) members

-- neither is at most the other
pub record Apart {X : Type 0} (at_most : X → X → Bool) (x y : X) : Type 0 where
  pub forth : at_most x y ≡ false
  pub back : at_most y x ≡ false

-- no member is at most another
abbrev pub AreApart : {X : Type 0} → (X → X → Bool) → List X → Type 0
AreApart at_most members = AllPairs (Apart at_most) members

-- the members that the label is not at most
abbrev pub not_above : {X : Type 0} → (X → X → Bool) → X → List X → List X
not_above at_most label members = filter (λ m. not (at_most label m)) members

-- what was covered still is, these labels are covered too, and each member was one before or is one of them
pub record Gathers {X : Type 0} (at_most : X → X → Bool) (old labels new : List X) : Type 0 where
  pub still : (x : X) → covers at_most old x ≡ true → covers at_most new x ≡ true
  pub each : All (λ x. covers at_most new x ≡ true) labels
  pub from : All (λ x. Contains old x ⊎ Contains labels x) new

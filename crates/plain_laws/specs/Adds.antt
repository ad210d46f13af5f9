-- What a call adds to a value: what the value covered stays covered, and so is a part more.
use Rattle.std.specs.Prelude.{◌≡◌, ◌⊎◌, List, length, All, Contains}

-- the new value covers what the old one did, and each of this part; and it is right beside the old one
pub record Adds {S : Type 0} {X : Type 0} (Right : S → S → Type 0) (Covers : S → X → Type 0) (Part : X → Type 0)
    (old new : S) : Type 0 where
  pub right : Right old new
  pub still : (x : X) → Covers old x → Covers new x
  pub all : (x : X) → Part x → Covers new x

-- ---- what may be asked of the new value beside the old one

-- there are as many
abbrev pub AsMany : {X : Type 0} → List X → List X → Type 0
AsMany old new = length new ≡ length old

-- where all items of the old list are so, all of the new one are
abbrev pub AllStay : {X : Type 0} → (X → Type 0) → List X → List X → Type 0
AllStay P old new = All P old → All P new

-- what else the new list has is so
abbrev pub OnlyBesides : {X : Type 0} → (X → Type 0) → List X → List X → Type 0
OnlyBesides {X} P old new = (x : X) → Contains new x → Contains old x ⊎ P x

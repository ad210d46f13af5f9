-- The least of some things, by what each costs.
use Rattle.std.specs.Prelude.{if◌then◌else◌, ◌≤ℤ◌, ℤ, All, Contains, List, None, Option, Some, int_le}

-- the one that costs less: the first, where both cost the same
abbrev pub lesser_by : {X : Type 0} → (X → ℤ) → Option X → X → X
lesser_by cost None one = one
lesser_by cost (Some other) one = if int_le (cost other) (cost one) then other else one

-- it is one of all, and costs no more than each of the first of them
abbrev pub IsLeastBy : {X : Type 0} → (X → ℤ) → List X → List X → X → Type 0
IsLeastBy cost all first x = Contains all x × All (λ y. cost x ≤ℤ cost y) first

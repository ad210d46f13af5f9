-- Fields that may be empty.
use Rattle.std.specs.Prelude.{Bool, true, Option, Some, None, false, ℕ, List, slice_get, if◌then◌else◌, [], ◌∷◌}
use Rattle.std.specs.Option.{option_or}

-- the field is empty, or its value passes the test
abbrev pub empty_or : {X : Type 0} → Option X → (X → Bool) → Bool
empty_or None test = true
empty_or (Some x) test = test x

-- the field is filled, and its value passes the test
abbrev pub filled_and : {X : Type 0} → Option X → (X → Bool) → Bool
filled_and None test = false
filled_and (Some x) test = test x

-- the list has an item at this place, and it passes the test
abbrev pub at_and : {X : Type 0} → List X → ℕ → (X → Bool) → Bool
at_and xs i test = filled_and (slice_get xs i) test

-- x, where the test holds
abbrev pub when : {X : Type 0} → Bool → X → Option X
when test x = if test then Some x else None

-- the first of these
abbrev pub first_of : {X : Type 0} → List (Option X) → Option X
first_of [] = None
first_of (o ∷ os) = option_or o (first_of os)

-- Look-ups that follow one another, read from the top down: each is named by what it finds, and where one finds nothing,
-- nothing follows.
use Rattle.std.specs.Prelude.{ℕ, List, [], Option, option_map, option_and_then}
use Rattle.std.specs.Option.{option_map_or}

-- what follows from the value, where there is one; it may find nothing either
abbrev pub given : {X Y : Type 0} → Option X → (X → Option Y) → Option Y
given value next = option_and_then next value

-- what is made of the value, where there is one: the last of such look-ups
abbrev pub given_last : {X Y : Type 0} → Option X → (X → Y) → Option Y
given_last value make = option_map make value

-- the lines that follow from the value, where there is one, and no line where there is none
abbrev pub lines_given : {X : Type 0} → Option X → (X → List (List ℕ)) → List (List ℕ)
lines_given value lines = option_map_or lines value []

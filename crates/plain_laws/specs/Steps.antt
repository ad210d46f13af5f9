-- Steps in a row, over any kind of states and steps.
use Rattle.std.specs.Prelude.{List, [], ◌∷◌, Option, Some, option_and_then, ℕ, zero, suc, slice_get}

-- where one is after all these steps, in order; none where one of them can't be made
abbrev pub after : {S R : Type 0} → (S → R → Option S) → S → List R → Option S
after next s [] = Some s
after next s (r ∷ rs) = option_and_then (λ p. after next p rs) (next s r)

-- where one is after the first n of these steps; none where one of them is lacking or can't be made
abbrev pub after_first : {S R : Type 0} → (S → R → Option S) → S → List R → ℕ → Option S
after_first next s rs zero = Some s
after_first next s rs (suc n) = option_and_then (λ p. option_and_then (next p) (slice_get rs n)) (after_first next s rs n)

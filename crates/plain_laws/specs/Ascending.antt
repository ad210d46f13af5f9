-- Lists whose items ascend.
use Rattle.std.specs.Prelude.{◌≡◌, List, AllPairs, ℕ, ◌+◌, length, slice_index_or}
use Rattle.std.specs.declared.cmp.Ordering.{Ordering}
use Rattle.std.specs.declared.cmp.Ordering.TheVariants.{Less}

-- each item is less than each later one
abbrev pub IsAscending : {X : Type 0} → (X → X → Ordering) → List X → Type 0
IsAscending cmp xs = AllPairs (λ x y. cmp x y ≡ Less) xs

-- the last item, if there is one, is less than this one
abbrev pub IsPastLast : {X : Type 0} → (X → X → Ordering) → List X → X → Type 0
IsPastLast {X} cmp xs item = (k : ℕ) (d : X) → k + 1 ≡ length xs → cmp (slice_index_or xs k d) item ≡ Less

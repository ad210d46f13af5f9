-- What holds of an item of a list.
use Rattle.std.specs.Prelude.{ℕ, ◌<◌, List, length, slice_index_or}

-- P of whatever item stands at this place
abbrev pub ForItem : {X : Type 0} → List X → ℕ → (X → Type 0) → Type 0
ForItem {X} xs i P = (d : X) → i < length xs → P (slice_index_or xs i d)

-- Lists of least amounts: the place of each leg group in them, and how low and high they can be.
use Rattle.std.specs.Prelude.{ℕ, ◌+◌, ◌*◌, ◌==◌, Bool, if◌then◌else◌, List, Option, Some, None, get_or, ℤ, pos, neg_ℤ, ◌≤ℤ◌}
use Rattle.std.specs.Int.{int_min}
use Rattle.transit_base.specs.declared.numbers.LegGroupId.{LegGroupId}

-- the amount where there is none
abbrev pub never : ℤ
never = pos 1_000_000_000_000_000

-- the amount at the place; none past the end
abbrev pub amount_at : List ℤ → ℕ → ℤ
amount_at amounts place = get_or amounts place never

-- the place of legs of the group: legs without group have the first one
abbrev pub place_of : Option LegGroupId → ℕ
place_of None = 0
place_of (Some group) = group.0 + 2

-- the place of the groups that a field of a transfer rule matches: an empty one has that of all groups
abbrev pub row_place : Option LegGroupId → ℕ
row_place None = 1
row_place (Some group) = group.0 + 2

-- the lesser of the amount at the place and that of all groups; the first place isn't a group's
abbrev pub at_place : List ℤ → ℕ → ℤ
at_place amounts place =
    if place == 0 then amount_at amounts 0 else int_min (amount_at amounts place) (amount_at amounts 1)

-- what the end of a journey adds after a leg of a group, by whether it may be the last leg
abbrev pub end_by : Bool → ℤ
end_by last = if last then pos 0 else never

-- so many times the least amount that a product can have
abbrev pub floor_of : ℕ → ℤ
floor_of count = neg_ℤ (pos (count * 1_000_000_000_000))

-- the amount is no less than that of so many products, and at most that where there is none
pub record IsAmount (count : ℕ) (amount : ℤ) : Type 0 where
  pub low : floor_of count ≤ℤ amount
  pub high : amount ≤ℤ never

-- each amount of the list is such
abbrev pub AreAmounts : ℕ → List ℤ → Type 0
AreAmounts count amounts = (place : ℕ) → IsAmount count (amount_at amounts place)

-- no amount became greater
abbrev pub AreBelow : List ℤ → List ℤ → Type 0
AreBelow after before = (place : ℕ) → amount_at after place ≤ℤ amount_at before place

-- the amount at the place became at most this, and none became greater
pub record IsLowered (place : ℕ) (amount : ℤ) (before after : List ℤ) : Type 0 where
  pub there : amount_at after place ≤ℤ amount
  pub below : AreBelow after before
  pub amounts : (count : ℕ) → AreAmounts count before → floor_of count ≤ℤ amount → AreAmounts count after

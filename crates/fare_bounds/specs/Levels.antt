-- What a level of least amounts tells of the level before it, which is for one ride less.
use Rattle.std.specs.Prelude.{◌≡◌, ℕ, ◌+◌, ◌==◌, if◌then◌else◌, Bool, true, false, Option, Some, None, is_none, replicate, slice_get, vec_len, ℤ, ◌+ℤ◌, ◌≤ℤ◌}
use Rattle.std.specs.Int.{int_min}
use Rattle.transit_base.specs.declared.numbers.LegGroupId.{LegGroupId}
use Rattle.feed_rows.specs.declared.rows.TransferRuleRow.{TransferRuleRow}
use Rattle.feed_rows.specs.Codes.{change_alone, includes_leg_after}
use Rattle.feed_rows.specs.FeedRows.{FeedRows}
use Rattle.fare_bounds.specs.declared.least.LeastAmounts.{LeastAmounts}
use Rattle.fare_bounds.specs.declared.level.LegCosts.{LegCosts}
use Rattle.fare_bounds.specs.declared.level.Level.{Level}
use Rattle.fare_bounds.specs.Amounts.{never, amount_at, place_of, row_place, at_place, IsAmount, AreBelow}
use Rattle.fare_bounds.specs.Payable.{IsPaid, charge_of}

-- ---- legs

-- the amounts of the level for legs at the place
abbrev pub with_at : Level → ℕ → ℤ
with_at level place = at_place level.with_held.items place

abbrev pub without_at : Level → ℕ → ℤ
without_at level place = at_place level.without_held.items place

-- what the end of a journey adds after a leg at the place
abbrev pub end_at : LeastAmounts → ℕ → ℤ
end_at amounts place = amount_at amounts.ends.items place

-- what follows a leg adds at least to the price of a journey of which nothing is held: further rides, or the end
abbrev pub rest_at : LeastAmounts → Level → ℕ → ℤ
rest_at amounts level place = int_min (int_min (with_at level place) (without_at level place)) (end_at amounts place)

-- what a leg and what follows it add, where legs cost no less than this, and by what further rides and the end add; it
-- isn't more than where there is none
abbrev pub costs_by : ℤ → ℤ → ℤ → ℤ → LegCosts
costs_by least with_held without_held end =
    record {
      free = int_min (int_min with_held without_held) end;
      charged = int_min (least +ℤ int_min (int_min with_held without_held) end) never;
      apart = int_min (least +ℤ int_min with_held end) without_held;
    }

-- it is at most what a leg with this amount and what follows it add, where no change to the leg is arranged
pub record IsApart (amounts : LeastAmounts) (level : Level) (place : ℕ) (amount apart : ℤ) : Type 0 where
  pub kept : apart ≤ℤ (amount +ℤ int_min (with_at level place) (end_at amounts place))
  pub taken_back : apart ≤ℤ without_at level place

-- each of the costs is at most what the leg with this amount and what follows it add
pub record AreCostsBelow (amounts : LeastAmounts) (level : Level) (place : ℕ) (amount : ℤ) (costs : LegCosts) :
    Type 0 where
  pub free : costs.free ≤ℤ rest_at amounts level place
  pub charged : costs.charged ≤ℤ (amount +ℤ rest_at amounts level place)
  pub apart : IsApart amounts level place amount costs.apart

-- the same of each amount that can be paid for legs at the place
abbrev pub AreLegCosts : LeastAmounts → Level → ℕ → LegCosts → Type 0
AreLegCosts amounts level place costs =
    (amount : ℤ) → IsPaid (amount_at amounts.legs.items place) amount
    → AreCostsBelow amounts level place amount costs

-- each of the costs is at most that of the others
pub record AreLesserCosts (costs others : LegCosts) : Type 0 where
  pub free : costs.free ≤ℤ others.free
  pub charged : costs.charged ≤ℤ others.charged
  pub apart : costs.apart ≤ℤ others.apart

-- each of the costs is an amount of so many products
pub record AreCosts (count : ℕ) (costs : LegCosts) : Type 0 where
  pub free : IsAmount count costs.free
  pub charged : IsAmount count costs.charged
  pub apart : IsAmount count costs.apart

-- ---- changes

-- a field of a transfer rule can match the group: an empty one each
abbrev pub CanMatch : Option LegGroupId → LegGroupId → Type 0
CanMatch None group = Unit {0}
CanMatch (Some own) group = own.0 ≡ group.0

-- all amounts are this, and none is there where a change takes back what is held
pub record IsFilled (count places : ℕ) (amount : ℤ) (level : Level) : Type 0 where
  pub rides : level.rides ≡ count
  pub with_places : vec_len level.with_held ≡ places
  pub without_places : vec_len level.without_held ≡ places
  pub with_held : level.with_held.items ≡ replicate places amount
  pub without_held : level.without_held.items ≡ replicate places never

-- the costs are those of legs of each group that the field can match
abbrev pub AreCostsTo : LeastAmounts → Level → Option LegGroupId → LegCosts → Type 0
AreCostsTo amounts level to costs =
    (group : LegGroupId) → CanMatch to group → AreLegCosts amounts level (group.0 + 2) costs

-- no amount became greater, and all is for as many rides and as many places
pub record IsLevelBelow (after before : Level) : Type 0 where
  pub rides : after.rides ≡ before.rides
  pub with_places : vec_len after.with_held ≡ vec_len before.with_held
  pub without_places : vec_len after.without_held ≡ vec_len before.without_held
  pub with_held : AreBelow after.with_held.items before.with_held.items
  pub without_held : AreBelow after.without_held.items before.without_held.items

-- what a change of this type with the leg and what follows it adds, by what the leg with that adds where it is free
-- and where it is charged
abbrev pub added_by : ℕ → ℤ → ℤ → ℤ → ℤ
added_by kind charge free charged = charge +ℤ (if includes_leg_after kind then free else charged)

-- for the groups before a change of the row there stands no more than this
pub record IsChangeAbove (level : Level) (row : TransferRuleRow) (added : ℤ) : Type 0 where
  -- where it takes back what is held
  pub taken_back : (row.kind == change_alone) ≡ true
      → amount_at level.without_held.items (row_place row.from) ≤ℤ added
  -- where what is held is paid
  pub paid : (row.kind == change_alone) ≡ false → amount_at level.with_held.items (row_place row.from) ≤ℤ added

-- a level is made by each row, and one for late changes by those alone that have no limit
abbrev pub counts : Bool → TransferRuleRow → Bool
counts late row = if late then is_none row.limit else true

-- there stands no more than each change of the row to a leg adds, where the level before tells what follows
abbrev pub IsTransferRuleAbove : Bool → LeastAmounts → Level → Level → TransferRuleRow → Type 0
IsTransferRuleAbove late amounts before level row =
    (group : LegGroupId) (amount charge : ℤ) → counts late row ≡ true → CanMatch row.to group
    → IsPaid (amount_at amounts.legs.items (place_of (Some group))) amount
    → charge_of amounts row.product ≤ℤ charge
    → (let rest = rest_at amounts before (place_of (Some group)) in
    IsChangeAbove level row (added_by row.kind charge rest (amount +ℤ rest)))

-- the level is for one ride more than the one before it, which may be one to which only late changes lead
pub record IsNextLevel (feed : FeedRows) (late : Bool) (amounts : LeastAmounts) (before level : Level) : Type 0 where
  pub rides : level.rides ≡ before.rides + 1
  pub apart : (group next : Option LegGroupId) (amount : ℤ)
      → IsPaid (amount_at amounts.legs.items (place_of next)) amount
      → IsApart amounts before (place_of next) amount (with_at level (place_of group))
  pub rows : (i : ℕ) (row : TransferRuleRow) → slice_get feed.transfer_rules i ≡ Some row
      → IsTransferRuleAbove late amounts before level row

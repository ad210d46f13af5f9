-- How long after the clocks of a fare state a transfer rule can hold that has a limit.
use Rattle.std.specs.Prelude.{◌≡◌, ℕ, ◌≤◌, max, List, Option, Some, None, get_or, slice_get, ℤ, pos, ◌+ℤ◌, option_map}
use Rattle.std.specs.Int.{int_max}
use Rattle.transit_base.specs.declared.moments.Moment.{Moment}
use Rattle.transit_base.specs.declared.numbers.LegGroupId.{LegGroupId}
use Rattle.feed_rows.specs.declared.rows.Limit.{Limit}
use Rattle.feed_rows.specs.declared.rows.TransferRuleRow.{TransferRuleRow}
use Rattle.feed_rows.specs.declared.states.FareState.{FareState}
use Rattle.feed_rows.specs.FeedRows.{FeedRows}
use Rattle.fare_bounds.specs.Amounts.{place_of, row_place}

-- the limit at the place, in seconds; 0 past the end
abbrev pub limit_at : List ℕ → ℕ → ℕ
limit_at limits place = get_or limits place 0

-- the seconds of the limit; 0 where there is none
abbrev pub seconds_of : Option Limit → ℕ
seconds_of None = 0
seconds_of (Some limit) = limit.seconds

-- the limit at the place became at least this, and none became less
pub record IsRaised (place seconds : ℕ) (before after : List ℕ) : Type 0 where
  pub there : seconds ≤ limit_at after place
  pub above : (i : ℕ) → limit_at before i ≤ limit_at after i

-- the limit of the row is no greater than what stands for the groups before its changes
abbrev pub IsWithinLimits : List ℕ → TransferRuleRow → Type 0
IsWithinLimits limits row = seconds_of row.limit ≤ limit_at limits (row_place row.from)

-- the same of all rows
abbrev pub AreLimits : FeedRows → List ℕ → Type 0
AreLimits feed limits =
    (i : ℕ) (row : TransferRuleRow) → slice_get feed.transfer_rules i ≡ Some row → IsWithinLimits limits row

-- the greater of the limit of the group and that of all groups
abbrev pub longest_limit : List ℕ → Option LegGroupId → ℕ
longest_limit limits group = max (limit_at limits (place_of group)) (limit_at limits 1)

-- the later of the clocks that are there
abbrev pub latest_of : Option Moment → Option Moment → Option Moment
latest_of None arrival = arrival
latest_of (Some departure) None = Some departure
latest_of (Some departure) (Some arrival) = Some (record { 0 = int_max departure.0 arrival.0 })

-- the moment past which no limit holds that reads a clock of the state; none without clocks
abbrev pub late_by : List ℕ → FareState → Option ℤ
late_by limits state =
    option_map (λ latest. latest.0 +ℤ pos (longest_limit limits state.group)) (latest_of state.departure state.arrival)

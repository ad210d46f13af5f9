-- Until when a change to a leg of some groups can be arranged after a fare state.
use Rattle.std.specs.Prelude.{◌≡◌, ℕ, ◌≤◌, ◌==◌, Bool, true, false, if◌then◌else◌, nat_le, List, Contains, Option, Some, None, slice_get, ℤ, pos, neg_ℤ, ◌^◌, ◌≤ℤ◌, ◌<ℤ◌}
use Rattle.std.specs.List.{list_any}
use Rattle.std.specs.Option.{unwrap_or}
use Rattle.transit_base.specs.declared.numbers.LegGroupId.{LegGroupId}
use Rattle.feed_rows.specs.declared.rows.Limit.{Limit}
use Rattle.feed_rows.specs.declared.rows.TransferRuleRow.{TransferRuleRow}
use Rattle.feed_rows.specs.declared.states.FareState.{FareState}
use Rattle.feed_rows.specs.FeedRows.{FeedRows}
use Rattle.feed_rows.specs.FareSteps.{asked_after, is_arranged_after}
use Rattle.feed_rows.specs.TransferRules.{FareLeg, same_group}
use Rattle.plain_laws.specs.Plain.{filled_and}
use Rattle.fare_bounds.specs.Amounts.{row_place}
use Rattle.fare_bounds.specs.Limits.{limit_at, longest_limit, late_by}

-- the seconds of a limit that is never over
abbrev pub endless : ℕ
endless = 4_294_967_295

-- how many seconds a transfer rule with this limit lasts
abbrev pub lasting : Option Limit → ℕ
lasting None = endless
lasting (Some limit) = limit.seconds

-- a field of a transfer rule can match one of the groups: an empty one each
abbrev pub can_match_one : List (Option LegGroupId) → Option LegGroupId → Bool
can_match_one groups None = true
can_match_one groups (Some group) = list_any (λ own. same_group own (Some group)) groups

-- the rule, if it is for changes to one of the groups, lasts no longer than what stands for the groups before its changes
abbrev pub IsLongestTo : List (Option LegGroupId) → List ℕ → TransferRuleRow → Type 0
IsLongestTo groups limits row = can_match_one groups row.to ≡ true → lasting row.limit ≤ limit_at limits (row_place row.from)

-- the same of all rules
abbrev pub AreLongestTo : FeedRows → List (Option LegGroupId) → List ℕ → Type 0
AreLongestTo feed groups limits =
    (i : ℕ) (row : TransferRuleRow) → slice_get feed.transfer_rules i ≡ Some row → IsLongestTo groups limits row

-- a moment before all others
abbrev pub long_ago : ℤ
long_ago = neg_ℤ (pos (2 ^ 62))

-- the moment past which no change is arranged after the state; none where a rule without a limit can always arrange one
abbrev pub last_after : List ℕ → FareState → Option ℤ
last_after limits state =
    if nat_le endless (longest_limit limits state.group) then None else Some (unwrap_or (late_by limits state) long_ago)

-- no change is arranged from the state to a leg of one of the groups that departs past the moment, and doesn't arrive before
-- it departs
abbrev pub IsSettled : FeedRows → List (Option LegGroupId) → FareState → ℤ → Type 0
IsSettled feed groups state since =
    (next : FareLeg) → since <ℤ next.departure.0 → next.departure.0 ≤ℤ next.arrival.0 → Contains groups next.group →
    filled_and (asked_after state next) (is_arranged_after feed) ≡ false

-- so it is past the moments that these tell
pub record AreLastChanges (feed : FeedRows) (groups : List (Option LegGroupId)) (limits : List ℕ) : Type 0 where
  pub settled : (state : FareState) (since : ℤ) → last_after limits state ≡ Some since → IsSettled feed groups state since

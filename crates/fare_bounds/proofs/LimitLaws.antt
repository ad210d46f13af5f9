-- Past the clocks of a state and the longest limit, no limit holds.
use Rattle.std.proofs.Common.{◌≡◌, refl, ◌∙◌, ap, subst, ℕ, ◌+◌, ◌≤◌, Bool, true, false, ◌&&◌, List, arith}
use Rattle.std.specs.Prelude.{if◌then◌else◌, ◌||◌, ◌==◌, Option, Some, None, is_none, option_map, ℤ, pos, ◌+ℤ◌, ◌-ℤ◌, ◌≤ℤ◌, ◌<ℤ◌, int_le}
use Rattle.std.specs.Int.{int_max}
use Rattle.std.specs.Option.{is_some, unwrap_or, ForSome}
use Rattle.std.proofs.lemmas.Bool.{and_parts}
use Rattle.std.proofs.lemmas.Int.{ints}
use Rattle.std.proofs.lemmas.Option.{same_Some, none-some}
use Rattle.transit_base.specs.declared.moments.Moment.{Moment}
use Rattle.transit_base.specs.declared.numbers.LegGroupId.{LegGroupId}
use Rattle.feed_rows.specs.declared.rows.Limit.{Limit}
use Rattle.feed_rows.specs.declared.rows.TransferRuleRow.{TransferRuleRow}
use Rattle.feed_rows.specs.declared.states.FareState.{FareState}
use Rattle.feed_rows.specs.Codes.{departure_to_arrival, arrival_to_arrival}
use Rattle.feed_rows.specs.FareStates.{counts_from_departure}
use Rattle.feed_rows.specs.FareSteps.{Run, asked_after, has_clock, run_told}
use Rattle.feed_rows.specs.TransferRules.{FareLeg, AskedChange, asked_change, change_between, limit_holds}
use Rattle.plain_laws.specs.Plain.{empty_or}
use Rattle.fare_bounds.specs.Amounts.{row_place}
use Rattle.fare_bounds.specs.Levels.{CanMatch}
use Rattle.fare_bounds.specs.Limits.{limit_at, seconds_of, longest_limit, latest_of, late_by, IsWithinLimits}

-- ---- limits

-- what stands for the groups that a field matches is at most what stands for each of them
pub place_within : (limits : List ℕ) (field : Option LegGroupId) (group : LegGroupId) (seconds : ℕ) → CanMatch field group →
    seconds ≤ limit_at limits (row_place field) → seconds ≤ longest_limit limits (Some group)
place_within limits None group seconds matches le = omega (arith, le)
place_within limits (Some own) group seconds matches le =
    let here : seconds ≤ limit_at limits (group.0 + 2) =
    subst (λ (n : ℕ). seconds ≤ limit_at limits (n + 2)) matches le in
    omega (arith, here)

-- the limit of a row is at most that of each group before its changes
pub row_within : (limits : List ℕ) (row : TransferRuleRow) (group : LegGroupId) → CanMatch row.from group →
    IsWithinLimits limits row → seconds_of row.limit ≤ longest_limit limits (Some group)
row_within limits row group matches within = place_within limits row.from group (seconds_of row.limit) matches within

-- ---- clocks

-- the moment of a clock that isn't there
abbrev no_moment : Moment
no_moment = record { 0 = pos 0 }

-- the moment from which a limit counts that reads the departure or the arrival
abbrev read_from : Bool → Option Moment → Option Moment → ℤ
read_from from_departure departure arrival =
    if from_departure then (unwrap_or departure no_moment).0 else (unwrap_or arrival no_moment).0

abbrev is_read : Bool → Option Moment → Option Moment → Bool
is_read from_departure departure arrival = if from_departure then is_some departure else is_some arrival

-- the greater of two is at least each
max_first : (x y : ℤ) → x ≤ℤ int_max x y
max_first x y = grind (arith, ints)

max_second : (x y : ℤ) → y ≤ℤ int_max x y
max_second x y = grind (arith, ints)

past_less : (x z : ℤ) (more : ℕ) (at : ℤ) → x ≤ℤ z → (z +ℤ pos more) <ℤ at → (x +ℤ pos more) <ℤ at
past_less x z more at le lt = omega (arith, ints, le, lt)

-- what lies so far past the later clock does so past each that is there
past_clock : (departure arrival : Option Moment) (from_departure : Bool) (more : ℕ) (at : ℤ) →
    ForSome (option_map (λ latest. latest.0 +ℤ pos more) (latest_of departure arrival)) (λ moment. moment <ℤ at) →
    is_read from_departure departure arrival ≡ true → (read_from from_departure departure arrival +ℤ pos more) <ℤ at
past_clock None None true more at late there = absurd (let no : false ≡ true = there in cc)
past_clock None None false more at late there = absurd (let no : false ≡ true = there in cc)
past_clock None (Some a) true more at late there = absurd (let no : false ≡ true = there in cc)
past_clock None (Some a) false more at late there = late _ refl
past_clock (Some d) None true more at late there = late _ refl
past_clock (Some d) None false more at late there = absurd (let no : false ≡ true = there in cc)
past_clock (Some d) (Some a) true more at late there = past_less d.0 _ more at (max_first d.0 a.0) (late _ refl)
past_clock (Some d) (Some a) false more at late there = past_less a.0 _ more at (max_second d.0 a.0) (late _ refl)

-- the moment to which a limit counts
abbrev read_to : Bool → ℤ → ℤ → ℤ
read_to to_arrival departure arrival = if to_arrival then arrival else departure

-- so more seconds go by than such a limit has
past_limit : (from departure arrival : ℤ) (to_arrival : Bool) (seconds more : ℕ) → (from +ℤ pos more) <ℤ departure →
    departure ≤ℤ arrival → seconds ≤ more →
    int_le (read_to to_arrival departure arrival -ℤ from) (pos seconds) ≡ true → ⊥
past_limit from departure arrival true seconds more late order few holds =
    omega (arith, ints, late, order, few, holds)
past_limit from departure arrival false seconds more late order few holds = omega (arith, ints, late, few, holds)

-- a limit that holds for a change is one of a clock that is there, by the seconds from it to the next leg
limit_told : (state : FareState) (next : FareLeg) (change : AskedChange) (limit : Limit) →
    asked_after state next ≡ Some change → change.holds limit ≡ true →
    (has_clock state limit.kind ≡ true)
    × (int_le
    (read_to ((limit.kind == departure_to_arrival) || (limit.kind == arrival_to_arrival)) next.departure.0
    next.arrival.0 -ℤ read_from (counts_from_departure limit.kind) state.departure state.arrival)
    (pos limit.seconds) ≡ true)
unfolding limit_holds
limit_told state next change limit is holds = by state.group next.group is
  where
    run : Run
    run = run_told state

    by : (a b : Option LegGroupId) →
        option_map
        (λ c. record (asked_change c) { holds = λ limit. has_clock state limit.kind && limit_holds c limit })
        (change_between run.first run.changes next a b) ≡ Some change →
        (has_clock state limit.kind ≡ true)
        × (int_le
        (read_to ((limit.kind == departure_to_arrival) || (limit.kind == arrival_to_arrival)) next.departure.0
        next.arrival.0 -ℤ read_from (counts_from_departure limit.kind) state.departure state.arrival)
        (pos limit.seconds) ≡ true)
    by None b e = absurd (none-some change e)
    by (Some g) None e = absurd (none-some change e)
    by (Some g) (Some h) e =
        and_parts (has_clock state limit.kind) _
        (ap (λ (c : AskedChange). c.holds limit) (same_Some _ _ e) ∙ holds)

-- a row that can be selected for a change to a late leg has no limit
pub late_row : (limits : List ℕ) (state : FareState) (next : FareLeg) (change : AskedChange) (row : TransferRuleRow) →
    asked_after state next ≡ Some change → empty_or row.limit change.holds ≡ true →
    seconds_of row.limit ≤ longest_limit limits state.group →
    ForSome (late_by limits state) (λ moment. moment <ℤ next.departure.0) → next.departure.0 ≤ℤ next.arrival.0 →
    is_none row.limit ≡ true
late_row limits state next change row is holds within late order = by row.limit holds within
  where
    by : (limit : Option Limit) → empty_or limit change.holds ≡ true →
        seconds_of limit ≤ longest_limit limits state.group → is_none limit ≡ true
    by None holds few = refl
    by (Some limit) holds few =
        let told = limit_told state next change limit is holds in
        absurd (past_limit (read_from (counts_from_departure limit.kind) state.departure state.arrival)
        next.departure.0 next.arrival.0
        ((limit.kind == departure_to_arrival) || (limit.kind == arrival_to_arrival)) limit.seconds
        (longest_limit limits state.group)
        (past_clock state.departure state.arrival (counts_from_departure limit.kind)
        (longest_limit limits state.group) next.departure.0 late told.0)
        order few told.1)

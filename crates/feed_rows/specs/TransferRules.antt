-- The changes between the legs of a journey: where a run of legs starts, how many changes it has, and which rows of
-- fare_transfer_rules.txt are selected. Legs and changes are counted from 0: change i lies between legs i and i + 1.
-- (GTFS Schedule Reference: fare_transfer_rules.txt; the profile's are how the changes of a run are counted, that an
-- empty count is greater than every number, that limits are judged before counts and count from the run's first leg, and
-- that a leg without group is never in an arranged change.)
use Rattle.std.specs.Prelude.{◌≡◌, ◌<◌, ◌≤◌, ℕ, zero, suc, ◌+◌, ◌-◌, Bool, true, false, not, ◌&&◌, ◌||◌, ◌==◌, nat_le, if◌then◌else◌, List, [], Option, Some, None, ℤ, pos, ◌-ℤ◌, int_le, option_and_then}
use Rattle.std.specs.List.{list_any, list_all}
use Rattle.transit_base.specs.declared.numbers.LegGroupId.{LegGroupId}
use Rattle.transit_base.specs.declared.numbers.XferId.{XferId}
use Rattle.transit_base.specs.declared.moments.Moment.{Moment}
use Rattle.feed_rows.specs.declared.rows.TransferRuleRow.{TransferRuleRow}
use Rattle.feed_rows.specs.declared.rows.Limit.{Limit}
use Rattle.feed_rows.specs.declared.fares.TransferFacts.{TransferFacts}
use Rattle.feed_rows.specs.Codes.{departure_to_arrival, departure_to_departure, arrival_to_arrival}
use Rattle.feed_rows.specs.FeedRows.{FeedRows}
use Rattle.plain_laws.specs.Plain.{empty_or, filled_and, ids_where}

-- a leg as changes see it: the leg group of its rule, and its moments
pub record FareLeg : Type 0 where
  pub group : Option LegGroupId
  pub departure : Moment
  pub arrival : Moment

-- some row names the leg group in this column
abbrev pub is_listed_group : FeedRows → (TransferRuleRow → Option LegGroupId) → LegGroupId → Bool
is_listed_group feed column group = list_any (λ row. filled_and (column row) (λ g. g.0 == group.0)) feed.transfer_rules

-- a filled group is the leg's; an empty one matches each group that no row names in this column
unfoldable pub group_matches : FeedRows → (TransferRuleRow → Option LegGroupId) → Option LegGroupId → LegGroupId → Bool
group_matches feed column (Some g) group = g.0 == group.0
group_matches feed column None group = not (is_listed_group feed column group)

-- the moment from which a limit counts: the departure of the run's first leg, or its arrival
abbrev pub counted_from : ℕ → TransferFacts → ℤ
counted_from kind change =
    if (kind == departure_to_arrival) || (kind == departure_to_departure) then change.first_departure.0 else change.first_arrival.0

-- the moment to which a limit counts: the arrival of the leg after the change, or its departure
abbrev pub counted_to : ℕ → TransferFacts → ℤ
counted_to kind change = if (kind == departure_to_arrival) || (kind == arrival_to_arrival) then change.next_arrival.0 else change.next_departure.0

-- the seconds that a limit of this type looks at
abbrev pub elapsed : ℕ → TransferFacts → ℤ
elapsed kind change = counted_to kind change -ℤ counted_from kind change

-- the elapsed seconds are at most the limit
unfoldable pub limit_holds : TransferFacts → Limit → Bool
limit_holds change limit = int_le (elapsed limit.kind change) (pos limit.seconds)

-- a change as a row is asked about it: the groups of its two legs, its count, and which limits hold
pub record AskedChange : Type 0 where
  pub from : LegGroupId
  pub to : LegGroupId
  pub count : ℕ
  pub holds : Limit → Bool

-- a change between legs whose moments are known: its limits hold by the seconds elapsed
abbrev pub asked_change : TransferFacts → AskedChange
asked_change change = record { from = change.from; to = change.to; count = change.count; holds = limit_holds change }

-- the row is a candidate for the change: its groups match, and its limit is empty or holds
unfoldable pub is_candidate : FeedRows → AskedChange → TransferRuleRow → Bool
is_candidate feed change row =
    group_matches feed (λ r. r.from) row.from change.from
    && group_matches feed (λ r. r.to) row.to change.to
    && empty_or row.limit change.holds

-- the row is a candidate whose count is at least the change's; an empty count is unlimited
unfoldable pub suffices : FeedRows → AskedChange → TransferRuleRow → Bool
suffices feed change row = is_candidate feed change row && empty_or row.count (nat_le change.count)

-- the one count is at most the other; an empty one is greater than every number
abbrev pub count_le : Option ℕ → Option ℕ → Bool
count_le count None = true
count_le None (Some n) = false
count_le (Some m) (Some n) = nat_le m n

-- no candidate whose count suffices has a lesser one
unfoldable pub is_least_count : FeedRows → AskedChange → Option ℕ → Bool
is_least_count feed change count =
    list_all (λ row. not (suffices feed change row) || count_le count row.count) feed.transfer_rules

-- the row is selected: its count suffices, and is the least among those that do
abbrev pub is_selected : FeedRows → AskedChange → TransferRuleRow → Bool
is_selected feed change row = suffices feed change row && is_least_count feed change row.count

-- the row is selected for the change by the moments of its legs
unfoldable pub is_selected_transfer : FeedRows → TransferFacts → TransferRuleRow → Bool
is_selected_transfer feed change row = is_selected feed (asked_change change) row

-- the rows that are selected for a change, in file order
abbrev pub selected_transfers : FeedRows → TransferFacts → List XferId
selected_transfers feed change = ids_where (λ i. record { 0 = i }) (is_selected_transfer feed change) feed.transfer_rules

-- the change is arranged: some row is selected for it
unfoldable pub is_arranged : FeedRows → TransferFacts → Bool
is_arranged feed change = list_any (is_selected_transfer feed change) feed.transfer_rules

-- both groups are there, and equal
abbrev pub same_group : Option LegGroupId → Option LegGroupId → Bool
same_group a b = filled_and a (λ g. filled_and b (λ h. g.0 == h.0))

-- a change as rules see it: the groups of its two legs, its count in a run with so many changes before it, and the moments
-- of the run's first leg and of the next leg; none where one of the two legs has no group
abbrev pub change_between : FareLeg → ℕ → FareLeg → Option LegGroupId → Option LegGroupId → Option TransferFacts
change_between first changes next (Some g) (Some h) =
    Some (record {
      from = g;
      to = h;
      count = (if g.0 == h.0 then changes + 1 else 1);
      first_departure = first.departure;
      first_arrival = first.arrival;
      next_departure = next.departure;
      next_arrival = next.arrival;
    })
change_between first changes next (Some g) None = None
change_between first changes next None to = None

-- change i, where `leg` gives each leg by its number and the run of leg i began with leg b
abbrev pub change_from : (ℕ → Option FareLeg) → ℕ → ℕ → Option TransferFacts
change_from leg b i =
    option_and_then (λ first. option_and_then (λ before. option_and_then (λ next.
    change_between first (i - b) next before.group next.group) (leg (i + 1))) (leg i)) (leg b)

-- leg i + 1 goes on with the run of leg i that began with leg b: both are of one group, and change i is arranged
unfoldable pub goes_on : FeedRows → (ℕ → Option FareLeg) → ℕ → ℕ → Bool
goes_on feed leg b i =
    filled_and (leg i) (λ before. filled_and (leg (i + 1)) (λ next. same_group before.group next.group))
    && filled_and (change_from leg b i) (is_arranged feed)

-- the leg with which the run of leg i starts
unfoldable pub run_start : FeedRows → (ℕ → Option FareLeg) → ℕ → ℕ
run_start feed leg zero = 0
run_start feed leg (suc i) =
    let b = run_start feed leg i in if goes_on feed leg b i then b else i + 1

-- change i; none where one of its legs has no group
unfoldable pub change_at : FeedRows → (ℕ → Option FareLeg) → ℕ → Option TransferFacts
change_at feed leg i = change_from leg (run_start feed leg i) i

-- change i is arranged
abbrev pub is_arranged_at : FeedRows → (ℕ → Option FareLeg) → ℕ → Bool
is_arranged_at feed leg i = filled_and (change_at feed leg i) (is_arranged feed)

-- legs i and i + 1 have one group
abbrev pub is_same_group_at : (ℕ → Option FareLeg) → ℕ → Bool
is_same_group_at leg i = filled_and (leg i) (λ before. filled_and (leg (i + 1)) (λ next. same_group before.group next.group))

-- legs b to i have one group, and all changes between them are arranged: the run of leg i starts with the least such leg,
-- which is leg i itself where it has no group
pub record IsRun (feed : FeedRows) (leg : ℕ → Option FareLeg) (b i : ℕ) : Type 0 where
  pub begun : b ≤ i
  pub one_group : (k : ℕ) → b ≤ k → k < i → is_same_group_at leg k ≡ true
  pub arranged : (k : ℕ) → b ≤ k → k < i → is_arranged_at feed leg k ≡ true

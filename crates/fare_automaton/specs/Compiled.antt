-- What an automaton has at hand: what rows read of each leg group, and the open rows of each product.
use Rattle.std.specs.Prelude.{◌≡◌, ℕ, ◌+◌, ◌*◌, Bool, nat_lt, List, [], length, slice_get, unwrap_or, Option, Some}
use Rattle.std.specs.Option.{option_map_or}
use Rattle.std.specs.List.{list_any}
use Rattle.transit_base.specs.declared.numbers.LegGroupId.{LegGroupId}
use Rattle.transit_base.specs.declared.numbers.ProductId.{ProductId}
use Rattle.transit_base.specs.declared.numbers.ProductRowId.{ProductRowId}
use Rattle.transit_base.specs.declared.numbers.XferId.{XferId}
use Rattle.feed_rows.specs.declared.journeys.Buyer.{Buyer}
use Rattle.feed_rows.specs.declared.rows.TransferRuleRow.{TransferRuleRow}
use Rattle.feed_rows.specs.FeedRows.{FeedRows}
use Rattle.feed_rows.specs.FareChoices.{open_rows}
use Rattle.feed_rows.specs.FareStates.{greatest_count, is_clock_read, counts_from_departure, counts_from_arrival}
use Rattle.plain_laws.specs.Plain.{at_and, filled_and, list_below, when}
use Rattle.fare_transfer_rules.specs.declared.groups.ClassedRow.{ClassedRow}
use Rattle.fare_transfer_rules.specs.BuiltTransferRules.{AreRowsBetween}
use Rattle.fare_automaton.specs.declared.reads.Clock.{Clock}
use Rattle.fare_automaton.specs.declared.reads.Clock.TheVariants.{Departure, Arrival}
use Rattle.fare_automaton.specs.declared.reads.GroupReads.{GroupReads}

-- ---- leg groups

-- what rows read of changes from the group
abbrev pub reads_of : FeedRows → LegGroupId → GroupReads
reads_of feed group =
    record {
      greatest_count = greatest_count feed group;
      departure = is_clock_read feed counts_from_departure group;
      arrival = is_clock_read feed counts_from_arrival group;
    }

-- the table has this of each leg group
abbrev pub AreReads : FeedRows → List GroupReads → Type 0
AreReads feed reads = reads ≡ list_below (length feed.group_names) (λ group. reads_of feed (record { 0 = group }))

-- the count of the row with this number, where it is a number; else 0
abbrev pub count_at : List TransferRuleRow → XferId → ℕ
count_at rows row = option_map_or (λ (r : TransferRuleRow). unwrap_or r.count 0) (slice_get rows row.0) 0

-- limits of this type count from the clock
abbrev pub counts_from : Clock → ℕ → Bool
counts_from Departure = counts_from_departure
counts_from Arrival = counts_from_arrival

-- the row has a limit of such a type
abbrev pub has_limit : (ℕ → Bool) → TransferRuleRow → Bool
has_limit counts row = filled_and row.limit (λ limit. counts limit.kind)

-- one of these rows has such a limit
abbrev pub some_limit : (ℕ → Bool) → List TransferRuleRow → List ClassedRow → Bool
some_limit counts rows among = list_any (λ (r : ClassedRow). at_and rows r.row.0 (has_limit counts)) among

-- ---- pairs of leg groups

-- the place of the pair in a table of 64 places for each group before a change; none where the group after it is past
-- those
abbrev pub place_of : LegGroupId → LegGroupId → Option ℕ
place_of from to = when (nat_lt to.0 64) (from.0 * 64 + to.0)

-- the rows at the place of a pair are those for changes between its two groups
abbrev pub ArePairRows : FeedRows → List (List ClassedRow) → Type 0
ArePairRows feed pairs =
    (from to : LegGroupId) (place : ℕ) (rows : List ClassedRow) → place_of from to ≡ Some place
    → slice_get pairs place ≡ Some rows → AreRowsBetween feed from to rows

-- ---- products

-- the table has the open rows of each product
abbrev pub AreOpenRows : FeedRows → Buyer → List (List ProductRowId) → Type 0
AreOpenRows feed buyer opened = (product : ProductId) → unwrap_or (slice_get opened product.0) [] ≡ open_rows feed product buyer

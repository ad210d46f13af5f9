-- What holds of the transfer rules that were built from a feed.
use Rattle.std.specs.Prelude.{◌≡◌, ℕ, Bool, ◌&&◌, List, filter, Option, is_some}
use Rattle.std.specs.List.{list_any}
use Rattle.std.specs.List.Sorted.{IsNonDecreasingBy}
use Rattle.transit_base.specs.declared.numbers.LegGroupId.{LegGroupId}
use Rattle.feed_rows.specs.declared.rows.TransferRuleRow.{TransferRuleRow}
use Rattle.feed_rows.specs.FeedRows.{FeedRows}
use Rattle.feed_rows.specs.TransferRules.{AskedChange, is_listed_group, group_matches, is_least_count}
use Rattle.feed_rows.specs.FareSteps.{is_arranged_after}
use Rattle.fare_transfer_rules.specs.declared.XferRules.{XferRules}
use Rattle.fare_transfer_rules.specs.declared.groups.ClassedRow.{ClassedRow}
use Rattle.plain_laws.specs.Plain.{at_and, ids_where}
use Rattle.number_marks.specs.Marks.{is_marked}
use Rattle.fare_transfer_rules.specs.Classes.{row_to, is_of, leads_to, rows_at}
use Rattle.fare_transfer_rules.specs.Counts.{is_within}

-- the rules are those of this feed
pub record AreXferRulesOf (feed : FeedRows) (rules : XferRules) : Type 0 where
  pub rows : rules.rules.items ≡ feed.transfer_rules
  pub rises : (from : ℕ) → IsNonDecreasingBy (λ (r : ClassedRow). r.to_class) (rows_at rules.by_from from)
  pub of_pair : (from to : ℕ) →
      filter (leads_to to) (rows_at rules.by_from from) ≡ ids_where (row_to to) (is_of from to) feed.transfer_rules
  pub froms : (group : LegGroupId) → is_marked rules.froms.items group.0 ≡ is_listed_group feed (λ r. r.from) group
  pub tos : (group : LegGroupId) → is_marked rules.tos.items group.0 ≡ is_listed_group feed (λ r. r.to) group

-- the row is for changes from the one group to the other
abbrev pub is_between : FeedRows → LegGroupId → LegGroupId → TransferRuleRow → Bool
is_between feed from to row =
    group_matches feed (λ r. r.from) row.from from && group_matches feed (λ r. r.to) row.to to

-- the rows are exactly those for changes from the one group to the other, in file order; they are of one class
pub record AreRowsBetween (feed : FeedRows) (from to : LegGroupId) (rows : List ClassedRow) : Type 0 where
  pub to_class : ℕ
  pub are : rows ≡ ids_where (row_to to_class) (is_between feed from to) feed.transfer_rules

-- a test that passes somewhere among the rows for changes from the group passes among these rows, and no other does
abbrev pub AreRowsFrom : FeedRows → LegGroupId → List ClassedRow → Type 0
AreRowsFrom feed group rows =
    (test : TransferRuleRow → Bool) → list_any (λ (r : ClassedRow). at_and feed.transfer_rules r.row.0 test) rows
    ≡ list_any (λ row. group_matches feed (λ r. r.from) row.from group && test row) feed.transfer_rules

-- the least count that suffices for the change: a count is at most this exactly where no row whose count suffices has a
-- lesser one, and there is one exactly where the change is arranged
pub record IsLeastFor (feed : FeedRows) (change : AskedChange) (least : Option (Option ℕ)) : Type 0 where
  pub within : (count : Option ℕ) → is_within least count ≡ is_least_count feed change count
  pub some : is_some least ≡ is_arranged_after feed change

-- The rows by what they name in the columns from_leg_group_id and to_leg_group_id. In each of these columns, a leg group
-- that some row names is of a class of its own, and all others are of one class; a row matches the groups of one class
-- before a change, and of one class after it.
use Rattle.std.specs.Prelude.{◌≡◌, ℕ, ◌+◌, ◌<◌, ◌≤◌, Bool, ◌&&◌, ◌==◌, if◌then◌else◌, List, [], Option, filter, slice_get, unwrap_or}
use Rattle.std.specs.List.Sorted.{IsNonDecreasingBy}
use Rattle.std.specs.Option.{option_map_or}
use Rattle.transit_base.specs.declared.numbers.LegGroupId.{LegGroupId}
use Rattle.transit_base.specs.declared.numbers.XferId.{XferId}
use Rattle.feed_rows.specs.declared.rows.TransferRuleRow.{TransferRuleRow}
use Rattle.item_groups.specs.declared.groups.Grouped.{Grouped}
use Rattle.plain_laws.specs.Plain.{ids_where}
use Rattle.fare_transfer_rules.specs.declared.groups.ClassedRow.{ClassedRow}
use Rattle.number_marks.specs.Marks.{is_marked}

abbrev pub xfer_of : ℕ → XferId
xfer_of i = record { 0 = i }

-- the class of the groups that the field of a row matches
abbrev pub field_class : Option LegGroupId → ℕ
field_class field = option_map_or (λ g. g.0 + 1) field 0

-- the class of a group, where those that rows name are marked
abbrev pub class_of : List Bool → ℕ → ℕ
class_of named group = if is_marked named group then group + 1 else 0

-- the row matches the changes from groups of the first class to those of the second
abbrev pub is_of : ℕ → ℕ → TransferRuleRow → Bool
is_of from to row = (field_class row.from == from) && (field_class row.to == to)

-- the row with this number, which matches the groups of this class after a change
abbrev pub row_to : ℕ → ℕ → ClassedRow
row_to class i = record { to_class = class; row = xfer_of i }

-- the row with this number and its classes
abbrev pub member_at : List TransferRuleRow → ℕ → Grouped ClassedRow
member_at rows i =
    record {
      group = option_map_or (λ (row : TransferRuleRow). field_class row.from) (slice_get rows i) 0;
      item = row_to (option_map_or (λ (row : TransferRuleRow). field_class row.to) (slice_get rows i) 0) i;
    }

-- the row matches the groups of this class after a change
abbrev pub leads_to : ℕ → ClassedRow → Bool
leads_to class row = row.to_class == class

-- the rows of a class before a change
abbrev pub rows_at : List (List ClassedRow) → ℕ → List ClassedRow
rows_at groups class = unwrap_or (slice_get groups class) []

-- members by the classes after a change, those of one class as they were
pub record IsPutByTo (old new : List (Grouped ClassedRow)) : Type 0 where
  pub rises : IsNonDecreasingBy (λ (m : Grouped ClassedRow). m.item.to_class) new
  pub same : (class : ℕ) →
      filter (λ (m : Grouped ClassedRow). leads_to class m.item) new ≡ filter (λ (m : Grouped ClassedRow). leads_to class m.item) old

-- the rows stand by the classes before a change, those of each by the classes after it, and those of one pair in file
-- order
pub record AreByClasses (rows : List TransferRuleRow) (n : ℕ) (groups : List (List ClassedRow)) : Type 0 where
  pub rises : (from : ℕ) → IsNonDecreasingBy (λ (r : ClassedRow). r.to_class) (rows_at groups from)
  pub has : (from to : ℕ) → from < n → filter (leads_to to) (rows_at groups from) ≡ ids_where (row_to to) (is_of from to) rows
  pub none : (from : ℕ) → n ≤ from → rows_at groups from ≡ []

-- Whether a row is selected for a change: it is for changes between the two leg groups, suits the change, and has the least
-- count of those that do.
use Rattle.std.specs.Prelude.{ℕ, Bool, not, ◌&&◌, ◌||◌, ◌==◌, nat_le, List, map, filter, Option, Some, None, slice_get}
use Rattle.transit_base.specs.declared.numbers.LegGroupId.{LegGroupId}
use Rattle.transit_base.specs.declared.numbers.XferId.{XferId}
use Rattle.feed_rows.specs.declared.rows.TransferRuleRow.{TransferRuleRow}
use Rattle.feed_rows.specs.TransferRules.{AskedChange, count_le}
use Rattle.plain_laws.specs.Plain.{at_and, empty_or}
use Rattle.fare_transfer_rules.specs.declared.XferRules.{XferRules}
use Rattle.fare_transfer_rules.specs.declared.groups.ClassedRow.{ClassedRow}
use Rattle.number_marks.specs.Marks.{is_marked}
use Rattle.fare_transfer_rules.specs.Classes.{class_of, leads_to, rows_at}
use Rattle.fare_transfer_rules.specs.Counts.{IsLeastCount, is_within}

-- the leg group of a row is that of a leg, where the groups that rows name are marked
abbrev pub group_fits : List Bool → Option LegGroupId → LegGroupId → Bool
group_fits named (Some own) group = own.0 == group.0
group_fits named None group = not (is_marked named group.0)

-- the rows of the classes of the two leg groups
abbrev pub pair_rows : XferRules → LegGroupId → LegGroupId → List ClassedRow
pair_rows rules from to =
    filter (leads_to (class_of rules.tos.items to.0)) (rows_at rules.by_from (class_of rules.froms.items from.0))

-- the limit of the row is empty or holds, and its count is at least the change's
abbrev pub suits : AskedChange → TransferRuleRow → Bool
suits change row = empty_or row.limit change.holds && empty_or row.count (nat_le change.count)

-- the same of the row with this number
abbrev pub suits_at : List TransferRuleRow → AskedChange → XferId → Bool
suits_at rows change row = at_and rows row.0 (suits change)

-- where the row suits, this count is at most its own
abbrev pub not_above : AskedChange → Option ℕ → TransferRuleRow → Bool
not_above change count row = not (suits change row) || count_le count row.count

abbrev pub not_above_at : List TransferRuleRow → AskedChange → Option ℕ → XferId → Bool
not_above_at rows change count row = empty_or (slice_get rows row.0) (not_above change count)

-- the least count among those of these rows that suit
abbrev pub AreLeast : List TransferRuleRow → AskedChange → List ClassedRow → Option (Option ℕ) → Type 0
AreLeast rows change = IsLeastCount (not_above_at rows change) (suits_at rows change)

-- the row suits, with the least count
abbrev pub is_chosen : AskedChange → Option (Option ℕ) → TransferRuleRow → Bool
is_chosen change least row = suits change row && is_within least row.count

abbrev pub is_chosen_at : List TransferRuleRow → AskedChange → Option (Option ℕ) → XferId → Bool
is_chosen_at rows change least row = at_and rows row.0 (is_chosen change least)

-- those that are chosen among these
abbrev pub chosen_among : List TransferRuleRow → AskedChange → Option (Option ℕ) → List ClassedRow → List XferId
chosen_among rows change least among =
    map (λ (r : ClassedRow). r.row) (filter (λ (r : ClassedRow). is_chosen_at rows change least r.row) among)

-- The least of counts, an empty one of which is greater than every number.
use Rattle.std.specs.Prelude.{◌≡◌, ℕ, Bool, true, is_some, List, Option, Some, None}
use Rattle.std.specs.List.{list_all, list_any}
use Rattle.transit_base.specs.declared.numbers.XferId.{XferId}
use Rattle.feed_rows.specs.TransferRules.{count_le}
use Rattle.fare_transfer_rules.specs.declared.groups.ClassedRow.{ClassedRow}

-- the count is at most the least one, where there is a least one
abbrev pub is_within : Option (Option ℕ) → Option ℕ → Bool
is_within None count = true
is_within (Some least) count = count_le count least

-- the least count among those of these rows that suit: no count is above it that none of them is below, and there is one exactly
-- where one suits
pub record IsLeastCount (not_above : Option ℕ → XferId → Bool) (suits : XferId → Bool) (among : List ClassedRow)
    (least : Option (Option ℕ)) : Type 0 where
  pub within : (count : Option ℕ) → is_within least count ≡ list_all (λ (r : ClassedRow). not_above count r.row) among
  pub some : is_some least ≡ list_any (λ (r : ClassedRow). suits r.row) among

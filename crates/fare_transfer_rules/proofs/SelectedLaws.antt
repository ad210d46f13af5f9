-- The rows for changes between two leg groups are all that may be selected for a change, and those of the least count are.
use Rattle.std.proofs.Common.{◌≡◌, refl, sym, ◌∙◌, ap, ℕ, Bool, true, false, not, ◌&&◌, ◌||◌, List, Option, Some, None}
use Rattle.std.specs.Prelude.{if◌then◌else◌, slice_get, is_some, nat_le}
use Rattle.std.specs.List.{list_any, list_all}
use Rattle.transit_base.specs.declared.numbers.XferId.{XferId}
use Rattle.feed_rows.specs.declared.rows.TransferRuleRow.{TransferRuleRow}
use Rattle.feed_rows.specs.FeedRows.{FeedRows}
use Rattle.feed_rows.specs.TransferRules.{AskedChange, group_matches, is_candidate, suffices, count_le, is_least_count, is_selected}
use Rattle.feed_rows.specs.FareSteps.{is_arranged_after}
use Rattle.feed_laws.proofs.SelectionLaws.{is_selected-some}
use Rattle.plain_laws.specs.Plain.{empty_or, filled_and}
use Rattle.fare_transfer_rules.specs.declared.groups.ClassedRow.{ClassedRow}
use Rattle.fare_transfer_rules.specs.BuiltTransferRules.{is_between, AreRowsBetween, IsLeastFor}
use Rattle.fare_transfer_rules.specs.Classes.{row_to}
use Rattle.fare_transfer_rules.specs.Counts.{is_within}
use Rattle.fare_transfer_rules.specs.Fits.{suits, suits_at, not_above, not_above_at, is_chosen, AreLeast}
use Rattle.fare_transfer_rules.proofs.PickedLaws.{picked_all, picked_any}

-- what a row that suits or not adds to the least count
module _ (rows : List TransferRuleRow) (change : AskedChange) (least : Option (Option ℕ)) (row : XferId) where
  pub not_above_where : (count : Option ℕ) (own : TransferRuleRow) (b : Bool)
      → slice_get rows row.0 ≡ Some own → b ≡ suits change own
      → (if b then is_within least count && count_le count own.count else is_within least count)
      ≡ (is_within least count && not_above_at rows change count row)
  not_above_where count own b at is =
      parts b (is_within least count) (count_le count own.count)
      ∙ ap (λ t. is_within least count && (not t || count_le count own.count)) is
      ∙ ap (λ o. is_within least count && empty_or o (not_above change count)) (sym at)
    where
      parts : (b x y : Bool) → (if b then x && y else x) ≡ (x && (not b || y))
      parts true x y = refl
      parts false true y = refl
      parts false false y = refl

  pub some_where : (own : TransferRuleRow) (b : Bool) → slice_get rows row.0 ≡ Some own → b ≡ suits change own
      → (if b then true else is_some least) ≡ (is_some least || suits_at rows change row)
  some_where own b at is =
      parts b (is_some least) ∙ ap (λ t. is_some least || t) is ∙ ap (λ o. is_some least || filled_and o (suits change)) (sym at)
    where
      parts : (b x : Bool) → (if b then true else x) ≡ (x || b)
      parts true true = refl
      parts true false = refl
      parts false true = refl
      parts false false = refl

  -- and one that isn't there adds nothing
  pub none_within : (count : Option ℕ) → slice_get rows row.0 ≡ None
      → is_within least count ≡ (is_within least count && not_above_at rows change count row)
  none_within count none =
      same (is_within least count) ∙ ap (λ o. is_within least count && empty_or o (not_above change count)) (sym none)
    where
      same : (x : Bool) → x ≡ (x && true)
      same true = refl
      same false = refl

  pub none_some : slice_get rows row.0 ≡ None → is_some least ≡ (is_some least || suits_at rows change row)
  none_some none = same (is_some least) ∙ ap (λ o. is_some least || filled_and o (suits change)) (sym none)
    where
      same : (x : Bool) → x ≡ (x || false)
      same true = refl
      same false = refl

-- the rows for changes between the two groups are all that may be selected for the change
module _ (feed : FeedRows) (change : AskedChange) where
  -- a row suffices where it is for changes between the groups, and suits
  suffices_is : (row : TransferRuleRow) → suffices feed change row ≡ (is_between feed change.from change.to row && suits change row)
  unfolding suffices is_candidate
  suffices_is row =
      turned (group_matches feed (λ r. r.from) row.from change.from) (group_matches feed (λ r. r.to) row.to change.to) (empty_or row.limit change.holds)
      (empty_or row.count (nat_le change.count))
    where
      turned : (a b c d : Bool) → ((a && b && c) && d) ≡ ((a && b) && (c && d))
      turned true true c d = refl
      turned true false c d = refl
      turned false b c d = refl

  inside : (row : TransferRuleRow) → is_between feed change.from change.to row ≡ true → suffices feed change row ≡ suits change row
  inside row holds = suffices_is row ∙ ap (λ b. b && suits change row) holds

  outside : (row : TransferRuleRow) → is_between feed change.from change.to row ≡ false → suffices feed change row ≡ false
  outside row fails = suffices_is row ∙ ap (λ b. b && suits change row) fails

  -- among them, the least count of those that suit is the least that suffices
  pub least_for : (among : List ClassedRow) → AreRowsBetween feed change.from change.to among → (least : Option (Option ℕ)) →
      AreLeast feed.transfer_rules change among least → IsLeastFor feed change least
  unfolding is_least_count is_arranged_after
  least_for among are least is_least = record {
    within = λ count.
        is_least.within count ∙ ap (list_all (λ (r : ClassedRow). not_above_at feed.transfer_rules change count r.row)) are.are
        ∙ picked_all feed.transfer_rules (is_between feed change.from change.to) (row_to are.to_class)
        (λ (r : ClassedRow). not_above_at feed.transfer_rules change count r.row)
        (λ row. not (suffices feed change row) || count_le count row.count)
        (λ i row at holds. ap (λ o. empty_or o (not_above change count)) at ∙ ap (λ b. not b || count_le count row.count) (sym (inside row holds)))
        (λ row fails. ap (λ b. not b || count_le count row.count) (outside row fails));
    some =
        is_least.some ∙ ap (list_any (λ (r : ClassedRow). suits_at feed.transfer_rules change r.row)) are.are
        ∙ picked_any feed.transfer_rules (is_between feed change.from change.to) (row_to are.to_class)
        (λ (r : ClassedRow). suits_at feed.transfer_rules change r.row) (suffices feed change)
        (λ i row at holds. ap (λ o. filled_and o (suits change)) at ∙ sym (inside row holds))
        (λ row fails. outside row fails)
        ∙ sym (is_selected-some feed change);
  }

  -- and a row is selected exactly where it is one of them, and is chosen
  pub chosen_is : (least : Option (Option ℕ)) → IsLeastFor feed change least → (row : TransferRuleRow)
      → (is_between feed change.from change.to row && is_chosen change least row) ≡ is_selected feed change row
  chosen_is least is_least row =
      turned (is_between feed change.from change.to row) (suits change row) (is_within least row.count)
      ∙ ap (λ s. s && is_within least row.count) (sym (suffices_is row)) ∙ ap (λ b. suffices feed change row && b) (is_least.within row.count)
    where
      turned : (x y z : Bool) → (x && (y && z)) ≡ ((x && y) && z)
      turned true y z = refl
      turned false y z = refl

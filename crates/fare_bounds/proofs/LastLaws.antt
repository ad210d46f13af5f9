-- Past the last change to a leg of some groups, none is arranged to such a leg.
use Rattle.std.proofs.Common.{◌≡◌, refl, sym, ◌∙◌, subst, ℕ, ◌≤◌, Bool, true, false, List, arith}
use Rattle.std.specs.Prelude.{if◌then◌else◌, nat_le, Contains, Option, Some, None, is_none, slice_get, ℤ, ◌≤ℤ◌, ◌<ℤ◌}
use Rattle.std.specs.List.{list_any}
use Rattle.std.specs.Option.{unwrap_or, ForSome}
use Rattle.std.proofs.lemmas.Bool.{false_from_ne_true}
use Rattle.std.proofs.lemmas.Bool.Decides.{nat_tests}
use Rattle.std.proofs.lemmas.List.Folds.{list_any-from_Any}
use Rattle.std.proofs.lemmas.Option.{same_Some, none-some}
use Rattle.transit_base.specs.declared.numbers.LegGroupId.{LegGroupId}
use Rattle.feed_rows.specs.declared.rows.Limit.{Limit}
use Rattle.feed_rows.specs.declared.rows.TransferRuleRow.{TransferRuleRow}
use Rattle.feed_rows.specs.declared.states.FareState.{FareState}
use Rattle.feed_rows.specs.FeedRows.{FeedRows}
use Rattle.feed_rows.specs.FareSteps.{asked_after, is_arranged_after}
use Rattle.feed_rows.specs.TransferRules.{FareLeg, AskedChange, is_selected, same_group}
use Rattle.plain_laws.proofs.Laws.{filled_and-true, list_any_tells, slice_get-Contains}
use Rattle.fare_bounds.specs.LastChanges.{AreLastChanges, AreLongestTo, can_match_one, endless, last_after, lasting, long_ago}
use Rattle.fare_bounds.specs.Levels.{CanMatch}
use Rattle.fare_bounds.specs.Limits.{seconds_of, longest_limit, late_by}
use Rattle.fare_bounds.proofs.LimitLaws.{late_row, place_within}
use Rattle.fare_bounds.proofs.StepLaws.{asked_tells, selected_matches}

-- a field that can match one of the groups is told so
matches_one : (groups : List (Option LegGroupId)) (field : Option LegGroupId) (group : LegGroupId) → CanMatch field group →
    Contains groups (Some group) → can_match_one groups field ≡ true
matches_one groups None group matches has = refl
matches_one groups (Some own) group matches has =
    list_any-from_Any (λ g. same_group g (Some own)) groups (has.0, Some group, has.1, has.2, same)
  where
    same : same_group (Some group) (Some own) ≡ true
    same = grind (arith, nat_tests, matches)

-- what is told past a moment isn't endless, and where a limit can be over it is by then
told : (limits : List ℕ) (state : FareState) (since : ℤ) → last_after limits state ≡ Some since →
    (nat_le endless (longest_limit limits state.group) ≡ false) × (unwrap_or (late_by limits state) long_ago ≡ since)
told limits state since is = by (nat_le endless (longest_limit limits state.group)) is
  where
    by : (b : Bool) → (if b then None else Some (unwrap_or (late_by limits state) long_ago)) ≡ Some since →
        (b ≡ false) × (unwrap_or (late_by limits state) long_ago ≡ since)
    by true e = absurd (none-some since e)
    by false e = (refl, same_Some _ _ e)

late_then : (late : Option ℤ) (since at : ℤ) → unwrap_or late long_ago ≡ since → since <ℤ at → ForSome late (λ moment. moment <ℤ at)
late_then None since at is past moment e = absurd (none-some moment e)
late_then (Some own) since at is past moment e = subst (λ (z : ℤ). z <ℤ at) (sym (sym (same_Some _ _ e) ∙ is)) past

-- a limit that has no end lasts longest
ends : (limit : Option Limit) (longest : ℕ) → is_none limit ≡ true → lasting limit ≤ longest → nat_le endless longest ≡ false → ⊥
ends None longest none le short = grind (arith, nat_tests, le, short)
ends (Some limit) longest none le short = absurd (let no : false ≡ true = none in cc)

seconds_lasting : (limit : Option Limit) → seconds_of limit ≤ lasting limit
seconds_lasting None = omega arith
seconds_lasting (Some limit) = omega arith

-- an arranged change is so by a row that is selected
arranged_tells : (feed : FeedRows) (change : AskedChange) → is_arranged_after feed change ≡ true →
    (row : TransferRuleRow) × Contains feed.transfer_rules row × (is_selected feed change row ≡ true)
unfolding is_arranged_after
arranged_tells feed change arranged = list_any_tells (is_selected feed change) feed.transfer_rules arranged

module _ (feed : FeedRows) (groups : List (Option LegGroupId)) (limits : List ℕ) (longest : AreLongestTo feed groups limits) where
  -- no row is selected for such a change
  none_selected : (state : FareState) (since : ℤ) (next : FareLeg) (change : AskedChange) → last_after limits state ≡ Some since →
      since <ℤ next.departure.0 → next.departure.0 ≤ℤ next.arrival.0 → Contains groups next.group →
      asked_after state next ≡ Some change → (row : TransferRuleRow) → Contains feed.transfer_rules row →
      is_selected feed change row ≡ true → ⊥
  none_selected state since next change is past order has asked row at selected =
      let between = asked_tells state next change asked in
      let matches = selected_matches feed change row selected in
      let here = slice_get-Contains feed.transfer_rules row at in
      let lasts =
      longest here.0 row here.1 (matches_one groups row.to change.to matches.1 (subst (Contains groups) between.1 has)) in
      let within =
      subst (λ (g : Option LegGroupId). lasting row.limit ≤ longest_limit limits g) (sym between.0)
      (place_within limits row.from change.from (lasting row.limit) matches.0 lasts) in
      let tells = told limits state since is in
      let few = seconds_lasting row.limit in
      ends row.limit (longest_limit limits state.group)
      (late_row limits state next change row asked matches.2 (omega (arith, within, few))
      (late_then (late_by limits state) since next.departure.0 tells.1 past) order)
      within tells.0

  -- so none is arranged
  pub last_changes : AreLastChanges feed groups limits
  last_changes = record {
    settled = λ state since is next past order has.
        false_from_ne_true _ (λ arranged.
        let change = filled_and-true (asked_after state next) (is_arranged_after feed) arranged in
        let row = arranged_tells feed change.value change.passes in
        none_selected state since next change.value is past order has change.is row.0 row.1 row.2);
  }

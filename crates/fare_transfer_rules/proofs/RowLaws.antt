-- What is selected for a change between legs whose moments are known, and the transfer rules of a feed.
use Rattle.std.proofs.Common.{◌≡◌, refl, sym, ◌∙◌, ap, subst, ℕ, zero, suc, ◌+◌, Bool, true, false, ◌&&◌, List, [], ◌∷◌, ◌++◌, length, map, filter, Option, Some, None}
use Rattle.std.specs.Prelude.{if◌then◌else◌, slice_get, is_some, nat_lt}
use Rattle.std.specs.List.{list_any}
use Rattle.std.proofs.lemmas.List.{map-append}
use Rattle.std.proofs.lemmas.List.Elements.{filter-append}
use Rattle.transit_base.specs.declared.numbers.LegGroupId.{LegGroupId}
use Rattle.feed_rows.specs.declared.fares.TransferFacts.{TransferFacts}
use Rattle.feed_rows.specs.declared.rows.TransferRuleRow.{TransferRuleRow}
use Rattle.feed_rows.specs.FeedRows.{FeedRows}
use Rattle.feed_rows.specs.SoundFeed.{IsSoundFeed}
use Rattle.feed_rows.specs.TransferRules.{AskedChange, asked_change, is_selected, is_selected_transfer, is_arranged, selected_transfers}
use Rattle.feed_rows.specs.FareSteps.{is_arranged_after}
use Rattle.plain_laws.specs.Plain.{at_and, filled_and, picks_below, ids_where}
use Rattle.plain_laws.proofs.Laws.{picks_below-same}
use Rattle.fare_transfer_rules.specs.declared.XferRules.{XferRules}
use Rattle.fare_transfer_rules.specs.declared.groups.ClassedRow.{ClassedRow}
use Rattle.fare_transfer_rules.specs.declared.columns.Column.TheVariants.{From, To}
use Rattle.fare_transfer_rules.specs.Columns.{names as column_names}
use Rattle.number_marks.specs.Marks.{is_marked}
use Rattle.fare_transfer_rules.specs.Classes.{xfer_of, row_to, AreByClasses}
use Rattle.fare_transfer_rules.specs.Fits.{is_chosen, is_chosen_at, chosen_among}
use Rattle.fare_transfer_rules.specs.BuiltTransferRules.{AreXferRulesOf, AreRowsBetween, IsLeastFor, is_between}
use Rattle.number_marks.proofs.MarkLaws.{marked_names}
use Rattle.fare_transfer_rules.proofs.ClassLaws.{rows_of}
use Rattle.fare_transfer_rules.proofs.SelectedLaws.{chosen_is}

-- what passes a second test of what passes a first one
filter_picks : {X Y : Type 0} (p : X → Bool) (g : X → Y) (n : ℕ) (test : ℕ → Bool) (f : ℕ → X)
    → map g (filter p (picks_below n test f)) ≡ picks_below n (λ i. test i && p (f i)) (λ i. g (f i))
filter_picks p g zero test f = refl
filter_picks {X} {Y} p g (suc n) test f =
    ap (map g) (filter-append p (picks_below n test f) (if test n then f n ∷ [] else []))
    ∙ map-append g (filter p (picks_below n test f)) (filter p (if test n then f n ∷ [] else []))
    ∙ rw (filter_picks p g n test f) (ap (λ xs. picks_below n (λ i. test i && p (f i)) (λ i. g (f i)) ++ xs) (last (test n) (p (f n)) refl))
  where
    last : (b c : Bool) → p (f n) ≡ c → map g (filter p (if b then f n ∷ [] else [])) ≡ (if b && c then g (f n) ∷ [] else [])
    last true true is = rw is refl
    last true false is = rw is refl
    last false c is = refl

module _ (feed : FeedRows) (rules : XferRules) (are : AreXferRulesOf feed rules) (facts : TransferFacts) (change : AskedChange)
    (known : change ≡ asked_change facts) where
  -- a row that is there is selected where it is for the change as it is asked about, and one that isn't there never is
  pub selects_row : (i : ℕ) (row : TransferRuleRow) (b : Bool) → slice_get rules.rules.items i ≡ Some row →
      b ≡ is_selected feed change row → b ≡ at_and feed.transfer_rules i (is_selected_transfer feed facts)
  unfolding is_selected_transfer
  selects_row i row b at is =
      is ∙ ap (λ c. is_selected feed c row) known ∙ ap (λ o. filled_and o (is_selected_transfer feed facts)) (sym at)
      ∙ ap (λ rows. at_and rows i (is_selected_transfer feed facts)) are.rows

  pub selects_none : (i : ℕ) → slice_get rules.rules.items i ≡ None → false ≡ at_and feed.transfer_rules i (is_selected_transfer feed facts)
  selects_none i none =
      ap (λ o. filled_and o (is_selected_transfer feed facts)) (sym none)
      ∙ ap (λ rows. at_and rows i (is_selected_transfer feed facts)) are.rows

  -- there is a least count exactly where the change is arranged
  pub arranged_is : (least : Option (Option ℕ)) → IsLeastFor feed change least → is_some least ≡ is_arranged feed facts
  unfolding is_arranged is_arranged_after is_selected_transfer
  arranged_is least is_least = is_least.some ∙ ap (λ c. list_any (is_selected feed c) feed.transfer_rules) known

  -- the rows that are chosen among those for the change are those that are selected, in file order
  pub selected_is : (among : List ClassedRow) → AreRowsBetween feed change.from change.to among → (least : Option (Option ℕ)) →
      IsLeastFor feed change least → chosen_among rules.rules.items change least among ≡ selected_transfers feed facts
  unfolding is_selected_transfer
  selected_is among between least is_least =
      ap (chosen_among rules.rules.items change least) between.are
      ∙ ap (λ rows. chosen_among rows change least rows_of_pair) are.rows
      ∙ filter_picks (λ (r : ClassedRow). is_chosen_at feed.transfer_rules change least r.row) (λ (r : ClassedRow). r.row) (length feed.transfer_rules)
      (λ i. at_and feed.transfer_rules i (is_between feed change.from change.to)) (row_to between.to_class)
      ∙ picks_below-same (length feed.transfer_rules) _ (λ i. at_and feed.transfer_rules i (is_selected_transfer feed facts)) xfer_of
      (λ i lt. by (slice_get feed.transfer_rules i))
    where
      rows_of_pair : List ClassedRow
      rows_of_pair = ids_where (row_to between.to_class) (is_between feed change.from change.to) feed.transfer_rules

      by : (o : Option TransferRuleRow)
          → (filled_and o (is_between feed change.from change.to) && filled_and o (is_chosen change least))
          ≡ filled_and o (is_selected_transfer feed facts)
      by None = refl
      by (Some row) = chosen_is feed change least is_least row ∙ ap (λ c. is_selected feed c row) known

-- the transfer rules of a feed, from what each step of the building made
pub built : (feed inside : FeedRows) (rows : List TransferRuleRow) (groups : ℕ) (rules : XferRules) → inside ≡ feed →
    IsSoundFeed inside → rows ≡ inside.transfer_rules → groups ≡ length inside.group_names
    → rules.rules.items ≡ rows → AreByClasses rows (groups + 1) rules.by_from
    → ((i : ℕ) → is_marked rules.froms.items i ≡ (nat_lt i groups && list_any (column_names From i) rows))
    → ((i : ℕ) → is_marked rules.tos.items i ≡ (nat_lt i groups && list_any (column_names To i) rows)) →
    AreXferRulesOf feed rules
built feed inside rows groups rules view sound same many kept grouped froms tos =
    let sound_rules = sound.transfer_rules in
    subst (λ f. AreXferRulesOf f rules) view
    (record {
      rows = kept ∙ same;
      rises = grouped.rises;
      of_pair = rows_of inside rows rules.by_from groups sound_rules same many grouped;
      froms = λ g. marked_names (λ (x : LegGroupId). x.0) (λ (r : TransferRuleRow). r.from) rows inside.transfer_rules rules.froms.items groups same (rw many sound_rules.froms) froms g.0;
      tos = λ g. marked_names (λ (x : LegGroupId). x.0) (λ (r : TransferRuleRow). r.to) rows inside.transfer_rules rules.tos.items groups same (rw many sound_rules.tos) tos g.0;
    })

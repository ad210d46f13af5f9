-- The rows for changes between two leg groups, and those for changes from one.
use Rattle.std.proofs.Common.{◌≡◌, refl, sym, ◌∙◌, ap, subst, ℕ, true, ◌&&◌, List, Option, Some, None, length, filter, Contains}
use Rattle.std.specs.Prelude.{◌==◌, slice_get}
use Rattle.std.specs.List.{list_any}
use Rattle.std.proofs.lemmas.Bool.{and_parts, and_from, eq-eqb}
use Rattle.std.proofs.lemmas.Option.{slice_get_within}
use Rattle.transit_base.specs.declared.numbers.LegGroupId.{LegGroupId}
use Rattle.feed_rows.specs.declared.rows.TransferRuleRow.{TransferRuleRow}
use Rattle.feed_rows.specs.FeedRows.{FeedRows}
use Rattle.feed_rows.specs.TransferRules.{group_matches}
use Rattle.plain_laws.specs.Plain.{at_and, filled_and}
use Rattle.plain_laws.proofs.Laws.{same_test, filled_and-true, list_any-place, place_of_any, any_passes, Contains-slice_get, Contains-filter, filter-tells, Contains-picks_below, picks_below-tells, picks_below-same}
use Rattle.fare_transfer_rules.specs.declared.XferRules.{XferRules}
use Rattle.fare_transfer_rules.specs.declared.groups.ClassedRow.{ClassedRow}
use Rattle.fare_transfer_rules.specs.Classes.{field_class, class_of, is_of, row_to, leads_to, rows_at}
use Rattle.fare_transfer_rules.specs.Fits.{pair_rows}
use Rattle.fare_transfer_rules.specs.BuiltTransferRules.{AreXferRulesOf, is_between, AreRowsBetween, AreRowsFrom}
use Rattle.fare_transfer_rules.proofs.ClassLaws.{class_is}

module _ (feed : FeedRows) (rules : XferRules) (are : AreXferRulesOf feed rules) where
  -- the rows of the classes of two groups are those for changes between them
  pub rows_between : (from to : LegGroupId) (rows : List ClassedRow) → rows ≡ pair_rows rules from to → AreRowsBetween feed from to rows
  rows_between from to rows is = record {
    to_class = class_of rules.tos.items to.0;
    are = is ∙ are.of_pair (class_of rules.froms.items from.0) (class_of rules.tos.items to.0)
        ∙ picks_below-same (length feed.transfer_rules) _ (λ i. at_and feed.transfer_rules i (is_between feed from to)) (row_to (class_of rules.tos.items to.0))
        (λ i lt. at_row i (slice_get feed.transfer_rules i) refl);
  }
    where
      at_row : (i : ℕ) (o : Option TransferRuleRow) → slice_get feed.transfer_rules i ≡ o
          → filled_and o (is_of (class_of rules.froms.items from.0) (class_of rules.tos.items to.0)) ≡ filled_and o (is_between feed from to)
      at_row i None at = refl
      at_row i (Some row) at =
          rw (class_is feed (λ r. r.from) rules.froms.items are.froms i row at from, class_is feed (λ r. r.to) rules.tos.items are.tos i row at to) refl

  -- the rows of the class of a group are those for changes from it
  pub rows_from : (group : LegGroupId) (rows : List ClassedRow) → rows ≡ rows_at rules.by_from (class_of rules.froms.items group.0) → AreRowsFrom feed group rows
  rows_from group rows is test = same_test _ _ there back
    where
      class : ℕ
      class = class_of rules.froms.items group.0

      from_is : (i : ℕ) (row : TransferRuleRow) → slice_get feed.transfer_rules i ≡ Some row →
          (field_class row.from == class) ≡ group_matches feed (λ r. r.from) row.from group
      from_is i row at = class_is feed (λ r. r.from) rules.froms.items are.froms i row at group

      there : list_any (λ (r : ClassedRow). at_and feed.transfer_rules r.row.0 test) rows ≡ true
          → list_any (λ row. group_matches feed (λ r. r.from) row.from group && test row) feed.transfer_rules ≡ true
      there some =
          let place = place_of_any (λ (r : ClassedRow). at_and feed.transfer_rules r.row.0 test) rows some in
          let own = place.item in
          let inside : Contains (rows_at rules.by_from class) own = subst (λ rs. Contains rs own) is (Contains-slice_get rows place.index own place.is) in
          let kept : Contains (filter (leads_to own.to_class) (rows_at rules.by_from class)) own =
          Contains-filter (leads_to own.to_class) (rows_at rules.by_from class) own inside (eq-eqb own.to_class own.to_class refl) in
          let picked = picks_below-tells (length feed.transfer_rules) (λ i. at_and feed.transfer_rules i (is_of class own.to_class)) (row_to own.to_class) own
          (subst (λ rs. Contains rs own) (are.of_pair class own.to_class) kept) in
          let row = filled_and-true (slice_get feed.transfer_rules picked.number) (is_of class own.to_class) picked.passes in
          let tested : filled_and (slice_get feed.transfer_rules picked.number) test ≡ true =
          ap (λ (r : ClassedRow). at_and feed.transfer_rules r.row.0 test) picked.is ∙ place.passes in
          let passes : test row.value ≡ true = rw row.is at tested in
          list_any-place (λ row. group_matches feed (λ r. r.from) row.from group && test row) feed.transfer_rules picked.number row.value row.is
          (and_from _ _ (sym (from_is picked.number row.value row.is) ∙ (and_parts (field_class row.value.from == class) _ row.passes).0) passes)

      back : list_any (λ row. group_matches feed (λ r. r.from) row.from group && test row) feed.transfer_rules ≡ true
          → list_any (λ (r : ClassedRow). at_and feed.transfer_rules r.row.0 test) rows ≡ true
      back some =
          let place = place_of_any (λ row. group_matches feed (λ r. r.from) row.from group && test row) feed.transfer_rules some in
          let both = and_parts (group_matches feed (λ r. r.from) place.item.from group) (test place.item) place.passes in
          let to = field_class place.item.to in
          let fits : is_of class to place.item ≡ true = and_from _ _ (from_is place.index place.item place.is ∙ both.0) (eq-eqb to to refl) in
          let here : at_and feed.transfer_rules place.index (is_of class to) ≡ true = rw place.is fits in
          let picked = Contains-picks_below (length feed.transfer_rules) (λ i. at_and feed.transfer_rules i (is_of class to)) (row_to to) place.index
          (slice_get_within feed.transfer_rules place.index place.item place.is) here in
          let inside = filter-tells (leads_to to) (rows_at rules.by_from class) (row_to to place.index) (subst (λ rs. Contains rs (row_to to place.index)) (sym (are.of_pair class to)) picked) in
          let tested : at_and feed.transfer_rules place.index test ≡ true = rw place.is both.1 in
          any_passes (λ (r : ClassedRow). at_and feed.transfer_rules r.row.0 test) rows (row_to to place.index)
          (subst (λ rs. Contains rs (row_to to place.index)) (sym is) inside) tested

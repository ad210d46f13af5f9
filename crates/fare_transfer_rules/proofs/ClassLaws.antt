-- The rows of each pair of classes, and that a row which a change may select is of the classes of its two legs.
use Rattle.std.proofs.Common.{◌≡◌, refl, sym, ◌∙◌, ap, ℕ, zero, suc, ◌+◌, ◌<◌, ◌≤◌, ◌⊎◌, inl, inr, max, Bool, true, false, not, ◌&&◌, List, [], ◌∷◌, ◌++◌, length, map, filter, get_or, Option, Some, None, arith}
use Rattle.std.specs.Prelude.{◌==◌, if◌then◌else◌, slice_get, slice_range, nat_lt, nat_le}
use Rattle.std.specs.List.{AllWithin}
use Rattle.std.specs.List.Sorted.{IsNonDecreasingBy}
use Rattle.std.specs.Option.{ForSome}
use Rattle.std.proofs.lemmas.Bool.{cases_lt}
use Rattle.std.proofs.lemmas.Bool.Decides.{nat_tests}
use Rattle.std.proofs.lemmas.List.Elements.{filter-append, filter_agree}
use Rattle.std.proofs.lemmas.List.Sorted.{IsNonDecreasingBy-short}
use Rattle.std.proofs.lemmas.Option.{slice_get_cases}
use Rattle.transit_base.specs.declared.numbers.LegGroupId.{LegGroupId}
use Rattle.feed_rows.specs.declared.rows.TransferRuleRow.{TransferRuleRow}
use Rattle.feed_rows.specs.FeedRows.{FeedRows}
use Rattle.feed_rows.specs.SoundFares.{AreSoundTransferRules}
use Rattle.feed_rows.specs.TransferRules.{is_listed_group, group_matches}
use Rattle.item_groups.specs.declared.groups.Grouped.{Grouped}
use Rattle.plain_laws.specs.Plain.{filled_and, at_and, list_below, picks_below, ids_where}
use Rattle.item_groups.specs.Groups.{group_of, groups_below}
use Rattle.plain_laws.proofs.Laws.{same_test, All-slice_get, filter-filter, filter-map, filter_part, picks_below-none, list_any-place}
use Rattle.item_groups.proofs.GroupLaws.{group_of-append, group_rises, groups_below-at, groups_below-past}
use Rattle.fare_transfer_rules.specs.declared.groups.ClassedRow.{ClassedRow}
use Rattle.number_marks.specs.Marks.{is_marked}
use Rattle.fare_transfer_rules.specs.Classes.{field_class, class_of, is_of, row_to, member_at, leads_to, rows_at, IsPutByTo, AreByClasses}
use Rattle.fare_transfer_rules.specs.Fits.{group_fits}

-- the items of a key are a part of those that stand by their keys
pub part_of_key : {X : Type 0} (key : X → ℕ) (xs : List X) (n first end : ℕ) → first ≤ length xs → end ≤ length xs
    → AllWithin (λ x. nat_lt (key x) n ≡ true) xs 0 first → AllWithin (λ x. nat_lt (key x) n ≡ false) xs first (length xs)
    → AllWithin (λ x. nat_le (key x) n ≡ true) xs 0 end → AllWithin (λ x. nat_le (key x) n ≡ false) xs end (length xs)
    → slice_range xs first (max end first) ≡ filter (λ x. key x == n) xs
part_of_key key xs n first end within inside below from upto past =
    sym (filter_part (λ x. key x == n) xs first (max end first) (omega arith) (omega arith)
    (λ k d low high. let h = below k d low high in grind (arith, nat_tests, h))
    (λ k d low high. let h = from k d low (omega arith) in let u = upto k d (omega arith) (omega arith) in grind (arith, nat_tests, h, u))
    (λ k d low high. let h = past k d (omega arith) high in grind (arith, nat_tests, h)))

-- those of a group that pass a test are the group of those that pass it
filter-group_of : {X : Type 0} (p : X → Bool) (ms : List (Grouped X)) (i : ℕ)
    → filter p (group_of ms i) ≡ group_of (filter (λ (m : Grouped X). p m.item) ms) i
filter-group_of {X} p ms i = filter-map p (λ (m : Grouped X). m.item) (filter in_group ms) ∙ ap (map (λ (m : Grouped X). m.item)) turned
  where
    in_group : Grouped X → Bool
    in_group m = m.group == i

    passes : Grouped X → Bool
    passes m = p m.item

    both : (a b : Bool) → (a && b) ≡ (b && a)
    both true true = refl
    both true false = refl
    both false true = refl
    both false false = refl

    turned : filter passes (filter in_group ms) ≡ filter in_group (filter passes ms)
    turned =
        filter-filter passes in_group ms
        ∙ filter_agree (λ m. passes m && in_group m) (λ m. in_group m && passes m) (λ m. both (passes m) (in_group m)) ms
        ∙ sym (filter-filter in_group passes ms)

-- of the first rows in file order, those of a pair of classes
members_of_pair : (rows : List TransferRuleRow) (from to n : ℕ) → n ≤ length rows
    → filter (leads_to to) (group_of (list_below n (member_at rows)) from) ≡ picks_below n (λ i. at_and rows i (is_of from to)) (row_to to)
members_of_pair rows from to zero within = refl
members_of_pair rows from to (suc n) within =
    ap (filter (leads_to to)) (group_of-append (list_below n (member_at rows)) (member_at rows n ∷ []) from)
    ∙ filter-append (leads_to to) (group_of (list_below n (member_at rows)) from) (group_of (member_at rows n ∷ []) from)
    ∙ rw (members_of_pair rows from to n (omega arith))
    (ap (λ xs. picks_below n (λ i. at_and rows i (is_of from to)) (row_to to) ++ xs) (last (slice_get_cases rows n).1))
  where
    step : (row : TransferRuleRow) (a b : Bool) → (field_class row.from == from) ≡ a → (field_class row.to == to) ≡ b
        → filter (leads_to to) (group_of (record { group = field_class row.from; item = row_to (field_class row.to) n } ∷ []) from)
        ≡ (if is_of from to row then row_to to n ∷ [] else [])
    step row true true own next = let same : field_class row.to ≡ to = grind (arith, nat_tests, next) in rw (own, next) (ap (λ k. row_to k n ∷ []) same)
    step row true false own next = rw (own, next) refl
    step row false b own next = rw own refl

    last : ((x : TransferRuleRow) × (n < length rows) × (slice_get rows n ≡ Some x) × (get_or rows n x ≡ x)) ⊎ ((length rows ≤ n) × (slice_get rows n ≡ None))
        → filter (leads_to to) (group_of (member_at rows n ∷ []) from) ≡ (if at_and rows n (is_of from to) then row_to to n ∷ [] else [])
    last (inl found) = rw found.2 (step found.0 _ _ refl refl)
    last (inr past) = absurd (let le = past.0 in omega arith)

-- the rows in groups, from members in file order that were put by the classes after a change
pub grouped_by_class : (rows : List TransferRuleRow) (made sorted : List (Grouped ClassedRow)) (groups : List (List ClassedRow)) (n : ℕ)
    → made ≡ list_below (length rows) (member_at rows) → IsPutByTo made sorted → groups ≡ groups_below n sorted → AreByClasses rows n groups
grouped_by_class rows made sorted groups n is put are =
    record {
      rises = λ from. step from (cases_lt from n);
      has = λ from to lt. rw (at from lt) (of_pair from to);
      none = past;
    }
  where
    at : (from : ℕ) → from < n → rows_at groups from ≡ group_of sorted from
    at from lt = rw are (groups_below-at n sorted from lt)

    past : (from : ℕ) → n ≤ from → rows_at groups from ≡ []
    past from le = rw are (groups_below-past n sorted from le)

    step : (from : ℕ) → (from < n) ⊎ (n ≤ from) → IsNonDecreasingBy (λ (r : ClassedRow). r.to_class) (rows_at groups from)
    step from (inl lt) = rw (at from lt) (group_rises (λ (r : ClassedRow). r.to_class) sorted from put.rises)
    step from (inr le) = rw (past from le) (IsNonDecreasingBy-short (λ (r : ClassedRow). r.to_class) [] (omega arith))

    of_pair : (from to : ℕ) → filter (leads_to to) (group_of sorted from) ≡ ids_where (row_to to) (is_of from to) rows
    of_pair from to =
        filter-group_of (leads_to to) sorted from ∙ ap (λ ms. group_of ms from) (put.same to)
        ∙ sym (filter-group_of (leads_to to) made from)
        ∙ ap (λ ms. filter (leads_to to) (group_of ms from)) is ∙ members_of_pair rows from to (length rows) (omega arith)

-- each pair of classes has its rows, and no row is of a class that isn't there
pub rows_of : (feed : FeedRows) (rows : List TransferRuleRow) (groups : List (List ClassedRow)) (n : ℕ) →
    AreSoundTransferRules feed → rows ≡ feed.transfer_rules → n ≡ length feed.group_names →
    AreByClasses rows (n + 1) groups
    → (from to : ℕ) → filter (leads_to to) (rows_at groups from) ≡ ids_where (row_to to) (is_of from to) feed.transfer_rules
rows_of feed rows groups n sound same count are from to = step (cases_lt from (n + 1))
  where
    low : (o : Option LegGroupId) → ForSome o (λ g. g.0 < length feed.group_names) → n + 1 ≤ from → (field_class o == from) ≡ false
    low None within past = grind (arith, nat_tests)
    low (Some g) within past = let lt : g.0 < length feed.group_names = within g refl in grind (arith, nat_tests)

    fails : n + 1 ≤ from → (i : ℕ) → (o : Option TransferRuleRow) → slice_get feed.transfer_rules i ≡ o →
        filled_and o (is_of from to) ≡ false
    fails past i None got = refl
    fails past i (Some row) got =
        rw (low row.from (All-slice_get (λ r. ForSome r.from (λ g. g.0 < length feed.group_names)) feed.transfer_rules i row got sound.froms) past) refl

    step : (from < n + 1) ⊎ (n + 1 ≤ from) →
        filter (leads_to to) (rows_at groups from) ≡ ids_where (row_to to) (is_of from to) feed.transfer_rules
    step (inl lt) = are.has from to lt ∙ ap (ids_where (row_to to) (is_of from to)) same
    step (inr past) =
        ap (filter (leads_to to)) (are.none from past)
        ∙ sym (picks_below-none (length feed.transfer_rules) _ (row_to to) (λ i lt. fails past i (slice_get feed.transfer_rules i) refl))

-- a row of the feed matches a group exactly where it is of the group's class
pub class_fits : (feed : FeedRows) (column : TransferRuleRow → Option LegGroupId) (named : List Bool) →
    ((group : LegGroupId) → is_marked named group.0 ≡ is_listed_group feed column group)
    → (i : ℕ) (row : TransferRuleRow) → slice_get feed.transfer_rules i ≡ Some row → (group : LegGroupId)
    → group_fits named (column row) group ≡ true → (field_class (column row) == class_of named group.0) ≡ true
class_fits feed column named marks i row at group fits = by (column row) refl (is_marked named group.0) refl
  where
    by : (o : Option LegGroupId) → column row ≡ o → (b : Bool) → is_marked named group.0 ≡ b →
        (field_class (column row) == class_of named group.0) ≡ true
    by None is true marked =
        let no : not (is_marked named group.0) ≡ true = rw is at fits in
        absurd (let bad : false ≡ true = rw marked at no in cc)
    by None is false marked = rw (is, marked) refl
    by (Some own) is true marked =
        let same : (own.0 == group.0) ≡ true = rw is at fits in
        rw (is, marked) (grind (arith, nat_tests, same))
    by (Some own) is false marked =
        let same : (own.0 == group.0) ≡ true = rw is at fits in
        let names : filled_and (column row) (λ g. g.0 == group.0) ≡ true = rw is same in
        let listed = list_any-place (λ r. filled_and (column r) (λ g. g.0 == group.0)) feed.transfer_rules i row at names in
        absurd (let bad : false ≡ true = sym marked ∙ marks group ∙ listed in cc)

-- the marks tell which groups a row without a name in the column matches
pub group_is : (feed : FeedRows) (column : TransferRuleRow → Option LegGroupId) (named : List Bool) →
    ((group : LegGroupId) → is_marked named group.0 ≡ is_listed_group feed column group)
    → (o : Option LegGroupId) (group : LegGroupId) → group_fits named o group ≡ group_matches feed column o group
unfolding group_matches
group_is feed column named marks (Some own) group = refl
group_is feed column named marks None group = ap not (marks group)

-- a row of the class of a group matches it
fits_class : (named : List Bool) (o : Option LegGroupId) (group : LegGroupId)
    → (field_class o == class_of named group.0) ≡ true → group_fits named o group ≡ true
fits_class named o group e = by o (is_marked named group.0) refl e
  where
    by : (o : Option LegGroupId) (b : Bool) → is_marked named group.0 ≡ b →
        (field_class o == (if b then group.0 + 1 else 0)) ≡ true → group_fits named o group ≡ true
    by None true marked e = absurd (let no : (0 == group.0 + 1) ≡ true = e in grind (arith, nat_tests, no))
    by None false marked e = rw marked refl
    by (Some own) true marked e = let same : (own.0 + 1 == group.0 + 1) ≡ true = e in grind (arith, nat_tests, same)
    by (Some own) false marked e = absurd (let no : (own.0 + 1 == 0) ≡ true = e in grind (arith, nat_tests, no))

-- so the class of a row of the feed says which groups it matches
pub class_is : (feed : FeedRows) (column : TransferRuleRow → Option LegGroupId) (named : List Bool) →
    ((group : LegGroupId) → is_marked named group.0 ≡ is_listed_group feed column group)
    → (i : ℕ) (row : TransferRuleRow) → slice_get feed.transfer_rules i ≡ Some row → (group : LegGroupId)
    → (field_class (column row) == class_of named group.0) ≡ group_matches feed column (column row) group
class_is feed column named marks i row at group =
    same_test _ _ (fits_class named (column row) group) (class_fits feed column named marks i row at group)
    ∙ group_is feed column named marks (column row) group

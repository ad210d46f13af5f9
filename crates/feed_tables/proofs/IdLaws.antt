-- The ids of a column, each once: how they are listed, and that what is found of them is the earliest row with an id.
use Rattle.std.proofs.Common.{All, AllPairs, ◌≡◌, refl, sym, ◌∙◌, ap, subst, ℕ, zero, suc, ◌+◌, ◌<◌, ◌≤◌, ◌⊎◌, inl, inr, ⊎_elim, Bool, true, false, ◌==◌, ◌&&◌, List, [], ◌∷◌, ◌++◌, length, get_or, IsPermutation, bytes_eq, ◌*◌, ◌^◌, min, arith, Option, Some, None, Err, nat_lt}
use Rattle.std.specs.Prelude.{◌≢◌, IfSome, Any, map, unwrap_or}
use Rattle.std.specs.List.{Contains, dedup, dedup_from, list_any}
use Rattle.std.specs.List.Sorted.{IsSortedByKey, IsStrictlySortedBy, IsSortedBy, IsBinarySearchResult, IsNonDecreasingBy, IsPartitionPoint}
use Rattle.std.specs.Cmp.{IsTotalOrder}
use Rattle.std.specs.Cmp.Lexicographic.{slice_cmp}
use Rattle.std.specs.Ordering.{nat_cmp, ordering_then, ordering_reverse, ordering_index, is_lt, is_eq}
use Rattle.std.specs.declared.cmp.Ordering.{Ordering}
use Rattle.std.specs.declared.cmp.Ordering.TheVariants.{Less, Equal, Greater}
use Rattle.std.proofs.lemmas.Bool.{cases_eq, cases_lt, cases_Bool, lt-ltb}
use Rattle.std.proofs.lemmas.Bool.Decides.{Decides-eqb, nat_tests}
use Rattle.std.proofs.lemmas.Cmp.{nat_cmp_total, nat_list_cmp_total, tied_itself, on_total, then_total}
use Rattle.std.proofs.lemmas.Map.Text.{is_eq-slice_cmp}
use Rattle.std.proofs.lemmas.Map.Keys.{Less-from_sorted}
use Rattle.std.proofs.lemmas.Map.Made.{IsDistinct-from_AllPairs}
use Rattle.std.proofs.lemmas.Map.Steps.{length-le_from_distinct_below}
use Rattle.std.proofs.Math.Dec.{eqb}
use Rattle.std.proofs.Math.ListN.{get_or-map}
use Rattle.std.proofs.lemmas.Slice.Eq.{bytes_eq-Decides}
use Rattle.std.proofs.lemmas.List.{get_or_default, length-append, length-map}
use Rattle.std.proofs.lemmas.List.Folds.{Any-from_list_any}
use Rattle.std.proofs.lemmas.List.Elements.{All-push, All-contains, Contains-append_left, Contains-push, Contains-get_or}
use Rattle.std.proofs.lemmas.List.Kept.{IsStrictlySortedBy-dedup, Contains-from_dedup}
use Rattle.std.proofs.lemmas.List.Sorted.{All-permutation, Contains-permutation, length_permutation, sorted_far, ranks_by, searchable_from_sorted}
use Rattle.feed_files.specs.declared.names.ColumnName.{ColumnName}
use Rattle.plain_laws.specs.Plain.{any_below, find_below}
use Rattle.plain_laws.proofs.Laws.{IsFirst, find_below_hit, find_below_none, find_below_some, find_below_tells, any_below_hit, any_below_tells, same_test}
use Rattle.feed_faults.specs.Records.{FileTable, row_count, field}
use Rattle.feed_faults.specs.RowKeys.{row_of, is_doubled}
use Rattle.feed_text.specs.RowLimits.{row_limit}
use Rattle.feed_tables.specs.declared.id_rows.IdRow.{IdRow}
use Rattle.feed_tables.specs.IdRows.{start_below, IsKeyOf, AreIdRows, id_order}

-- the first rows of the table, each with its id and the key of that
pub record AreFirstRows (table : FileTable) (name : ColumnName) (n : ℕ) (rows : List IdRow) : Type 0 where
  pub keyed : All (λ (entry : IdRow). IsKeyOf entry.key entry.id.now) rows
  pub right : All (λ (entry : IdRow). entry.id.now ≡ field table entry.row name) rows
  pub within : All (λ (entry : IdRow). entry.row < row_count table) rows
  pub all : (row : ℕ) → row < n → Any (λ (entry : IdRow). entry.row ≡ row) rows
  pub count : length rows ≡ n

-- one more row
pub row_more : (table : FileTable) (name : ColumnName) (n : ℕ) (rows : List IdRow) (entry : IdRow) → AreFirstRows table name n rows
    → n < row_count table → entry.row ≡ n → entry.id.now ≡ field table n name → IsKeyOf entry.key entry.id.now
    → AreFirstRows table name (n + 1) (rows ++ entry ∷ [])
row_more table name n rows entry before lt here same key = record {
  keyed = All-push (λ (x : IdRow). IsKeyOf x.key x.id.now) rows entry before.keyed key;
  right = All-push (λ (x : IdRow). x.id.now ≡ field table x.row name) rows entry before.right (rw here same);
  within = All-push (λ (x : IdRow). x.row < row_count table) rows entry before.within (rw here lt);
  all = λ row below. each row below (cases_eq row n);
  count = let long = length-append rows (entry ∷ []) in let size = before.count in omega (arith, long, size);
}
  where
    each : (row : ℕ) → row < n + 1 → (row ≡ n) ⊎ (row ≡ n → ⊥) → Any (λ (x : IdRow). x.row ≡ row) (rows ++ entry ∷ [])
    each row below (inl at) = let c = Contains-push rows entry in (c.0, entry, c.1, c.2, here ∙ sym at)
    each row below (inr other) =
        let old = before.all row (omega arith) in
        let c = Contains-append_left rows (entry ∷ []) old.1 (old.0, old.2, old.3) in
        (c.0, old.1, c.1, c.2, old.4)

-- ids that are the same
abbrev pub same : IdRow → IdRow → Bool
same a b = (a.key == b.key) && bytes_eq a.id.now b.id.now

same_tells : (a b : IdRow) → same a b ≡ true → a.id.now ≡ b.id.now
same_tells a b e = step (a.key == b.key) e
  where
    step : (s : Bool) → (s && bytes_eq a.id.now b.id.now) ≡ true → a.id.now ≡ b.id.now
    step true e = (bytes_eq-Decides a.id.now b.id.now).0 e
    step false e = absurd (cc)

ties : (a b : IdRow) → same a b ≡ is_eq (id_order a b)
ties a b = both (nat_cmp a.key b.key) (a.key == b.key) (slice_cmp nat_cmp a.id.now b.id.now) (bytes_eq a.id.now b.id.now) numbers (sym (is_eq-slice_cmp a.id.now b.id.now))
  where
    numbers : (a.key == b.key) ≡ is_eq (nat_cmp a.key b.key)
    numbers = grind (arith, nat_tests)

    both : (o : Ordering) (s : Bool) (p : Ordering) (t : Bool) → s ≡ is_eq o → t ≡ is_eq p → (s && t) ≡ is_eq (ordering_then o p)
    both Less s p t e f = rw e refl
    both Equal s p t e f = rw e f
    both Greater s p t e f = rw e refl

order_total : IsTotalOrder id_order
order_total = then_total (on_total (λ (x : IdRow). x.key) nat_cmp_total) (on_total (λ (x : IdRow). x.id.now) nat_list_cmp_total)

-- of two rows with one id the later doesn't stand before
abbrev Rises : IdRow → IdRow → Type 0
Rises a b = a.id.now ≡ b.id.now → a.row ≤ b.row

-- a row with the same id that isn't later
abbrev Stands : IdRow → IdRow → Type 0
Stands z y = (y.id.now ≡ z.id.now) × (y.row ≤ z.row)

uncons : (x : IdRow) (xs : List IdRow) (z : IdRow) → Contains (x ∷ xs) z → (x ≡ z) ⊎ Contains xs z
uncons x xs z (zero, lt, is) = inl is
uncons x xs z (suc k, lt, is) = inr (k, omega (arith, lt), is)

-- so for each row one is kept that has its id and isn't later
kept : (x : IdRow) (xs : List IdRow) → All (Rises x) xs → AllPairs Rises xs → (z : IdRow) → Contains (x ∷ xs) z → Any (Stands z) (dedup_from same x xs)
kept x [] up pairs z c = step (uncons x [] z c)
  where
    step : (x ≡ z) ⊎ Contains [] z → Any (Stands z) (x ∷ [])
    step (inl is) = (0, x, omega arith, refl, (ap (λ (t : IdRow). t.id.now) is, let row : x.row ≡ z.row = ap (λ (t : IdRow). t.row) is in omega (arith, row)))
    step (inr none) = absurd (let lt = none.1 in omega (arith, lt))
kept x (y ∷ ys) up pairs z c = step (λ w. kept x ys up_rest tails w) (kept y ys heads tails z) (same y x) refl (uncons x (y ∷ ys) z c)
  where
    up_rest : All (Rises x) ys
    up_rest k d lt = up (suc k) d (omega (arith, lt))

    heads : All (Rises y) ys
    heads k d lt = pairs 0 (suc k) d (omega arith) (omega (arith, lt))

    tails : AllPairs Rises ys
    tails i j d below lt = pairs (suc i) (suc j) d (omega (arith, below)) (omega (arith, lt))

    Before : Type 0
    Before = (w : IdRow) → Contains (x ∷ ys) w → Any (Stands w) (dedup_from same x ys)

    under : Before → same y x ≡ true → (x ≡ z) ⊎ Contains (y ∷ ys) z → Any (Stands z) (dedup_from same x ys)
    under before e (inl is) = before z (0, omega arith, is)
    under before e (inr c) = ⊎_elim
        (λ (is : y ≡ z).
        let first = before x (0, omega arith, refl) in
        let one : x.id.now ≡ y.id.now = sym (same_tells y x e) in
        let low : x.row ≤ y.row = up 0 y (omega arith) one in
        let row : y.row ≡ z.row = ap (λ (t : IdRow). t.row) is in
        let kept_low = first.4.1 in
        (first.0, first.1, first.2, first.3, (first.4.0 ∙ one ∙ ap (λ (t : IdRow). t.id.now) is, omega (arith, low, row, kept_low))))
        (λ (rest : Contains ys z). before z (suc rest.0, let lt = rest.1 in omega (arith, lt), rest.2))
        (uncons y ys z c)

    over : (Contains (y ∷ ys) z → Any (Stands z) (dedup_from same y ys)) → (x ≡ z) ⊎ Contains (y ∷ ys) z → Any (Stands z) (x ∷ dedup_from same y ys)
    over behind (inl is) = (0, x, omega arith, refl, (ap (λ (t : IdRow). t.id.now) is, let row : x.row ≡ z.row = ap (λ (t : IdRow). t.row) is in omega (arith, row)))
    over behind (inr c) = let rest = behind c in (suc rest.0, rest.1, let lt = rest.2 in omega (arith, lt), rest.3, rest.4)

    step : Before → (Contains (y ∷ ys) z → Any (Stands z) (dedup_from same y ys)) → (b : Bool) → same y x ≡ b → (x ≡ z) ⊎ Contains (y ∷ ys) z
        → Any (Stands z) (dedup_from same x (y ∷ ys))
    step before behind true e found = rw e (under before e found)
    step before behind false e found = rw e (over behind found)

kept_all : (xs : List IdRow) → AllPairs Rises xs → (z : IdRow) → Contains xs z → Any (Stands z) (dedup same xs)
kept_all [] pairs z c = absurd (let lt = c.1 in omega (arith, lt))
kept_all (x ∷ xs) pairs z c =
    kept x xs (λ k d lt. pairs 0 (suc k) d (omega arith) (omega (arith, lt))) (λ i j d below lt. pairs (suc i) (suc j) d (omega (arith, below)) (omega (arith, lt))) z c

-- ids with one key and the same bytes stand in one place
tied : (a b : IdRow) → IsKeyOf a.key a.id.now → IsKeyOf b.key b.id.now → a.id.now ≡ b.id.now → id_order a b ≡ Equal
tied a b first second one =
    let keys : a.key ≡ b.key = first.number ∙ ap (λ id. start_below 7 id + min (length id) 255 * 256 ^ 7) one ∙ sym second.number in
    rw (keys, one, tied_itself nat_cmp_total b.key) (tied_itself nat_list_cmp_total b.id.now)

one_place : (rows : List IdRow) → IsStrictlySortedBy id_order rows → All (λ (entry : IdRow). IsKeyOf entry.key entry.id.now) rows
    → (a b : IdRow) → (i : ℕ) → i < length rows → get_or rows i a ≡ a → (j : ℕ) → j < length rows → get_or rows j b ≡ b → a.id.now ≡ b.id.now → a ≡ b
one_place rows up keyed a b i i_lt a_is j j_lt b_is one = step (cases_lt i j) (cases_lt j i)
  where
    a_key : IsKeyOf a.key a.id.now
    a_key = subst (λ (x : IdRow). IsKeyOf x.key x.id.now) a_is (keyed i a i_lt)

    b_key : IsKeyOf b.key b.id.now
    b_key = subst (λ (x : IdRow). IsKeyOf x.key x.id.now) b_is (keyed j b j_lt)

    wrong : Less ≡ Equal → ⊥
    wrong e = let no : true ≡ false = ap is_lt e in cc

    step : (i < j) ⊎ (j ≤ i) → (j < i) ⊎ (i ≤ j) → a ≡ b
    step (inl lt) _ =
        let less = Less-from_sorted id_order rows i j a up lt j_lt in
        absurd (wrong (sym (rw (a_is, get_or_default rows j a b j_lt ∙ b_is) at less) ∙ tied a b a_key b_key one))
    step (inr le) (inl lt) =
        let less = Less-from_sorted id_order rows j i b up lt i_lt in
        absurd (wrong (sym (rw (b_is, get_or_default rows i b a i_lt ∙ a_is) at less) ∙ tied b a b_key a_key (sym one)))
    step (inr le) (inr ge) = let at : i ≡ j = omega (arith, le, ge) in sym a_is ∙ ap (λ k. get_or rows k a) at ∙ get_or_default rows j a b j_lt ∙ b_is

-- sorted, and with each id once, they are the ids of the column
module _ (table : FileTable) (name : ColumnName) (rows sorted : List IdRow) (first : AreFirstRows table name (row_count table) rows) (moved : IsPermutation rows sorted)
    (up : IsSortedByKey {K = ℕ × List ℕ × ℕ} (λ (entry : IdRow). (entry.key, entry.id.now, entry.row)) (λ x y. ordering_then (ordering_then (nat_cmp x.0 y.0) (slice_cmp nat_cmp x.1 y.1)) (nat_cmp x.2 y.2)) sorted) where
  keyed : All (λ (entry : IdRow). IsKeyOf entry.key entry.id.now) sorted
  keyed = All-permutation (λ (x : IdRow). IsKeyOf x.key x.id.now) rows sorted moved first.keyed

  right : All (λ (entry : IdRow). entry.id.now ≡ field table entry.row name) sorted
  right = All-permutation (λ (x : IdRow). x.id.now ≡ field table x.row name) rows sorted moved first.right

  within : All (λ (entry : IdRow). entry.row < row_count table) sorted
  within = All-permutation (λ (x : IdRow). x.row < row_count table) rows sorted moved first.within

  far : (i j : ℕ) (d : IdRow) → i < j → j < length sorted → is_lt (ordering_then (id_order (get_or sorted j d) (get_or sorted i d)) (nat_cmp (get_or sorted j d).row (get_or sorted i d).row)) ≡ false
  far i j d lt inside =
      sorted_far (λ (a b : IdRow). is_lt (ordering_then (id_order a b) (nat_cmp a.row b.row)))
      (ranks_by (then_total order_total (on_total (λ (x : IdRow). x.row) nat_cmp_total)) (λ (x : IdRow). x)) sorted up i j d (omega arith) inside

  rising : AllPairs Rises sorted
  rising i j d lt inside one = step (far i j d lt inside)
    where
      a : IdRow
      a = get_or sorted i d

      b : IdRow
      b = get_or sorted j d

      step : is_lt (ordering_then (id_order b a) (nat_cmp b.row a.row)) ≡ false → a.row ≤ b.row
      step e = let rows : is_lt (nat_cmp b.row a.row) ≡ false = rw (tied b a (keyed j d inside) (keyed i d (omega arith)) (sym one)) at e in ⊎_elim (λ (lt : b.row < a.row). absurd (let no : ⊥ = grind (arith, nat_tests, rows) in no)) (λ le. le) (cases_lt b.row a.row)

  in_order : IsSortedBy (λ (a b : IdRow). is_lt (id_order a b)) sorted
  in_order k d low lt = told (id_order (get_or sorted (k + 1) d) (get_or sorted k d)) (nat_cmp (get_or sorted (k + 1) d).row (get_or sorted k d).row) (far k (k + 1) d (omega arith) lt)
    where
      told : (o p : Ordering) → is_lt (ordering_then o p) ≡ false → is_lt o ≡ false
      told Less p e = e
      told Equal p e = refl
      told Greater p e = refl

  abbrev pub ids : List IdRow
  ids = dedup same sorted

  strict : IsStrictlySortedBy id_order ids
  strict = IsStrictlySortedBy-dedup order_total ties sorted in_order

  each : (P : IdRow → Type 0) → All P sorted → All P ids
  each P all k d lt = All-contains P sorted (get_or ids k d) all (Contains-from_dedup same sorted (get_or ids k d) (Contains-get_or ids k d lt))

  -- each row has an id that is kept, with a row that isn't later
  of_row : (row : ℕ) → row < row_count table → Any (λ (y : IdRow). (y.id.now ≡ field table row name) × (y.row ≤ row)) ids
  of_row row lt =
      let there = first.all row lt in
      let moved_there = Contains-permutation rows sorted there.1 moved (there.0, there.2, there.3) in
      let own : there.1.id.now ≡ field table row name = All-contains (λ (x : IdRow). x.id.now ≡ field table x.row name) sorted there.1 right moved_there ∙ ap (λ r. field table r name) there.4 in
      let stands = kept_all sorted rising there.1 moved_there in
      let low = stands.4.1 in
      let at = there.4 in
      (stands.0, stands.1, stands.2, stands.3, (stands.4.0 ∙ own, omega (arith, low, at)))

  earliest : All (λ (entry : IdRow). row_of table name entry.id.now ≡ Some entry.row) ids
  unfolding row_of
  earliest k d lt = find_below_hit test (row_count table) entry.row (record { within = each (λ (x : IdRow). x.row < row_count table) within k d lt; passes = passes; earlier = earlier })
    where
      entry : IdRow
      entry = get_or ids k d

      test : ℕ → Bool
      test row = bytes_eq entry.id.now (field table row name)

      passes : test entry.row ≡ true
      passes = (bytes_eq-Decides entry.id.now (field table entry.row name)).1 (each (λ (x : IdRow). x.id.now ≡ field table x.row name) right k d lt)

      not_before : (row : ℕ) → row < entry.row → test row ≡ true → ⊥
      not_before row below e =
          let inside : entry.row < row_count table = each (λ (x : IdRow). x.row < row_count table) within k d lt in
          let other = of_row row (omega (arith, below, inside)) in
          let same_id : other.1.id.now ≡ entry.id.now = other.4.0 ∙ sym ((bytes_eq-Decides entry.id.now (field table row name)).0 e) in
          let one = one_place ids strict (each (λ (x : IdRow). IsKeyOf x.key x.id.now) keyed) other.1 entry other.0 other.2 other.3 k lt (get_or_default ids k entry d lt) same_id in
          let row_one : other.1.row ≡ entry.row = ap (λ (x : IdRow). x.row) one in
          let low = other.4.1 in
          absurd (omega (arith, row_one, low, below))

      earlier : (row : ℕ) → row < entry.row → test row ≡ false
      earlier row below = ⊎_elim (λ e. absurd (not_before row below e)) (λ e. e) (cases_Bool (test row))

  pub are_id_rows : (kept_rows : List IdRow) → kept_rows ≡ ids → length kept_rows ≤ length sorted → row_count table ≤ row_limit → AreIdRows table name kept_rows
  are_id_rows kept_rows is fewer few = record {
    sorted = rw is strict;
    keyed = rw is (each (λ (x : IdRow). IsKeyOf x.key x.id.now) keyed);
    earliest = rw is earliest;
    all = λ row lt. rw is (let there = of_row row lt in (there.0, there.1, there.2, there.3, there.4.0));
    few = let size = length_permutation rows sorted moved in let count = first.count in omega (arith, fewer, size, count, few);
  }

-- an id that stands in a row is that row's field
pub field_there : (table : FileTable) (name : ColumnName) (id : List ℕ) (row : ℕ) → row_of table name id ≡ Some row → id ≡ field table row name
unfolding row_of
field_there table name id row e =
    (bytes_eq-Decides id (field table row name)).0 (find_below_tells (λ r. bytes_eq id (field table r name)) (row_count table) row e).passes

-- what is found is a row of the table
pub row_of_within : (table : FileTable) (name : ColumnName) (id : List ℕ) (found : Option ℕ) → found ≡ row_of table name id → IfSome found (λ row. row < row_count table)
unfolding row_of
row_of_within table name id None e = tt
row_of_within table name id (Some row) e = (find_below_tells (λ r. bytes_eq id (field table r name)) (row_count table) row (sym e)).within

-- how an id with its key stands to one that is sought
abbrev pub order_to : ℕ → List ℕ → IdRow → Ordering
order_to key id entry = ordering_then (nat_cmp entry.key key) (slice_cmp nat_cmp entry.id.now id)

-- what a binary search among the ids tells
module _ (table : FileTable) (name : ColumnName) (rows : List IdRow) (are : AreIdRows table name rows) (key : ℕ) (id : List ℕ) (is : IsKeyOf key id) where
  pub found_row : (place : ℕ) (d : IdRow) → place < length rows → order_to key id (get_or rows place d) ≡ Equal → row_of table name id ≡ Some (get_or rows place d).row
  found_row place d lt e = subst (λ text. row_of table name text ≡ Some (get_or rows place d).row) same_text (are.earliest place d lt)
    where
      second : (o p : Ordering) → ordering_then o p ≡ Equal → p ≡ Equal
      second Less p e = absurd (let no : true ≡ false = ap is_lt e in cc)
      second Equal p e = e
      second Greater p e = absurd (let no : false ≡ true = ap is_eq e in cc)

      same_text : (get_or rows place d).id.now ≡ id
      same_text = (bytes_eq-Decides (get_or rows place d).id.now id).0
          (sym (is_eq-slice_cmp (get_or rows place d).id.now id) ∙ ap is_eq (second (nat_cmp (get_or rows place d).key key) (slice_cmp nat_cmp (get_or rows place d).id.now id) e))

  rises : IsNonDecreasingBy (λ (entry : IdRow). ordering_index (order_to key id entry)) rows
  rises = searchable_from_sorted (then_total (on_total (λ (x : ℕ × List ℕ). x.0) nat_cmp_total) (on_total (λ (x : ℕ × List ℕ). x.1) nat_list_cmp_total)) (λ (entry : IdRow). (entry.key, entry.id.now)) rows (key, id) up
    where
      up : IsSortedBy (λ (a b : IdRow). is_lt (id_order a b)) rows
      up k d low lt =
          let less = Less-from_sorted id_order rows k (k + 1) d are.sorted (omega arith) lt in
          ap is_lt (order_total.antisymm (get_or rows (k + 1) d) (get_or rows k d) ∙ ap ordering_reverse less)

  pub no_row : (place : ℕ) → IsBinarySearchResult (order_to key id) rows (Err place) → None ≡ row_of table name id
  unfolding row_of
  no_row place told = sym (find_below_none test (row_count table) each)
    where
      test : ℕ → Bool
      test row = bytes_eq id (field table row name)

      wrong : (row : ℕ) → row < row_count table → test row ≡ true → ⊥
      wrong row lt e = step (cases_lt there.0 place)
        where
          there : Any (λ (entry : IdRow). entry.id.now ≡ field table row name) rows
          there = are.all row lt

          same_text : there.1.id.now ≡ id
          same_text = there.4 ∙ sym ((bytes_eq-Decides id (field table row name)).0 e)

          equal : order_to key id there.1 ≡ Equal
          equal =
              let own : IsKeyOf there.1.key there.1.id.now = All-contains (λ (x : IdRow). IsKeyOf x.key x.id.now) rows there.1 are.keyed (there.0, there.2, there.3) in
              let keys : there.1.key ≡ key = own.number ∙ ap (λ text. start_below 7 text + min (length text) 255 * 256 ^ 7) same_text ∙ sym is.number in
              rw (keys, same_text, tied_itself nat_cmp_total key) (tied_itself nat_list_cmp_total id)

          parted : IsPartitionPoint (λ entry. order_to key id entry ≡ Less) (λ entry. order_to key id entry ≡ Greater) rows place
          parted = told rises

          step : (there.0 < place) ⊎ (place ≤ there.0) → ⊥
          step (inl lt) = let less = subst (λ (x : IdRow). order_to key id x ≡ Less) there.3 (parted.0 there.0 there.1 (omega arith) lt) in let no : true ≡ false = ap is_lt (sym less ∙ equal) in cc
          step (inr le) = let more = subst (λ (x : IdRow). order_to key id x ≡ Greater) there.3 (parted.1 there.0 there.1 le there.2) in let no : false ≡ true = ap is_eq (sym more ∙ equal) in cc

      each : (row : ℕ) → row < row_count table → test row ≡ false
      each row lt = ⊎_elim (λ e. absurd (wrong row lt e)) (λ e. e) (cases_Bool (test row))

-- the first is before this one
abbrev pub is_before : Option ℕ → ℕ → Bool
is_before None row = false
is_before (Some first) row = nat_lt first row

-- a row's id stands in an earlier row exactly where the earliest row with it is another
pub is_doubled_by_first : (table : FileTable) (name : ColumnName) (row : ℕ) → row < row_count table → is_doubled table name row ≡ is_before (row_of table name (field table row name)) row
unfolding row_of is_doubled
is_doubled_by_first table name row lt = step (find_below_some test (row_count table) row lt ((bytes_eq-Decides (field table row name) (field table row name)).1 refl))
  where
    test : ℕ → Bool
    test r = bytes_eq (field table row name) (field table r name)

    step : ((i : ℕ) × (find_below (row_count table) test ≡ Some i) × IsFirst test (row_count table) i) → any_below row test ≡ is_before (find_below (row_count table) test) row
    step found = rw found.1 (same_test (any_below row test) (nat_lt found.0 row) there back)
      where
        there : any_below row test ≡ true → nat_lt found.0 row ≡ true
        there some =
            let hit = any_below_tells test row some in
            let below = hit.1 in
            lt-ltb found.0 row (⊎_elim (λ (early : hit.0 < found.0). absurd (let no : true ≡ false = sym hit.2 ∙ found.2.earlier hit.0 early in cc)) (λ (late : found.0 ≤ hit.0). omega arith) (cases_lt hit.0 found.0))

        back : nat_lt found.0 row ≡ true → any_below row test ≡ true
        back e = let below : found.0 < row = grind (arith, nat_tests) in any_below_hit test row found.0 below found.2.passes

-- so it does by the earliest row with the field's text
pub is_doubled_from_row : (table : FileTable) (name : ColumnName) (row : ℕ) (text : List ℕ) (first : Option ℕ) → row < row_count table → text ≡ field table row name → first ≡ row_of table name text → is_before first row ≡ is_doubled table name row
is_doubled_from_row table name row text first lt same e = ap (λ o. is_before o row) (e ∙ ap (λ id. row_of table name id) same) ∙ sym (is_doubled_by_first table name row lt)

-- where there are as many ids as rows, none stands in two rows
module _ (table : FileTable) (name : ColumnName) (rows : List IdRow) (are : AreIdRows table name rows) (many : length rows ≡ row_count table)
    (row first : ℕ) (lt : row < row_count table) (found : row_of table name (field table row name) ≡ Some first) (before : first < row) where
  abbrev number : IdRow → ℕ
  number entry = entry.row

  own : (k : ℕ) (d : IdRow) → k < length rows → (get_or rows k d).id.now ≡ field table (get_or rows k d).row name
  own k d inside = field_there table name (get_or rows k d).id.now (get_or rows k d).row (are.earliest k d inside)

  -- the row has no id of its own
  other : (k : ℕ) (d : IdRow) → k < length rows → row ≢ (get_or rows k d).row
  other k d inside is =
      let text : field table row name ≡ (get_or rows k d).id.now = ap (λ r. field table r name) is ∙ sym (own k d inside) in
      let at : Some first ≡ Some (get_or rows k d).row = sym found ∙ ap (λ id. row_of table name id) text ∙ are.earliest k d inside in
      let one : first ≡ (get_or rows k d).row = ap (λ o. unwrap_or o 0) at in
      absurd (omega (arith, one, is, before))

  -- and each id has another row
  apart : (i j : ℕ) (d : IdRow) → i < j → j < length rows → (get_or rows i d).row ≢ (get_or rows j d).row
  apart i j d below inside is =
      let within : i < length rows = omega (arith, below, inside) in
      let text : (get_or rows i d).id.now ≡ (get_or rows j d).id.now = own i d within ∙ ap (λ r. field table r name) is ∙ sym (own j d inside) in
      let less = Less-from_sorted id_order rows i j d are.sorted below inside in
      let tie = tied (get_or rows i d) (get_or rows j d) (are.keyed i d within) (are.keyed j d inside) text in
      let no : true ≡ false = ap is_lt (sym less ∙ tie) in cc

  some : IdRow
  some = (are.all row lt).1

  abbrev numbers : List ℕ
  numbers = row ∷ map number rows

  item : (k d : ℕ) → k < length rows → get_or (map number rows) k d ≡ (get_or rows k some).row
  item k d inside = get_or_default (map number rows) k d (number some) (rw (length-map rows number) inside) ∙ get_or-map number rows k some

  inside : (k d : ℕ) → suc k < length numbers → k < length rows
  inside k d lt = let size = length-map rows number in omega (arith, lt, size)

  pairs : AllPairs (λ (x y : ℕ). x ≢ y) numbers
  pairs zero zero d below lt = absurd (omega (arith, below))
  pairs (suc i) zero d below lt = absurd (omega (arith, below))
  pairs zero (suc j) d below lt = rw (item j d (inside j d lt)) (other j some (inside j d lt))
  pairs (suc i) (suc j) d below lt =
      let at : j < length rows = inside j d lt in
      let under : i < length rows = omega (arith, below, at) in
      rw (item i d under, item j d at) (apart i j some (omega (arith, below)) at)

  all_within : (k d : ℕ) → k < length numbers → get_or numbers k d < row_count table
  all_within zero d at = lt
  all_within (suc k) d at = rw (item k d (inside k d at)) (row_of_within table name (get_or rows k some).id.now (Some (get_or rows k some).row) (sym (are.earliest k some (inside k d at))))

  small : (q : ℕ) → list_any (eqb q) numbers ≡ true → q < row_count table
  small q e =
      let hit = Any-from_list_any (eqb q) numbers e in
      let same : q ≡ hit.1 = (Decides-eqb q hit.1).0 hit.4 in
      rw (same, sym hit.3) (all_within hit.0 hit.1 hit.2)

  pub too_many : ⊥
  too_many =
      let few = length-le_from_distinct_below numbers (row_count table) (IsDistinct-from_AllPairs Decides-eqb numbers pairs) small in
      let size = length-map rows number in
      absurd (omega (arith, few, size, many))

-- so then no row's id stands in an earlier row
pub none_doubled : (table : FileTable) (name : ColumnName) (rows : List IdRow) → AreIdRows table name rows → length rows ≡ row_count table
    → (row : ℕ) → row < row_count table → is_doubled table name row ≡ false
none_doubled table name rows are many row lt = is_doubled_by_first table name row lt ∙ step (row_of table name (field table row name)) refl
  where
    step : (o : Option ℕ) → row_of table name (field table row name) ≡ o → is_before o row ≡ false
    step None e = refl
    step (Some first) e = ⊎_elim (λ (below : first < row). absurd (too_many table name rows are many row first lt e below)) (λ (le : row ≤ first). grind (arith, nat_tests)) (cases_lt first row)

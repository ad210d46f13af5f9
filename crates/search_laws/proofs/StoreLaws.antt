-- What a search by rounds keeps true of its labels, from round to round.
use Rattle.std.proofs.Common.{◌≡◌, sym, ◌∙◌, ap, subst, ℕ, ◌+◌, ◌<◌, ◌≤◌, ◌⊎◌, inl, inr, ⊎_elim, Bool, false, List, [], ◌++◌, get_or, arith}
use Rattle.std.specs.Prelude.{◌≢◌, ◌==◌, All, Contains, filter}
use Rattle.std.proofs.lemmas.Bool.{cases_lt, cases_order, eqb-true, eq-eqb, both_ways}
use Rattle.std.proofs.lemmas.List.{get_or_default}
use Rattle.std.proofs.lemmas.List.Elements.{All-append, All-contains, All-weaker, Contains-get_or, All-filter, All-contains_itself, Contains-append_left, Contains-append_right, Contains-append_cases}
use Rattle.std.proofs.lemmas.List.Kept.{AllPairs-filter}
use Rattle.std.proofs.lemmas.Option.{slice_get_within}
use Rattle.label_bag.specs.Bags.{Apart, AreApart}
use Rattle.plain_laws.proofs.Laws.{Contains-filter, Contains-filter_passes, AllPairs-append, All-from}
use Rattle.search_laws.specs.Links.{CoversStarts, CoversSteps, IsCoveredBy, IsLinked}
use Rattle.search_laws.specs.Stores.{AreClosedTo, AreStored, AreUncut, AreWhole, IsCoverTest, IsFresh, IsHeldBelow, Search, Spreads, StepsFrom, gathered}
use Rattle.search_laws.proofs.LinkLaws.{linked_append}

-- ---- what is gathered

-- a member of what passes is a member
of_filtered : {L : Type 0} (p : L → Bool) (xs : List L) (x : L) → Contains (filter p xs) x → Contains xs x
of_filtered p xs x at = All-contains (Contains xs) (filter p xs) x (All-filter p (Contains xs) xs (All-contains_itself xs)) at

module _ {L : Type 0} (count_of : L → ℕ) (count : ℕ) (bags : List L) (x : L) where
  -- a label of so many steps is gathered
  gathers_at : Contains bags x → count_of x ≡ count → Contains (gathered count_of count bags) x
  gathers_at at same = Contains-filter (λ y. count_of y == count) bags x at (eq-eqb (count_of x) count same)

  -- and each that is gathered is one
  gathered_in : Contains (gathered count_of count bags) x → Contains bags x
  gathered_in at = of_filtered (λ y. count_of y == count) bags x at

  gathered_counts : Contains (gathered count_of count bags) x → count_of x ≡ count
  gathered_counts at = eqb-true (count_of x) count (Contains-filter_passes (λ y. count_of y == count) bags x at)

module _ {L F R M E T : Type 0} (s : Search L F R M E T) where
  -- ---- what labels cover

  -- a label among them covers
  cover_of : (labels : List L) (x : L) (b : F) → Contains labels x → s.ways.Covers (s.told.facts x) b → IsCoveredBy s.ways s.told labels b
  cover_of labels x b at below = (at.0, x, at.1, at.2, below)

  -- more labels cover it too
  covered_more : (labels new : List L) (b : F) → IsCoveredBy s.ways s.told labels b → IsCoveredBy s.ways s.told (labels ++ new) b
  covered_more labels new b h =
      cover_of (labels ++ new) h.1 b (Contains-append_left labels new h.1 (h.0, h.2, h.3)) h.4

  -- starts stay covered
  pub starts_more : (labels new : List L) → CoversStarts s.ways s.told labels → CoversStarts s.ways s.told (labels ++ new)
  starts_more labels new starts a is = covered_more labels new a (starts a is)

  -- what may be lacking may still be where more may
  pub closed_weaker : (Lacking More : F → Type 0) (count : ℕ) (labels : List L) → ((b : F) → Lacking b → More b) →
      AreClosedTo s Lacking count labels → AreClosedTo s More count labels
  closed_weaker Lacking More count labels more closed x at few by move b step =
      ⊎_elim inl (λ lack. inr (more b lack)) (closed x at few by move b step)

  -- no label at all
  pub stored_none : AreStored s 0 [] []
  stored_none = record {
    listed = λ x at. at;
    held = λ x at. at;
    fit = λ k d lt. absurd (omega (arith, lt));
    few = λ k d lt. absurd (omega (arith, lt));
    linked = λ number label is. let lt = slice_get_within [] number label is in absurd (omega (arith, lt));
    once = λ i j d lt within. absurd (omega (arith, within));
    uncut = λ x y at_x. let lt = at_x.1 in absurd (omega (arith, lt));
  }

module _ {L F R M E T : Type 0} (s : Search L F R M E T) (test : IsCoverTest s) where
  -- labels of which neither covers the other differ
  apart_differ : (a b : L) → Apart s.covers a b → a ≢ b
  apart_differ a b apart same =
      both_ways (s.covers a a) (subst (λ x. s.covers a x ≡ false) (sym same) apart.forth) (test.itself a)

  -- ---- one round more

  module _ (Lacking : F → Type 0) (count : ℕ) (labels : List L) (Part : F → Type 0) (old new : List L)
      (stored : AreStored s count labels old)
      (spreads : Spreads s Lacking labels count Part old new) where
    abbrev more : List L
    more = labels ++ gathered s.told.count count new

    listed : (x : L) → Contains new x → Contains more x
    listed x at =
        ⊎_elim (λ before. Contains-append_left labels (gathered s.told.count count new) x (stored.listed x before))
        (λ fresh. Contains-append_right labels (gathered s.told.count count new) x (gathers_at s.told.count count new x at fresh.counts))
        (spreads.right x at)

    -- what is gathered is fresh
    fresh_of : (x : L) → Contains (gathered s.told.count count new) x → IsFresh s labels count x
    fresh_of x at =
        ⊎_elim
        (λ before.
        let lt = All-contains (λ y. s.told.count y < count) labels x stored.few (stored.listed x before) in
        absurd (not_before x (gathered_counts s.told.count count new x at) lt))
        (λ fresh. fresh)
        (spreads.right x (gathered_in s.told.count count new x at))
      where
        not_before : (x : L) → s.told.count x ≡ count → s.told.count x < count → ⊥
        not_before x same lt = omega (arith, same, lt)

    held : (x : L) → Contains more x → Contains new x
    held x at =
        ⊎_elim
        (λ there. spreads.kept x (stored.held x there) (All-contains (λ y. s.told.count y < count) labels x stored.few there))
        (gathered_in s.told.count count new x) (Contains-append_cases labels (gathered s.told.count count new) x at)

    -- what all labels are, and each that is fresh
    all_more : (P : L → Type 0) → All P labels → ((x : L) → IsFresh s labels count x → P x) → All P more
    all_more P before after =
        All-append P labels (gathered s.told.count count new) before
        (All-from P (gathered s.told.count count new) (λ x at. after x (fresh_of x at)))

    at_most_so_many : All (λ x. s.told.count x < count + 1) more
    at_most_so_many =
        all_more (λ x. s.told.count x < count + 1)
        (All-weaker (λ x. s.told.count x < count) (λ x. s.told.count x < count + 1) (λ x lt. omega (arith, lt)) labels stored.few)
        (λ x fresh. let same = fresh.counts in omega (arith, same))

    -- they fit
    pub fit_more : All s.told.Fits more
    fit_more = all_more s.told.Fits stored.fit (λ x fresh. fresh.fits)

    -- none is of more steps than so many
    pub few_more : (limit : ℕ) → count ≤ limit → All (λ x. s.told.count x ≤ limit) more
    few_more limit within =
        All-weaker (λ x. s.told.count x < count + 1) (λ x. s.told.count x ≤ limit) (λ x lt. omega (arith, lt, within)) more
        at_most_so_many

    -- none is cut off by an end of one of fewer steps
    uncut_more : AreUncut s more
    uncut_more x y at_x at_y lt =
        ⊎_elim (λ old_y. ⊎_elim (λ old_x. stored.uncut x y old_x old_y lt) (λ new_x. (fresh_of x new_x).uncut y old_y)
        (Contains-append_cases labels (gathered s.told.count count new) x at_x))
        (λ new_y. absurd (last (fresh_of y new_y).counts))
        (Contains-append_cases labels (gathered s.told.count count new) y at_y)
      where
        last : s.told.count y ≡ count → ⊥
        last counts =
            let few = All-contains (λ z. s.told.count z < count + 1) more x at_most_so_many at_x in
            omega (arith, counts, few, lt)

    pub stored_more : AreApart s.covers new → AreStored s (count + 1) more new
    stored_more apart = record {
      listed = listed;
      held = held;
      fit = fit_more;
      few = at_most_so_many;
      linked = linked_append s.ways s.told labels (gathered s.told.count count new) stored.linked
          (All-from (IsLinked s.ways s.told labels) (gathered s.told.count count new) (λ x at. (fresh_of x at).linked));
      once = AllPairs-append (λ a b. a ≢ b) labels (gathered s.told.count count new) stored.once
          (λ i j d lt within. apart_differ _ _
          (AllPairs-filter (Apart s.covers) (λ x. s.told.count x == count) new apart i j d lt within))
          (λ x y in_labels in_new same.
          let few = All-contains (λ z. s.told.count z < count) labels x stored.few in_labels in
          let counts = (fresh_of y in_new).counts in
          let equal = ap s.told.count same in
          absurd (omega (arith, few, counts, equal)));
      uncut = uncut_more;
    }

    -- what is covered in the bags is covered by the labels
    covered_by : (b : F) → IsHeldBelow s.ways.Covers s.told.facts new b → IsCoveredBy s.ways s.told more b
    covered_by b h = cover_of s more h.0 b (listed h.0 h.1) h.2

    -- each step from labels of fewer steps is covered or may be lacking, where the part has those from the labels of the last round
    pub closed_more : (last : ℕ) → count ≡ last + 1 → AreClosedTo s Lacking last labels →
        ((b : F) → StepsFrom s labels last b → Part b) → AreClosedTo s Lacking count more
    closed_more last follows closed has x at few by move b step =
        ⊎_elim before after (Contains-append_cases labels (gathered s.told.count count new) x at)
      where
        before : Contains labels x → IsCoveredBy s.ways s.told more b ⊎ Lacking b
        before there = ⊎_elim earlier now (cases_lt (s.told.count x) last)
          where
            earlier : s.told.count x < last → IsCoveredBy s.ways s.told more b ⊎ Lacking b
            earlier lt =
                ⊎_elim (λ some. inl (covered_more s labels (gathered s.told.count count new) b some)) inr
                (closed x there lt by move b step)

            now : last ≤ s.told.count x → IsCoveredBy s.ways s.told more b ⊎ Lacking b
            now le =
                ⊎_elim (λ held. inl (covered_by b held)) inr
                (spreads.all b (has b (x, there, omega (arith, le, few, follows), (by, move, step))))

        after : Contains (gathered s.told.count count new) x → IsCoveredBy s.ways s.told more b ⊎ Lacking b
        after there = let same = (fresh_of x there).counts in absurd (omega (arith, same, few))

  -- ---- all rounds

  -- two different members are apart
  apart_in : (members : List L) (x y : L) → AreApart s.covers members → Contains members x → Contains members y → x ≢ y →
      Apart s.covers x y
  apart_in members x y apart at_x at_y differ = by (cases_order at_x.0 at_y.0)
    where
      is_x : (d : L) → get_or members at_x.0 d ≡ x
      is_x d = get_or_default members at_x.0 d x at_x.1 ∙ at_x.2

      is_y : (d : L) → get_or members at_y.0 d ≡ y
      is_y d = get_or_default members at_y.0 d y at_y.1 ∙ at_y.2

      by : (at_x.0 ≡ at_y.0) ⊎ ((at_x.0 < at_y.0) ⊎ (at_y.0 < at_x.0)) → Apart s.covers x y
      by (inl same) = absurd (differ (sym (is_x x) ∙ ap (λ i. get_or members i x) same ∙ is_y x))
      by (inr (inl lt)) =
          subst (λ a. Apart s.covers a y) (is_x x)
          (subst (Apart s.covers (get_or members at_x.0 x)) (is_y x) (apart at_x.0 at_y.0 x lt at_y.1))
      by (inr (inr lt)) =
          let back =
          subst (λ a. Apart s.covers a x) (is_y x)
          (subst (Apart s.covers (get_or members at_y.0 x)) (is_x x) (apart at_y.0 at_x.0 x lt at_x.1)) in
          record { forth = back.back; back = back.forth }

  module _ (count : ℕ) (labels bags : List L) (stored : AreStored s count labels bags) where
    -- the starts are covered once they were offered
    pub starts_covered : ((b : F) → s.ways.Starts b → IsHeldBelow s.ways.Covers s.told.facts bags b) → CoversStarts s.ways s.told labels
    starts_covered all b is = let some = all b is in cover_of s labels some.0 b (stored.listed some.0 some.1) some.2

    -- all labels are apart
    labels_apart : AreApart s.covers bags → AreApart s.covers labels
    labels_apart apart i j d lt within =
        let a = get_or labels i d in
        let b = get_or labels j d in
        apart_in bags a b apart (stored.held a (Contains-get_or labels i d (omega (arith, lt, within))))
        (stored.held b (Contains-get_or labels j d within)) (stored.once i j d lt within)

    -- the labels of all rounds, where no step leads on from one of as many steps as there may be
    pub whole_of : (Lacking : F → Type 0) (limit : ℕ) → count ≡ limit + 1 → AreApart s.covers bags →
        AreClosedTo s Lacking limit labels → CoversStarts s.ways s.told labels →
        ((x : L) (by : R) (move : M) (b : F) → s.ways.Steps (s.told.facts x) by move b → s.told.count x < limit) →
        AreWhole s Lacking limit labels
    whole_of Lacking limit last apart closed starts steps = record {
      linked = stored.linked;
      starts = starts;
      closed = All-from (λ x. CoversSteps s.ways s.told Lacking (s.told.facts x) labels) labels
          (λ x at by move b step. closed x at (steps x by move b step) by move b step);
      apart = labels_apart apart;
      few = All-weaker (λ x. s.told.count x < count) (λ x. s.told.count x ≤ limit) (λ x lt. omega (arith, lt, last)) labels
          stored.few;
      fit = stored.fit;
      uncut = stored.uncut;
    }

-- what may be lacking may still be where more may
pub whole_weaker : {L F R M E T : Type 0} (s : Search L F R M E T) (Lacking More : F → Type 0) (limit : ℕ) (labels : List L) →
    ((b : F) → Lacking b → More b) → AreWhole s Lacking limit labels → AreWhole s More limit labels
whole_weaker s Lacking More limit labels more are = record {
  linked = are.linked;
  starts = are.starts;
  closed = All-weaker (λ x. CoversSteps s.ways s.told Lacking (s.told.facts x) labels) (λ x. CoversSteps s.ways s.told More (s.told.facts x) labels)
      (λ x steps by move b step. ⊎_elim inl (λ lack. inr (more b lack)) (steps by move b step)) labels are.closed;
  apart = are.apart;
  few = are.few;
  fit = are.fit;
  uncut = are.uncut;
}

-- What offers to the bags of a search gain, one after another.
use Rattle.std.proofs.Common.{◌≡◌, sym, subst, ℕ, ◌+◌, ◌<◌, ◌≤◌, ◌⊎◌, inl, inr, ⊎_elim, true, List, [], ◌∷◌, arith}
use Rattle.std.specs.Prelude.{Result, Ok, Err, OnOk, Contains}
use Rattle.std.proofs.lemmas.Bool.{false_from_ne_true}
use Rattle.std.proofs.lemmas.List.Elements.{All-contains}
use Rattle.std.proofs.lemmas.List.Folds.{list_any-from_Any}
use Rattle.label_bag.specs.Bags.{covers as has_cover}
use Rattle.plain_laws.proofs.Laws.{list_any_tells, Contains-cons_cases, Contains-cons_first}
use Rattle.search_laws.specs.Stores.{IsCoverTest, IsFresh, IsHeldBelow, Search, Spreads, Takes}
use Rattle.search_laws.specs.Ways.{AreLawful}

-- the only member of a list
only_one : {X : Type 0} (x y : X) → Contains (x ∷ []) y → y ≡ x
only_one x y at = ⊎_elim sym (λ none. let lt = none.1 in absurd (omega (arith, lt))) (Contains-cons_cases x [] y at)

-- ---- one offer

module _ {L F R M E T : Type 0} (s : Search L F R M E T) (lawful : AreLawful s.ways) (test : IsCoverTest s) where
  -- a label that is covered has a cover there
  cover_there : (members : List L) (y : L) → has_cover s.covers members y ≡ true → (z : L) × Contains members z × (s.covers z y ≡ true)
  cover_there members y h = list_any_tells (λ m. s.covers m y) members h

  -- each member covers itself
  covers_itself : (members : List L) (y : L) → Contains members y → has_cover s.covers members y ≡ true
  covers_itself members y at = list_any-from_Any (λ m. s.covers m y) members (at.0, y, at.1, at.2, test.itself y)

  module _ (Lacking : F → Type 0) (labels : List L) (count : ℕ) (old : List L) (x : L) (new : List L)
      (takes : Takes s.covers old x new) (fresh : IsFresh s labels count x) where
    still_held : (b : F) → IsHeldBelow s.ways.Covers s.told.facts old b → IsHeldBelow s.ways.Covers s.told.facts new b
    still_held b h =
        let some = cover_there new h.0 (takes.gathers.still h.0 (covers_itself old h.0 h.1)) in
        (some.0, some.1, lawful.onward (s.told.facts some.0) (s.told.facts h.0) b (test.tells some.0 h.0 some.2) h.2)

    kept_there : (y : L) → Contains old y → s.told.count y < count → Contains new y
    kept_there y at few = takes.keeps y at (false_from_ne_true (s.covers x y) (λ h. more (test.fewer x y h) few))
      where
        more : s.told.count x ≤ s.told.count y → s.told.count y < count → ⊥
        more le lt = omega (arith, le, lt, fresh.counts)

    right_there : (y : L) → Contains new y → Contains old y ⊎ IsFresh s labels count y
    right_there y at = by (All-contains (λ z. Contains old z ⊎ Contains (x ∷ []) z) new y takes.gathers.from at)
      where
        by : Contains old y ⊎ Contains (x ∷ []) y → Contains old y ⊎ IsFresh s labels count y
        by (inl before) = inl before
        by (inr one) = inr (subst (IsFresh s labels count) (sym (only_one x y one)) fresh)

    taken_itself : (b : F) → b ≡ s.told.facts x → IsHeldBelow s.ways.Covers s.told.facts new b
    taken_itself b is =
        let itself = All-contains (λ z. has_cover s.covers new z ≡ true) (x ∷ []) x takes.gathers.each (Contains-cons_first x []) in
        let some = cover_there new x itself in
        subst (IsHeldBelow s.ways.Covers s.told.facts new) (sym is) (some.0, some.1, test.tells some.0 x some.2)

    -- the label gains what it covers
    pub spreads_one : Spreads s Lacking labels count (λ b. b ≡ s.told.facts x) old new
    spreads_one = record {
      still = still_held;
      kept = kept_there;
      right = right_there;
      all = λ b is. inl (taken_itself b is);
    }

  -- an offer that was taken in
  pub spreads_taken : {X : Type 0} (Lacking : F → Type 0) (labels : List L) (count : ℕ)
      (result : Result (Unit {0}) X) (old new : List L) (x y : L) → OnOk result (Takes s.covers old x new) → x ≡ y →
      IsFresh s labels count y →
      OnOk result (Spreads s Lacking labels count (λ b. b ≡ s.told.facts y) old new)
  spreads_taken Lacking labels count (Err e) old new x y takes same fresh = takes
  spreads_taken Lacking labels count (Ok u) old new x y takes same fresh =
      spreads_one Lacking labels count old y new (subst (λ z. Takes s.covers old z new) same takes) fresh

-- ---- many

module _ {L F R M E T : Type 0} (s : Search L F R M E T) (Lacking : F → Type 0) (labels : List L) (count : ℕ) where
  -- nothing was offered of what may be lacking
  pub spreads_none : (Part : F → Type 0) (bags : List L) → ((b : F) → Part b → Lacking b) →
      Spreads s Lacking labels count Part bags bags
  spreads_none Part bags none = record {
    still = λ b h. h;
    kept = λ x at few. at;
    right = λ x at. inl at;
    all = λ b part. inr (none b part);
  }

  -- one part after another
  pub spreads_more : (Part More Whole : F → Type 0) (old mid new : List L) →
      Spreads s Lacking labels count Part old mid → Spreads s Lacking labels count More mid new →
      ((b : F) → Whole b → Part b ⊎ More b) → Spreads s Lacking labels count Whole old new
  spreads_more Part More Whole old mid new one two whole = record {
    still = λ b h. two.still b (one.still b h);
    kept = λ x at few. two.kept x (one.kept x at few) few;
    right = λ x at. ⊎_elim (one.right x) inr (two.right x at);
    all = λ b is.
        ⊎_elim (λ part. ⊎_elim (λ held. inl (two.still b held)) inr (one.all b part)) (two.all b) (whole b is);
  }

  -- a part but for what was held or may be lacking
  pub spreads_done : (Part Whole : F → Type 0) (old new : List L) → Spreads s Lacking labels count Part old new →
      ((b : F) → Whole b → Part b ⊎ (IsHeldBelow s.ways.Covers s.told.facts old b ⊎ Lacking b)) →
      Spreads s Lacking labels count Whole old new
  spreads_done Part Whole old new one whole = record {
    still = one.still;
    kept = one.kept;
    right = one.right;
    all = λ b is. ⊎_elim (one.all b) (λ done. ⊎_elim (λ held. inl (one.still b held)) inr done) (whole b is);
  }

  -- a part but for what may be lacking
  pub spreads_but : (Part Whole : F → Type 0) (old new : List L) → Spreads s Lacking labels count Part old new →
      ((b : F) → Whole b → Part b ⊎ Lacking b) → Spreads s Lacking labels count Whole old new
  spreads_but Part Whole old new one whole =
      spreads_done Part Whole old new one (λ b is. ⊎_elim inl (λ lack. inr (inr lack)) (whole b is))

  -- a part said otherwise
  pub spreads_same : (Part Whole : F → Type 0) (old new : List L) → Spreads s Lacking labels count Part old new →
      ((b : F) → Whole b → Part b) → Spreads s Lacking labels count Whole old new
  spreads_same Part Whole old new one whole = spreads_but Part Whole old new one (λ b is. inl (whole b is))

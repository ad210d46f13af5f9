-- Lists of labels of which one takes a label in.
use Rattle.std.proofs.Common.{◌≡◌, refl, sym, subst, ℕ, zero, suc, ◌<◌, ◌⊎◌, inl, inr, ⊎_elim, Bool, true, false, List, [], ◌∷◌, ◌++◌, arith}
use Rattle.std.specs.Prelude.{◌≢◌, Contains}
use Rattle.std.proofs.lemmas.Bool.{cases_eq, false_from_ne_true, both_ways}
use Rattle.std.proofs.lemmas.List.Elements.{All-contains, All-cons, All-nil, All-weaker, Contains-append_cases, Contains-append_left, Contains-append_right}
use Rattle.std.proofs.lemmas.List.Folds.{list_any-from_Any}
use Rattle.label_bag.specs.Bags.{IsUncovered, covers as has_cover}
use Rattle.plain_laws.specs.Plain.{joined_below}
use Rattle.plain_laws.proofs.Laws.{All-from, Contains-cons_first, Contains-joined_below, joined_below-tells, list_any_tells}
use Rattle.search_laws.specs.Stores.{Takes}

module _ {L : Type 0} (covers : L → L → Bool) where
  cover_there : (members : List L) (y : L) → has_cover covers members y ≡ true → (z : L) × Contains members z × (covers z y ≡ true)
  cover_there members y h = list_any_tells (λ m. covers m y) members h

  covered_by : (members : List L) (z y : L) → Contains members z → covers z y ≡ true → has_cover covers members y ≡ true
  covered_by members z y at below = list_any-from_Any (λ m. covers m y) members (at.0, z, at.1, at.2, below)

  -- what isn't covered is covered by none
  pub uncovered_of : (members : List L) (y : L) → has_cover covers members y ≡ false → IsUncovered covers members y
  uncovered_of members y none =
      All-from (λ m. covers m y ≡ false) members
      (λ m at. false_from_ne_true (covers m y) (λ h. both_ways (has_cover covers members y) none (covered_by members m y at h)))

  -- a label that is covered changes nothing
  pub takes_none : (old : List L) (x : L) → has_cover covers old x ≡ true → Takes covers old x old
  takes_none old x covered = record {
    gathers = record {
      still = λ y h. h;
      each = All-cons (λ y. has_cover covers old y ≡ true) x [] covered (All-nil (λ y. has_cover covers old y ≡ true));
      from = All-from (λ y. Contains old y ⊎ Contains (x ∷ []) y) old (λ y at. inl at);
    };
    keeps = λ y at differs. at;
  }

  -- a cover in one of many lists is one in all
  pub covered_joined : (n number : ℕ) (f : ℕ → List L) (x : L) → number < n → has_cover covers (f number) x ≡ true →
      has_cover covers (joined_below n f) x ≡ true
  covered_joined n number f x lt h =
      let some = cover_there (f number) x h in
      covered_by (joined_below n f) some.0 x (Contains-joined_below n f number some.0 lt some.1) some.2

  -- the label was taken into the list with this number, and the others stayed
  module _ (n number : ℕ) (f g : ℕ → List L) (x : L) (lt : number < n) (others : (i : ℕ) → i ≢ number → g i ≡ f i)
      (takes : Takes covers (f number) x (g number)) where
    to_new : (i : ℕ) (y : L) → i < n → Contains (f i) y → (i ≡ number → Contains (g i) y) → Contains (joined_below n g) y
    to_new i y within at here =
        ⊎_elim (λ same. Contains-joined_below n g i y within (here same))
        (λ other. Contains-joined_below n g i y within (subst (λ ms. Contains ms y) (sym (others i other)) at))
        (cases_eq i number)

    cover_new : (y : L) → has_cover covers (g number) y ≡ true → has_cover covers (joined_below n g) y ≡ true
    cover_new y h = covered_joined n number g y lt h

    still_new : (y : L) → has_cover covers (joined_below n f) y ≡ true → has_cover covers (joined_below n g) y ≡ true
    still_new y h =
        let some = cover_there (joined_below n f) y h in
        let there = joined_below-tells n f some.0 some.1 in
        ⊎_elim
        (λ same. cover_new y (takes.gathers.still y (covered_by (f number) some.0 y
        (subst (λ i. Contains (f i) some.0) same there.2) some.2)))
        (λ other. covered_by (joined_below n g) some.0 y (Contains-joined_below n g there.0 some.0 there.1
        (subst (λ ms. Contains ms some.0) (sym (others there.0 other)) there.2)) some.2)
        (cases_eq there.0 number)

    from_old : (y : L) → Contains (joined_below n g) y → Contains (joined_below n f) y ⊎ Contains (x ∷ []) y
    from_old y at =
        let there = joined_below-tells n g y at in
        ⊎_elim
        (λ same.
        ⊎_elim (λ was. inl (Contains-joined_below n f number y lt was)) inr
        (All-contains (λ z. Contains (f number) z ⊎ Contains (x ∷ []) z) (g number) y takes.gathers.from
        (subst (λ i. Contains (g i) y) same there.2)))
        (λ other. inl (Contains-joined_below n f there.0 y there.1
        (subst (λ ms. Contains ms y) (others there.0 other) there.2)))
        (cases_eq there.0 number)

    pub takes_joined : Takes covers (joined_below n f) x (joined_below n g)
    takes_joined = record {
      gathers = record {
        still = still_new;
        each = All-weaker (λ y. has_cover covers (g number) y ≡ true)
            (λ y. has_cover covers (joined_below n g) y ≡ true) cover_new (x ∷ []) takes.gathers.each;
        from = All-from (λ y. Contains (joined_below n f) y ⊎ Contains (x ∷ []) y) (joined_below n g) from_old;
      };
      keeps = λ y at differs.
          let there = joined_below-tells n f y at in
          to_new there.0 y there.1 there.2 (λ same.
          subst (λ i. Contains (g i) y) (sym same) (takes.keeps y (subst (λ i. Contains (f i) y) same there.2) differs));
    }

  -- a list of two: the first took the label in, or the second
  both : List L → List L → ℕ → List L
  both a b zero = a
  both a b (suc zero) = b
  both a b (suc (suc n)) = []

  pub takes_first : (a b new : List L) (x : L) → Takes covers a x new → Takes covers (a ++ b) x (new ++ b)
  unfolding both
  takes_first a b new x takes = takes_joined 2 0 (both a b) (both new b) x (omega arith) others takes
    where
      others : (i : ℕ) → i ≢ 0 → both new b i ≡ both a b i
      others zero differ = absurd (differ refl)
      others (suc zero) differ = refl
      others (suc (suc i)) differ = refl

  pub takes_second : (a b new : List L) (x : L) → Takes covers b x new → Takes covers (a ++ b) x (a ++ new)
  unfolding both
  takes_second a b new x takes = takes_joined 2 1 (both a b) (both a new) x (omega arith) others takes
    where
      others : (i : ℕ) → i ≢ 1 → both a new i ≡ both a b i
      others zero differ = refl
      others (suc zero) differ = absurd (differ refl)
      others (suc (suc i)) differ = refl

  -- a label behind all
  pub takes_push : ((y : L) → covers y y ≡ true) → (old : List L) (x : L) → Takes covers old x (old ++ x ∷ [])
  takes_push itself old x = record {
    gathers = record {
      still = λ y h. let some = cover_there old y h in covered_by (old ++ x ∷ []) some.0 y
          (Contains-append_left old (x ∷ []) some.0 some.1) some.2;
      each = All-cons (λ y. has_cover covers (old ++ x ∷ []) y ≡ true) x []
          (covered_by (old ++ x ∷ []) x x (Contains-append_right old (x ∷ []) x (Contains-cons_first x [])) (itself x))
          (All-nil (λ y. has_cover covers (old ++ x ∷ []) y ≡ true));
      from = All-from (λ y. Contains old y ⊎ Contains (x ∷ []) y) (old ++ x ∷ []) (Contains-append_cases old (x ∷ []));
    };
    keeps = λ y at differs. Contains-append_left old (x ∷ []) y at;
  }

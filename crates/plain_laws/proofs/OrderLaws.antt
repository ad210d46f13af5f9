-- Lists by their members: a first item and the rest, and lists that ascend strictly.
use Rattle.std.proofs.Common.{zero, suc, List, ◌∷◌, All, AllPairs, arith, ◌≡◌, ℕ, ◌<◌, ◌⊎◌, inl, inr, length, get_or, Contains, refl, sym, ◌∙◌, subst, []}
use Rattle.std.proofs.lemmas.List.Elements.{All-contains}

-- a relation that ascends strictly
pub record IsStrictOrder {X : Type 0} (R : X → X → Type 0) : Type 0 where
  pub irreflexive : (x : X) → R x x → ⊥
  pub transitive : (x y z : X) → R x y → R y z → R x z

module _ {X : Type 0} where
  -- a list of one item more at its front
  pub AllPairs-cons : (R : X → X → Type 0) (x : X) (xs : List X) → All (R x) xs → AllPairs R xs → AllPairs R (x ∷ xs)
  AllPairs-cons R x xs first rest i zero d lt within = absurd (omega arith)
  AllPairs-cons R x xs first rest zero (suc j) d lt within = first j d (omega arith)
  AllPairs-cons R x xs first rest (suc i) (suc j) d lt within = rest i j d (omega arith) (omega arith)

  -- and without it
  pub AllPairs-tail : (R : X → X → Type 0) (x : X) (xs : List X) → AllPairs R (x ∷ xs) → AllPairs R xs
  AllPairs-tail R x xs all i j d lt within = all (suc i) (suc j) d (omega arith) (omega arith)

  -- the first of them to each later one
  pub AllPairs-head : (R : X → X → Type 0) (x : X) (xs : List X) → AllPairs R (x ∷ xs) → All (R x) xs
  AllPairs-head R x xs all k d lt = all 0 (suc k) d (omega arith) (omega arith)

  -- a member is the first item or one of the rest
  pub Contains-cons_cases : (x : X) (xs : List X) (y : X) → Contains (x ∷ xs) y → (x ≡ y) ⊎ Contains xs y
  Contains-cons_cases x xs y at = step at.0 at.1 at.2
    where
      step : (k : ℕ) → k < length (x ∷ xs) → get_or (x ∷ xs) k y ≡ y → (x ≡ y) ⊎ Contains xs y
      step zero lt is = inl is
      step (suc k) lt is = inr (k, omega arith, is)

  pub Contains-cons_first : (x : X) (xs : List X) → Contains (x ∷ xs) x
  Contains-cons_first x xs = (0, omega arith, refl)

  pub Contains-cons_later : (x : X) (xs : List X) (y : X) → Contains xs y → Contains (x ∷ xs) y
  Contains-cons_later x xs y at = let lt = at.1 in (suc at.0, omega arith, at.2)

  -- two lists have the same members
  pub record HaveSameMembers (xs ys : List X) : Type 0 where
    pub there : (x : X) → Contains xs x → Contains ys x
    pub back : (x : X) → Contains ys x → Contains xs x

  -- two lists that ascend strictly by one order and have the same members are equal
  pub same_from_members : (R : X → X → Type 0) → IsStrictOrder R → (xs ys : List X) → AllPairs R xs → AllPairs R ys → HaveSameMembers xs ys → xs ≡ ys
  same_from_members R order [] [] ups downs same = refl
  same_from_members R order [] (y ∷ ys) ups downs same = let at = same.back y (Contains-cons_first y ys) in let lt = at.1 in absurd (omega arith)
  same_from_members R order (x ∷ xs) [] ups downs same = let at = same.there x (Contains-cons_first x xs) in let lt = at.1 in absurd (omega arith)
  same_from_members R order (x ∷ xs) (y ∷ ys) ups downs same =
      let first = firsts (Contains-cons_cases y ys x (same.there x (Contains-cons_first x xs))) (Contains-cons_cases x xs y (same.back y (Contains-cons_first y ys))) in
      let rest = same_from_members R order xs ys (AllPairs-tail R x xs ups) (AllPairs-tail R y ys downs) (record {
        there = λ z at. later y ys z (λ e. order.irreflexive x (subst (R x) (sym e ∙ sym first) (All-contains (R x) xs z (AllPairs-head R x xs ups) at))) (Contains-cons_cases y ys z (same.there z (Contains-cons_later x xs z at)));
        back = λ z at. later x xs z (λ e. order.irreflexive y (subst (R y) (sym e ∙ first) (All-contains (R y) ys z (AllPairs-head R y ys downs) at))) (Contains-cons_cases x xs z (same.back z (Contains-cons_later y ys z at)));
      }) in
      cc
    where
      firsts : (y ≡ x) ⊎ Contains ys x → (x ≡ y) ⊎ Contains xs y → x ≡ y
      firsts (inl e) _ = sym e
      firsts (inr at) (inl e) = e
      firsts (inr at) (inr there) =
          absurd (order.irreflexive x (order.transitive x y x (All-contains (R x) xs y (AllPairs-head R x xs ups) there) (All-contains (R y) ys x (AllPairs-head R y ys downs) at)))

      later : (u : X) (us : List X) (z : X) → (u ≡ z → ⊥) → (u ≡ z) ⊎ Contains us z → Contains us z
      later u us z apart (inl e) = absurd (apart e)
      later u us z apart (inr at) = at

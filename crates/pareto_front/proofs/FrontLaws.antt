-- What filtering a front and setting a new member into it keep.
use Rattle.std.proofs.Common.{◌≡◌, refl, sym, ◌∙◌, subst, ℕ, zero, suc, ◌<◌, ◌≤◌, ◌⊎◌, Bool, true, false, not, cond, List, [], ◌∷◌, length, get_or, insert, filter, All, Contains, arith}
use mathlib.Core.Logic.{inl, inr}
use mathlib.Core.Bool.{true≢false}
use Rattle.std.proofs.lemmas.Bool.{cases_eq}
use Rattle.std.proofs.lemmas.List.Elements.{All-filter, All-weaker, All-contains_itself, All-cons, All-nil}
use Rattle.pareto_front.specs.Ranks.{RankLaws}
use Rattle.pareto_front.specs.Fronts.{has_as_good, Apart, IsFront, CoversAll}
use Rattle.plain_laws.proofs.Laws.{AllPairs-insert, list_any-insert, All-insert}

module _ {X : Type 0} where
  -- without what the new one makes needless, a list and the new one cover what the list covered
  pub has_as_good-filter : (at_most before : X → X → Bool) → RankLaws at_most before → (xs : List X) (e t : X) →
      has_as_good at_most xs t ≡ true → at_most e t ≡ false → has_as_good at_most (filter (λ x. not (at_most e x)) xs) t ≡ true
  has_as_good-filter at_most before laws [] e t h apart = h
  has_as_good-filter at_most before laws (x ∷ xs) e t h apart =
      let rest = has_as_good-filter at_most before laws xs e t in
      let steps = laws.transitive e x t in
      grind (arith, rest, steps)

  -- what is left after the new one makes some needless is apart from it, on both sides of its place
  pub front-insert : (at_most before : X → X → Bool) → RankLaws at_most before → (xs : List X) (n : ℕ) (e : X) → n ≤ length xs →
      IsFront at_most before xs → has_as_good at_most xs e ≡ false → All (λ x. at_most e x ≡ false) xs →
      ((k : ℕ) (d : X) → k < n → before e (get_or xs k d) ≡ false) → ((d : X) → n < length xs → before e (get_or xs n d) ≡ true) →
      IsFront at_most before (insert xs n e)
  front-insert at_most before laws xs n e le front bare above earlier later =
      AllPairs-insert (Apart at_most before) xs n e le front
      (λ k d lt. let dear = none_covers at_most xs e bare k d (omega arith) in
      record { earlier = not_false _ (λ no. true≢false (sym (laws.total _ _ no (earlier k d lt)) ∙ dear)); dearer = dear })
      (λ k d from lt. record { earlier = ahead k d from lt (cases_eq k n); dearer = above k d lt })
    where
      not_false : (b : Bool) → (b ≡ false → ⊥) → b ≡ true
      not_false true h = refl
      not_false false h = absurd (h refl)

      none_covers : (at_most : X → X → Bool) (xs : List X) (e : X) → has_as_good at_most xs e ≡ false → (k : ℕ) (d : X) → k < length xs → at_most (get_or xs k d) e ≡ false
      none_covers at_most [] e h k d lt = absurd (omega arith)
      none_covers at_most (x ∷ xs) e h zero d lt = grind arith
      none_covers at_most (x ∷ xs) e h (suc k) d lt = let rest = none_covers at_most xs e in grind (arith, rest)

      ahead : (k : ℕ) (d : X) → n ≤ k → k < length xs → (k ≡ n) ⊎ (k ≡ n → ⊥) → before e (get_or xs k d) ≡ true
      ahead k d from lt (inl same) = subst (λ i. before e (get_or xs i d) ≡ true) (sym same) (later d (omega arith))
      ahead k d from lt (inr past) = laws.onward e (get_or xs n d) (get_or xs k d) (later d (omega arith)) ((front n k d (omega arith) lt).earlier)

  -- a front thinned for a new member, and the new member set in, has_as_good all that it covered
  pub covers_all-offer : (at_most before : X → X → Bool) → RankLaws at_most before → (xs : List X) (n : ℕ) (e : X) →
      CoversAll at_most xs (insert (filter (λ x. not (at_most e x)) xs) n e)
  covers_all-offer at_most before laws xs n e = record { still = λ t h. by t h (at_most e t) refl }
    where
      by : (t : X) → has_as_good at_most xs t ≡ true → (b : Bool) → at_most e t ≡ b → has_as_good at_most (insert (filter (λ x. not (at_most e x)) xs) n e) t ≡ true
      by t h true near = rw (list_any-insert (λ x. at_most x t) (filter (λ x. not (at_most e x)) xs) n e, near) refl
      by t h false apart = rw (list_any-insert (λ x. at_most x t) (filter (λ x. not (at_most e x)) xs) n e, apart) (has_as_good-filter at_most before laws xs e t h apart)

  pub All-thinned : (e : X) (at_most : X → X → Bool) (xs : List X) → All (λ x. at_most e x ≡ false) (filter (λ x. not (at_most e x)) xs)
  All-thinned e at_most [] = All-nil (λ x. at_most e x ≡ false)
  All-thinned e at_most (x ∷ xs) = by (All-thinned e at_most xs) (at_most e x) refl
    where
      by : All (λ x. at_most e x ≡ false) (filter (λ x. not (at_most e x)) xs) → (b : Bool) → at_most e x ≡ b → All (λ x. at_most e x ≡ false) (cond (not b) (x ∷ filter (λ x. not (at_most e x)) xs) (filter (λ x. not (at_most e x)) xs))
      by rest true near = rest
      by rest false apart = All-cons (λ x. at_most e x ≡ false) x _ apart rest

  -- where no member is at most the new one, none of a thinned front is
  pub has_as_good-thinned : (at_most : X → X → Bool) (p : X → Bool) (xs : List X) (e : X) → has_as_good at_most xs e ≡ false → has_as_good at_most (filter p xs) e ≡ false
  has_as_good-thinned at_most p [] e h = h
  has_as_good-thinned at_most p (x ∷ xs) e h = let rest = has_as_good-thinned at_most p xs e in grind (arith, rest)

  -- a front thinned for a new member, with the new member at its place, is one
  pub front-offer : (at_most before : X → X → Bool) → RankLaws at_most before → (xs ys : List X) (n : ℕ) (e : X) →
      ys ≡ filter (λ x. not (at_most e x)) xs → has_as_good at_most xs e ≡ false → n ≤ length ys → IsFront at_most before ys →
      ((k : ℕ) (d : X) → k < n → before e (get_or ys k d) ≡ false) → ((d : X) → n < length ys → before e (get_or ys n d) ≡ true) →
      IsFront at_most before (insert ys n e)
  front-offer at_most before laws xs ys n e thin bare le front earlier later =
      front-insert at_most before laws ys n e le front
      (subst (λ zs. has_as_good at_most zs e ≡ false) (sym thin) (has_as_good-thinned at_most (λ x. not (at_most e x)) xs e bare))
      (subst (All (λ x. at_most e x ≡ false)) (sym thin) (All-thinned e at_most xs)) earlier later

  -- and each of its members was one, or is the new one
  pub from-offer : (p : X → Bool) (xs ys : List X) (n : ℕ) (e : X) → ys ≡ filter p xs → All (λ x. Contains xs x ⊎ (x ≡ e)) (insert ys n e)
  from-offer p xs ys n e thin =
      All-insert (λ x. Contains xs x ⊎ (x ≡ e)) ys n e
      (subst (All (λ x. Contains xs x ⊎ (x ≡ e))) (sym thin)
      (All-filter p (λ x. Contains xs x ⊎ (x ≡ e)) xs (All-weaker (Contains xs) (λ x. Contains xs x ⊎ (x ≡ e)) (λ x h. inl h) xs (All-contains_itself xs))))
      (inr refl)

  -- each member of a thinned front was one
  pub from-thinned : (p : X → Bool) (xs ys : List X) → ys ≡ filter p xs → All (Contains xs) ys
  from-thinned p xs ys thin = subst (All (Contains xs)) (sym thin) (All-filter p (Contains xs) xs (All-contains_itself xs))

-- What an offer keeps, for any lawful order.
use Rattle.std.proofs.Common.{◌≡◌, refl, sym, ◌∙◌, ap, subst, ℕ, suc, ◌<◌, ◌≤◌, ◌⊎◌, inl, inr, Bool, true, false, not, cond, ◌||◌, List, [], ◌∷◌, ◌++◌, length, get_or, insert, filter, All, Contains, arith}
use Rattle.std.specs.Prelude.{Option, None, Some, IfNone, IfSome, is_some, Result, Ok, Err, OnOk}
use Rattle.std.specs.List.{HoldsAt}
use Rattle.std.specs.Result.{is_err}
use Rattle.std.proofs.lemmas.List.Edits.{insert_end}
use Rattle.std.proofs.lemmas.List.Elements.{All-append, All-filter, All-weaker, All-contains_itself, All-cons, All-nil, All-contains, filter_passes, Contains-append_left, Contains-append_right, Contains-push}
use Rattle.std.proofs.lemmas.List.Folds.{list_any_at, list_any_none}
use Rattle.std.proofs.lemmas.List.Kept.{AllPairs-filter}
use Rattle.std.proofs.lemmas.List.Sorted.{IsPermutation-insert, list_any-IsPermutation, All-permutation}
use Rattle.std.proofs.lemmas.List.Sums.{length-filter, count_by-le-length}
use Rattle.std.proofs.lemmas.Map.Views.{any-filter_same}
use Rattle.plain_laws.proofs.Laws.{AllPairs-insert}
use Rattle.label_order.specs.Labels.{OrderLaws}
use Rattle.label_bag.specs.Bags.{covers, IsUncovered, Apart, AreApart, not_above, Gathers}
use Rattle.label_bag.specs.Offers.{TakesIn}

-- what holds of an answer that is no error
pub of_answer : {A E P : Type 0} (r : Result A E) → is_err r ≡ false → OnOk r P → P
of_answer (Ok a) good p = p
of_answer (Err e) good p = absurd (cc)

-- and of one that is none
pub none-weaker : {A P Q : Type 0} (o : Option A) → (P → Q) → IfNone o P → IfNone o Q
none-weaker None f p = f p
none-weaker (Some a) f p = tt

-- a filter that leaves as many as there were leaves all
pub filter-long : {X : Type 0} (p : X → Bool) (xs : List X) → length xs ≤ length (filter p xs) → filter p xs ≡ xs
filter-long p [] le = refl
filter-long p (x ∷ xs) le = by (p x) refl (filter-long p xs)
  where
    by : (b : Bool) → p x ≡ b → (length xs ≤ length (filter p xs) → filter p xs ≡ xs) → cond (p x) (x ∷ filter p xs) (filter p xs) ≡ x ∷ xs
    by true keeps rest = let le' : length xs ≤ length (filter p xs) = grind arith in rw keeps (ap (λ ys. x ∷ ys) (rest le'))
    by false drops rest =
        let le' : suc (length xs) ≤ length (filter p xs) = grind arith in
        absurd (omega (arith, length-filter p xs, count_by-le-length p xs))

module _ {X : Type 0} (at_most : X → X → Bool) where
  -- the label is at most none of those that it leaves
  pub All-not_above : (e : X) (xs : List X) → All (λ m. at_most e m ≡ false) (not_above at_most e xs)
  All-not_above e xs = All-weaker (λ m. not (at_most e m) ≡ true) (λ m. at_most e m ≡ false) (λ m. no (at_most e m)) _ (filter_passes (λ m. not (at_most e m)) xs)
    where
      no : (b : Bool) → not b ≡ true → b ≡ false
      no true h = sym h
      no false h = refl

  -- members apart, and a label that none covers set among those that it leaves
  pub apart-insert : (xs : List X) (n : ℕ) (e : X) → AreApart at_most xs → IsUncovered at_most xs e → n ≤ length (not_above at_most e xs) →
      AreApart at_most (insert (not_above at_most e xs) n e)
  apart-insert xs n e apart bare le =
      let forth = All-filter (λ m. not (at_most e m)) (λ m. at_most m e ≡ false) xs bare in
      let back = All-not_above e xs in
      AllPairs-insert (Apart at_most) (not_above at_most e xs) n e le (AllPairs-filter (Apart at_most) (λ m. not (at_most e m)) xs apart)
      (λ k d lt. record { forth = forth k d (omega arith); back = back k d (omega arith) })
      (λ k d from lt. record { forth = back k d lt; back = forth k d lt })

  -- it is taken in
  pub takes-insert : (xs : List X) (n : ℕ) (e : X) → IsUncovered at_most xs e → TakesIn at_most xs e (insert (not_above at_most e xs) n e)
  takes-insert xs n e bare = record { uncovered = bare; members = IsPermutation-insert (not_above at_most e xs) n e }

  -- the same, set at their end
  pub apart-push : (xs : List X) (e : X) → AreApart at_most xs → IsUncovered at_most xs e → AreApart at_most (not_above at_most e xs ++ e ∷ [])
  apart-push xs e apart bare = subst (AreApart at_most) (insert_end (not_above at_most e xs) e) (apart-insert xs _ e apart bare (omega arith))

  pub takes-push : (xs : List X) (e : X) → IsUncovered at_most xs e → TakesIn at_most xs e (not_above at_most e xs ++ e ∷ [])
  takes-push xs e bare = subst (TakesIn at_most xs e) (insert_end (not_above at_most e xs) e) (takes-insert xs _ e bare)

  Either : List X → List X → X → Type 0
  Either old labels x = Contains old x ⊎ Contains labels x

  old_members : (xs labels : List X) → All (Either xs labels) xs
  unfolding Either
  old_members xs labels = All-weaker (Contains xs) (λ x. Contains xs x ⊎ Contains labels x) (λ x h. inl h) xs (All-contains_itself xs)

  -- nothing offered
  pub gathers-none : (xs : List X) → Gathers at_most xs [] xs
  unfolding Either
  gathers-none xs = record { still = λ x h. h; each = All-nil (λ x. covers at_most xs x ≡ true); from = old_members xs [] }

  -- some labels, and then others
  pub gathers-then : (old mid new first second : List X) → Gathers at_most old first mid → Gathers at_most mid second new →
      Gathers at_most old (first ++ second) new
  unfolding Either
  gathers-then old mid new first second before last = record {
    still = λ x h. last.still x (before.still x h);
    each = All-append (λ x. covers at_most new x ≡ true) first second
        (All-weaker (λ x. covers at_most mid x ≡ true) (λ x. covers at_most new x ≡ true) last.still first before.each) last.each;
    from = λ k d lt. by (get_or new k d) (last.from k d lt);
  }
    where
      back : (x : X) → Contains old x ⊎ Contains first x → Contains old x ⊎ Contains (first ++ second) x
      back x (inl was) = inl was
      back x (inr one) = inr (Contains-append_left first second x one)

      by : (x : X) → Contains mid x ⊎ Contains second x → Contains old x ⊎ Contains (first ++ second) x
      by x (inl was) = back x (All-contains (λ x. Contains old x ⊎ Contains first x) mid x before.from was)
      by x (inr one) = inr (Contains-append_right first second x one)

  -- what a covered offer gathers
  pub gathers-covered : (xs : List X) (i : ℕ) (e : X) → i < length xs → at_most (get_or xs i e) e ≡ true → Gathers at_most xs (e ∷ []) xs
  unfolding Either
  gathers-covered xs i e lt below = record {
    still = λ x h. h;
    each = All-cons (λ x. covers at_most xs x ≡ true) e [] (list_any_at (λ m. at_most m e) xs i e lt below) (All-nil (λ x. covers at_most xs x ≡ true));
    from = old_members xs (e ∷ []);
  }

  -- what a label that is taken in gathers
  pub gathers-taken : OrderLaws at_most → (xs : List X) (e : X) (new : List X) → TakesIn at_most xs e new → Gathers at_most xs (e ∷ []) new
  unfolding Either
  gathers-taken laws xs e new takes = record {
    still = λ x h. sym (covering x) ∙ by x h (at_most e x) refl;
    each = All-cons (λ x. covers at_most new x ≡ true) e [] (sym (covering e) ∙ ap (λ b. b || covers at_most (not_above at_most e xs) e) (laws.reflexive e)) (All-nil (λ x. covers at_most new x ≡ true));
    from =
        All-permutation (Either xs (e ∷ [])) (e ∷ not_above at_most e xs) new takes.members
        (All-cons (Either xs (e ∷ [])) e _ (inr (Contains-push [] e)) (All-filter (λ m. not (at_most e m)) (Either xs (e ∷ [])) xs (old_members xs (e ∷ []))));
  }
    where
      covering : (x : X) → (at_most e x || covers at_most (not_above at_most e xs) x) ≡ covers at_most new x
      covering x = list_any-IsPermutation (λ m. at_most m x) _ _ takes.members

      -- what is at most a label that e isn't at most stays
      stays : (x m : X) → at_most e x ≡ false → at_most m x ≡ true → (b : Bool) → at_most e m ≡ b → not (at_most e m) ≡ true
      stays x m apart below true near = absurd (let no : true ≡ false = sym (laws.transitive e m x near below) ∙ apart in cc)
      stays x m apart below false far = ap not far

      by : (x : X) → covers at_most xs x ≡ true → (b : Bool) → at_most e x ≡ b → (at_most e x || covers at_most (not_above at_most e xs) x) ≡ true
      by x h true near = ap (λ b. b || covers at_most (not_above at_most e xs) x) near
      by x h false apart =
          ap (λ b. b || covers at_most (not_above at_most e xs) x) apart
          ∙ any-filter_same (λ m. at_most m x) (λ m. not (at_most e m)) true (λ m below. stays x m apart below (at_most e m) refl) xs ∙ h

-- whether a member that is at most the label was found tells whether one is
pub found-covers : {X : Type 0} (at_most : X → X → Bool) (xs : List X) (e : X) (o : Option ℕ) →
    IfSome o (λ i. (i < length xs) × HoldsAt (λ m. at_most m e ≡ true) xs i) → IfNone o (IsUncovered at_most xs e) →
    is_some o ≡ covers at_most xs e
found-covers at_most xs e None found none = sym (list_any_none (λ m. at_most m e) xs none)
found-covers at_most xs e (Some i) found none = sym (list_any_at (λ m. at_most m e) xs i e found.0 (found.1 e))

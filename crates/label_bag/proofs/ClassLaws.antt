-- An offer to labels of one class.
use Rattle.std.proofs.Common.{◌≡◌, sym, ◌∙◌, ap, subst, ℕ, ◌+◌, ◌-◌, ◌≤◌, Bool, false, not, List, [], ◌∷◌, ◌++◌, length, take, drop, insert, All, ℤ, ◌≤ℤ◌, ◌<ℤ◌, arith}
use Rattle.std.specs.Prelude.{slice_range, Contains}
use Rattle.std.specs.Cmp.{IsEquivalence}
use Rattle.std.proofs.lemmas.Bool.{not_from_false}
use Rattle.std.proofs.lemmas.List.{append-nil, drop_all, take_all}
use Rattle.std.proofs.lemmas.List.Elements.{All-nil}
use Rattle.std.proofs.lemmas.List.Sorted.{Contains-permutation}
use Rattle.plain_laws.proofs.Laws.{Contains-cons_later, Contains-filter}
use Rattle.label_order.specs.Labels.{OrderLaws, StairLaws}
use Rattle.label_bag.specs.Bags.{AreApart, Gathers, IsUncovered, not_above}
use Rattle.label_bag.specs.Flights.{IsCut, IsFlight}
use Rattle.label_bag.specs.Offers.{TakesIn}
use Rattle.label_bag.proofs.BagLaws.{apart-insert, gathers-taken, takes-insert}
use Rattle.label_bag.proofs.StairLaws.{flight-set, kept_flight, set-cut, set-flight, set-within}

-- so many members are lower than the label, the others are not, and none is at most it
pub record IsPlaced {X : Type 0} (at_most : X → X → Bool) (height_of : X → ℤ) (xs : List X) (n : ℕ)
    (e : X) : Type 0 where
  pub within : n ≤ length xs
  pub lower : All (λ m. height_of m <ℤ height_of e) (take n xs)
  pub others : All (λ m. height_of e ≤ℤ height_of m) (drop n xs)
  pub bare : IsUncovered at_most xs e

pub placed_as : {X : Type 0} (at_most : X → X → Bool) (height_of : X → ℤ) (ys xs : List X) (n : ℕ) (e : X) → ys ≡ xs →
    n ≤ length ys → All (λ m. height_of m <ℤ height_of e) (take n ys) → All (λ m. height_of e ≤ℤ height_of m) (drop n ys) →
    IsUncovered at_most ys e → IsPlaced at_most height_of xs n e
placed_as at_most height_of ys xs n e same within lower others bare =
    subst (λ zs. IsPlaced at_most height_of zs n e) same
    (record { within = within; lower = lower; others = others; bare = bare })

module _ {X C : Type 0} (at_most : X → X → Bool) (same : C → C → Bool) (class_of : X → C) (height_of : X → ℤ)
    (laws : StairLaws at_most same class_of height_of) (equal : IsEquivalence same) (order : OrderLaws at_most)
    (xs : List X) (e : X)
    (flight : IsFlight same class_of height_of (class_of e) xs) (end : ℕ) (whole : end ≡ length xs) where
  -- members of one class stand from the first place to the last
  all : slice_range xs 0 end ≡ xs
  all = let none : end - 0 ≡ end = omega arith in ap (λ k. take k (drop 0 xs)) none ∙ take_all end xs
      (omega (arith, whole))

  past : drop end xs ≡ []
  past = drop_all end xs (omega (arith, whole))

  cut : IsCut same class_of height_of (class_of e) xs 0 end
  cut = record {
    order = omega arith;
    bound = omega (arith, whole);
    before = All-nil (λ x. same (class_of x) (class_of e) ≡ false);
    flight = subst (IsFlight same class_of height_of (class_of e)) (sym all) flight;
    after = subst (All (λ x. same (class_of x) (class_of e) ≡ false)) (sym past)
        (All-nil (λ x. same (class_of x) (class_of e) ≡ false));
  }

  module _ (n : ℕ) (new : List X) (placed : IsPlaced at_most height_of xs n e)
      (is : new ≡ take n xs ++ e ∷ (not_above at_most e (slice_range xs n end) ++ drop end xs)) where
    in_all : n ≤ length (slice_range xs 0 end)
    in_all = subst (λ zs. n ≤ length zs) (sym all) placed.within

    low : All (λ m. height_of m <ℤ height_of e) (take n (slice_range xs 0 end))
    low = subst (λ zs. All (λ m. height_of m <ℤ height_of e) (take n zs)) (sym all) placed.lower

    from_first : new ≡ take (0 + n) xs ++ e ∷ (not_above at_most e (slice_range xs (0 + n) end) ++ drop end xs)
    from_first =
        let none_more : n ≡ 0 + n = omega arith in
        subst (λ k. new ≡ take k xs ++ e ∷ (not_above at_most e (slice_range xs k end) ++ drop end xs)) none_more is

    set : new ≡ insert (not_above at_most e xs) (0 + n) e
    set = set-cut at_most same class_of height_of laws equal xs e 0 end cut n in_all low new from_first

    taken : TakesIn at_most xs e new
    taken = subst (TakesIn at_most xs e) (sym set) (takes-insert at_most xs (0 + n) e placed.bare)

    -- the label set at its place is gathered
    pub gathers_in : Gathers at_most xs (e ∷ []) new
    gathers_in = gathers-taken at_most order xs e new taken

    -- what it isn't at most stays
    pub keeps_in : (x : X) → Contains xs x → at_most e x ≡ false → Contains new x
    keeps_in x at above =
        Contains-permutation (e ∷ not_above at_most e xs) new x taken.members
        (Contains-cons_later e (not_above at_most e xs) x (Contains-filter (λ m. not (at_most e m)) xs x at
        (not_from_false (at_most e x) above)))

    pub apart_in : AreApart at_most xs → AreApart at_most new
    apart_in apart =
        subst (AreApart at_most) (sym set)
        (apart-insert at_most xs (0 + n) e apart placed.bare
        (set-within at_most same class_of height_of laws equal xs e 0 end cut n in_all low))

    -- and they stay in order
    pub flight_in : IsFlight same class_of height_of (class_of e) new
    flight_in =
        let high = subst (λ zs. All (λ m. height_of e ≤ℤ height_of m) (drop n zs)) (sym all) placed.others in
        let mid = kept_flight at_most same class_of height_of laws equal xs e 0 end cut n in_all low high in
        let same_list : new ≡ mid =
        set-flight at_most same class_of height_of laws equal xs e 0 end cut n in_all low high new from_first
        ∙ ap (λ zs. mid ++ zs) past ∙ append-nil mid in
        subst (IsFlight same class_of height_of (class_of e)) (sym same_list)
        (flight-set at_most same class_of height_of laws equal xs e 0 end cut n in_all low high)

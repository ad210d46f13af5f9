-- Flights, one after another.
use Rattle.std.proofs.Common.{◌≡◌, refl, sym, ◌∙◌, ap, subst, ℕ, zero, suc, ◌+◌, ◌-◌, ◌<◌, ◌≤◌, Bool, true, false, List, [], ◌∷◌, ◌++◌, length, get_or, take, drop, sum_by, ℤ, arith}
use Rattle.std.specs.Prelude.{slice_range}
use Rattle.std.specs.Cmp.{IsEquivalence}
use Rattle.std.proofs.lemmas.List.{append-nil, drop-append-le, drop-drop, drop_more, drop-take, get_or-drop, get_or-take, get_or_push, length-append, length-drop, length-take, length_push, nil_from_length, take-append-drop, take-append-le, take_at, take-take}
use Rattle.std.proofs.lemmas.List.Elements.{All-append, All-drop, All-head, All-nil, All-tail, All-take, All-weaker}
use Rattle.std.proofs.lemmas.List.Quantifiers.{all_pairs_push}
use Rattle.std.proofs.lemmas.List.Sums.{sum_by-cons, sum_by-take-le}
use Rattle.label_bag.specs.Flights.{IsFlight, AreFlights, NoneOf, IsCut, AreDistinct, LacksClass, IsPlace}
use Rattle.label_bag.specs.declared.flights.Flight.{Flight}
use Rattle.label_bag.specs.declared.flights.Place.{Place}

-- how many members come before the flight with this number
abbrev pub start_of : {C : Type 0} → List (Flight C) → ℕ → ℕ
start_of {C} fs n = sum_by (λ (f : Flight C). f.size) (take n fs)

start_later : {C : Type 0} (f : Flight C) (fs : List (Flight C)) (n : ℕ) → start_of (f ∷ fs) (suc n) ≡ f.size + start_of fs n
start_later {C} f fs n = sum_by-cons (λ (f : Flight C). f.size) f (take n fs)

-- a flight without members
abbrev pub opened : {C : Type 0} → C → Flight C
opened class = record { class = class; size = 0 }

module _ {X C : Type 0} (same : C → C → Bool) (class_of : X → C) (height_of : X → ℤ) where
  abbrev Fit : List (Flight C) → List X → Type 0
  Fit fs xs = AreFlights same class_of height_of fs xs

  -- together they have as many members as there are
  pub flights-sum : (fs : List (Flight C)) (xs : List X) → Fit fs xs → sum_by (λ (f : Flight C). f.size) fs ≡ length xs
  flights-sum [] xs fit = sym fit
  flights-sum (f ∷ fs) xs fit = omega (arith, sum_by-cons (λ (f : Flight C). f.size) f fs, flights-sum fs (drop f.size xs) fit.2, length-drop f.size xs, fit.0)

  -- flights behind flights
  pub flights-append : (fs gs : List (Flight C)) (xs ys : List X) → Fit fs xs → Fit gs ys → Fit (fs ++ gs) (xs ++ ys)
  flights-append [] gs xs ys fit more = subst (λ zs. Fit gs (zs ++ ys)) (sym (nil_from_length xs fit)) more
  flights-append (f ∷ fs) gs xs ys fit more = (
    omega (arith, fit.0, length-append xs ys),
    subst (IsFlight same class_of height_of f.class) (sym (take-append-le f.size xs ys fit.0)) fit.1,
    subst (Fit (fs ++ gs)) (sym (drop-append-le f.size xs ys fit.0)) (flights-append fs gs (drop f.size xs) ys fit.2 more),
  )

  -- the first of them
  pub flights-take : (fs : List (Flight C)) (xs : List X) (n : ℕ) → Fit fs xs → Fit (take n fs) (take (start_of fs n) xs)
  flights-take fs xs zero fit = refl
  flights-take [] xs (suc n) fit = refl
  flights-take (f ∷ fs) xs (suc n) fit =
      subst (λ k. Fit (f ∷ take n fs) (take k xs)) (sym (start_later f fs n)) (
        omega (arith, fit.0, length-take (f.size + start_of fs n) xs),
        subst (IsFlight same class_of height_of f.class) (sym (take-take f.size (f.size + start_of fs n) xs (omega arith))) fit.1,
        subst (Fit (take n fs)) (sym (drop-take f.size (start_of fs n) xs)) (flights-take fs (drop f.size xs) n fit.2),
      )

  -- and the others
  pub flights-drop : (fs : List (Flight C)) (xs : List X) (n : ℕ) → Fit fs xs → Fit (drop n fs) (drop (start_of fs n) xs)
  flights-drop fs xs zero fit = fit
  flights-drop [] xs (suc n) fit = fit
  flights-drop (f ∷ fs) xs (suc n) fit =
      subst (λ k. Fit (drop n fs) (drop k xs)) (sym (start_later f fs n))
      (subst (Fit (drop n fs)) (drop-drop (start_of fs n) f.size xs) (flights-drop fs (drop f.size xs) n fit.2))

  -- an empty flight behind them
  empty_fits : (class : C) → Fit (opened class ∷ []) []
  empty_fits class = (omega arith, record { classed = All-nil (λ x. same (class_of x) class ≡ true); rising = λ i j d lt within. absurd (omega arith) }, refl)

  pub flights-open : (fs : List (Flight C)) (xs : List X) (class : C) → Fit fs xs → Fit (fs ++ opened class ∷ []) xs
  flights-open fs xs class fit = subst (Fit (fs ++ opened class ∷ [])) (append-nil xs) (flights-append fs (opened class ∷ []) xs [] fit (empty_fits class))

  pub place-open : (fs : List (Flight C)) (xs : List X) (class : C) (p : Place) → Fit fs xs → same class class ≡ true →
      p.number ≡ length fs → p.begin ≡ length xs → p.end ≡ length xs → IsPlace same (fs ++ opened class ∷ []) class p
  place-open fs xs class p fit itself number begin end =
      let last = λ (d : Flight C). get_or_push fs (opened class) d p.number (sym number) in
      record {
        listed = omega (arith, number, length_push fs (opened class));
        begins = begin ∙ sym (flights-sum fs xs fit) ∙ ap (sum_by (λ (f : Flight C). f.size)) (sym (take_at fs (opened class ∷ []) p.number (sym number)));
        ends = λ d. omega (arith, begin, end, ap (λ (f : Flight C). f.size) (last d));
        classed = λ d. subst (λ (f : Flight C). same f.class class ≡ true) (sym (last d)) itself;
      }

-- and they stay distinct
pub distinct-open : {C : Type 0} (same : C → C → Bool) (fs : List (Flight C)) (class : C) → AreDistinct same fs → LacksClass same fs class → AreDistinct same (fs ++ opened class ∷ [])
distinct-open {C} same fs class apart lacks = all_pairs_push (λ (f : Flight C) (g : Flight C). same f.class g.class ≡ false) fs (opened class) apart lacks

module _ {X C : Type 0} (same : C → C → Bool) (class_of : X → C) (height_of : X → ℤ) (equal : IsEquivalence same) where
  -- what isn't of a class isn't of the same one by another name
  other : (a b c : C) → same a b ≡ false → same b c ≡ true → same a c ≡ false
  other a b c apart alike = equal.symm a c ∙ sym (equal.congr b c a alike) ∙ equal.symm b a ∙ apart

  -- where no flight is of a class, no member is
  pub none-lacking : (fs : List (Flight C)) (xs : List X) (class : C) → AreFlights same class_of height_of fs xs → LacksClass same fs class → NoneOf same class_of class xs
  none-lacking [] xs class fit lacks = λ k d lt. absurd (omega (arith, fit))
  none-lacking (f ∷ fs) xs class fit lacks =
      let head = All-head (λ (f : Flight C). same f.class class ≡ false) f fs lacks in
      let first = All-weaker (λ x. same (class_of x) f.class ≡ true) (λ x. same (class_of x) class ≡ false) (λ x here. equal.congr (class_of x) f.class class here ∙ head) _ fit.1.classed in
      let later = none-lacking fs (drop f.size xs) class fit.2 (All-tail (λ (f : Flight C). same f.class class ≡ false) f fs lacks) in
      subst (NoneOf same class_of class) (take-append-drop f.size xs) (All-append (λ x. same (class_of x) class ≡ false) _ _ first later)

  module _ (fs : List (Flight C)) (xs : List X) (class : C) (p : Place) (fit : AreFlights same class_of height_of fs xs) (place : IsPlace same fs class p) where
    abbrev here : Flight C
    here = get_or fs p.number (record { class = class; size = 0 })

    -- from the place on
    onward : AreFlights same class_of height_of (here ∷ drop (p.number + 1) fs) (drop p.begin xs)
    onward =
        subst (λ k. AreFlights same class_of height_of (here ∷ drop (p.number + 1) fs) (drop k xs)) (sym place.begins)
        (subst (λ gs. AreFlights same class_of height_of gs (drop (start_of fs p.number) xs)) (drop_more fs p.number (record { class = class; size = 0 }) place.listed) (flights-drop same class_of height_of fs xs p.number fit))

    ends : p.end ≡ p.begin + here.size
    ends = place.ends (record { class = class; size = 0 })

    -- and behind it
    pub behind : AreFlights same class_of height_of (drop (p.number + 1) fs) (drop p.end xs)
    behind = subst (λ zs. AreFlights same class_of height_of (drop (p.number + 1) fs) zs) (drop-drop here.size p.begin xs ∙ ap (λ k. drop k xs) (sym ends)) onward.2

    pub cut_at : AreDistinct same fs → IsCut same class_of height_of class xs p.begin p.end
    cut_at distinct =
        let alike = place.classed (record { class = class; size = 0 }) in
        let size : p.end - p.begin ≡ here.size = omega (arith, ends) in
        let first : p.begin ≤ length xs = omega (arith, place.begins, sum_by-take-le (λ (f : Flight C). f.size) fs p.number, flights-sum same class_of height_of fs xs fit) in
        record {
          order = omega (arith, ends);
          bound = omega (arith, ends, onward.0, length-drop p.begin xs);
          before =
              subst (λ k. NoneOf same class_of class (take k xs)) (sym place.begins)
              (none-lacking (take p.number fs) _ class (flights-take same class_of height_of fs xs p.number fit)
              (λ k d lt.
              let low : k < p.number = omega (arith, length-take p.number fs) in
              subst (λ (f : Flight C). same f.class class ≡ false) (sym (get_or-take p.number fs k d low))
              (other _ _ _ (distinct k p.number d low place.listed) (place.classed d))));
          flight =
              subst (IsFlight same class_of height_of class) (ap (λ k. take k (drop p.begin xs)) (sym size))
              (record {
                classed = All-weaker (λ x. same (class_of x) here.class ≡ true) (λ x. same (class_of x) class ≡ true) (λ x of. equal.congr (class_of x) here.class class of ∙ alike) _ onward.1.classed;
                rising = onward.1.rising;
              });
          after =
              none-lacking (drop (p.number + 1) fs) _ class behind
              (λ k d lt.
              let within : p.number + 1 + k < length fs = omega (arith, length-drop (p.number + 1) fs) in
              subst (λ (f : Flight C). same f.class class ≡ false) (sym (get_or-drop (p.number + 1) fs k d))
              (other _ _ _ (equal.symm _ _ ∙ distinct p.number (p.number + 1 + k) d (omega arith) within) (place.classed d)));
        }

  -- where the class has no flight yet, behind all
  pub cut-open : (fs : List (Flight C)) (xs : List X) (class : C) (n : ℕ) → AreFlights same class_of height_of fs xs → LacksClass same fs class → n ≡ length xs →
      IsCut same class_of height_of class xs n n
  cut-open fs xs class n fit lacks last =
      let none : n - n ≡ 0 = omega arith in
      let empty : slice_range xs n n ≡ [] = ap (λ k. take k (drop n xs)) none in
      record {
        order = omega arith;
        bound = omega arith;
        before = All-take (λ x. same (class_of x) class ≡ false) n xs (none-lacking fs xs class fit lacks);
        flight = subst (IsFlight same class_of height_of class) (sym empty) (record { classed = All-nil (λ x. same (class_of x) class ≡ true); rising = λ i j d lt within. absurd (omega arith) });
        after = All-drop (λ x. same (class_of x) class ≡ false) n xs (none-lacking fs xs class fit lacks);
      }

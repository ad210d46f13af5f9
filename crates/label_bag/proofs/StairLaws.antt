-- An offer to members that stand class by class.
use Rattle.std.proofs.Common.{◌≡◌, refl, sym, ◌∙◌, ap, subst, ℕ, suc, ◌+◌, ◌-◌, ◌<◌, ◌≤◌, ◌⊎◌, inl, inr, Bool, true, false, not, List, [], ◌∷◌, ◌++◌, length, get_or, take, drop, set, insert, filter, All, AllPairs, ℤ, ◌≤ℤ◌, ◌<ℤ◌, arith}
use Rattle.std.specs.Prelude.{slice_range}
use Rattle.std.specs.Cmp.{IsEquivalence}
use Rattle.std.proofs.lemmas.Bool.{cases_Bool, cases_eq}
use Rattle.std.proofs.lemmas.Int.{ints}
use Rattle.std.proofs.Math.Seq.{take-add}
use Rattle.std.proofs.lemmas.List.{append_assoc, drop_at, drop-drop, drop-take, get_or-append_right, get_or_append_left, get_or-set_other, get_or-set_same, length-append, length-drop, length-set, length-take-le, set_split, take-append-drop, take_at, take-take}
use Rattle.std.proofs.lemmas.List.Edits.{get_or-between, length-between, split_between}
use Rattle.std.proofs.lemmas.List.Elements.{All-append, All-filter, All-head, All-tail, All-weaker, filter-append}
use Rattle.std.proofs.lemmas.List.Kept.{AllPairs-filter}
use Rattle.plain_laws.proofs.Laws.{AllPairs-insert, All-insert}
use Rattle.label_order.specs.Labels.{StairLaws}
use Rattle.label_bag.specs.Bags.{IsUncovered, not_above}
use Rattle.label_bag.specs.Flights.{IsFlight, AreFlights, NoneOf, IsCut, AreDistinct, IsPlace}
use Rattle.label_bag.specs.declared.flights.Flight.{Flight}
use Rattle.label_bag.specs.declared.flights.Place.{Place}
use Rattle.label_bag.proofs.HeightLaws.{higher-apart}
use Rattle.label_bag.proofs.ThinLaws.{insert-thinned, thinned-long}
use Rattle.label_bag.proofs.FlightLaws.{behind, flights-append, flights-take}

-- a filter leaves a list all of whose items pass
filter-all : {X : Type 0} (p : X → Bool) (xs : List X) → All (λ x. p x ≡ true) xs → filter p xs ≡ xs
filter-all p [] pass = refl
filter-all p (x ∷ xs) pass =
    rw (All-head (λ x. p x ≡ true) x xs pass) (ap (λ zs. x ∷ zs) (filter-all p xs (All-tail (λ x. p x ≡ true) x xs pass)))

module _ {X C : Type 0} (at_most : X → X → Bool) (same : C → C → Bool) (class_of : X → C) (height_of : X → ℤ) (laws : StairLaws at_most same class_of height_of) (equal : IsEquivalence same) where
  -- labels of other classes aren't at most one another
  stranger : (m e : X) → same (class_of m) (class_of e) ≡ false → at_most m e ≡ false
  stranger m e apart = by (cases_Bool (at_most m e))
    where
      by : (at_most m e ≡ true) ⊎ (at_most m e ≡ false) → at_most m e ≡ false
      by (inl below) = absurd (let no : true ≡ false = sym (laws.class m e below) ∙ apart in cc)
      by (inr none) = none

  stranger_back : (m e : X) → same (class_of m) (class_of e) ≡ false → at_most e m ≡ false
  stranger_back m e apart = stranger e m (equal.symm (class_of e) (class_of m) ∙ apart)

  -- a label of a class that has no member is covered by none
  pub uncovered-none : (xs : List X) (e : X) → NoneOf same class_of (class_of e) xs → IsUncovered at_most xs e
  uncovered-none xs e none = All-weaker (λ x. same (class_of x) (class_of e) ≡ false) (λ x. at_most x e ≡ false) (λ x. stranger x e) xs none

  module _ (xs : List X) (e : X) (begin end : ℕ) (cut : IsCut same class_of height_of (class_of e) xs begin end) where
    -- one that no member of its class covers is covered by none
    pub uncovered-cut : IsUncovered at_most (slice_range xs begin end) e → IsUncovered at_most xs e
    uncovered-cut bare =
        subst (λ zs. IsUncovered at_most zs e) (sym (split_between xs begin end cut.order))
        (All-append (λ x. at_most x e ≡ false) _ _ (uncovered-none _ e cut.before) (All-append (λ x. at_most x e ≡ false) _ _ bare (uncovered-none _ e cut.after)))

    long : length (slice_range xs begin end) ≡ end - begin
    long = length-between xs begin end cut.bound

    -- a member of the class by its number among all
    pub covered-cut : (i : ℕ) (d : X) → i < length (slice_range xs begin end) → (begin + i < length xs) × (get_or (slice_range xs begin end) i d ≡ get_or xs (begin + i) d)
    covered-cut i d lt =
        let bound = cut.bound in
        (omega (arith, long, bound), get_or-between xs begin end i d (omega (arith, long)))

    module _ (n : ℕ) (within : n ≤ length (slice_range xs begin end)) where
      -- what stands before the label's place
      front : take (begin + n) xs ≡ take begin xs ++ take n (slice_range xs begin end)
      front = take-add begin n xs ∙ ap (λ zs. take begin xs ++ zs) (sym (take-take n (end - begin) (drop begin xs) (omega (arith, long))))

      -- and what stands from there to the end of the class
      rest : slice_range xs (begin + n) end ≡ drop n (slice_range xs begin end)
      rest =
          let room : n + (end - (begin + n)) ≡ end - begin = omega (arith, long) in
          ap (take (end - (begin + n))) (sym (drop-drop n begin xs)) ∙ sym (drop-take n (end - (begin + n)) (drop begin xs)) ∙ ap (λ k. drop n (take k (drop begin xs))) room

      module _ (lower : All (λ m. height_of m <ℤ height_of e) (take n (slice_range xs begin end))) where
        stays : (m : X) → at_most e m ≡ false → not (at_most e m) ≡ true
        stays m apart = ap not apart

        lower_stay : All (λ m. not (at_most e m) ≡ true) (take n (slice_range xs begin end))
        lower_stay =
            All-weaker (λ m. height_of m <ℤ height_of e) (λ m. not (at_most e m) ≡ true)
            (λ m below. stays m (higher-apart at_most same class_of height_of laws e m below)) _ lower

        others_stay : (zs : List X) → NoneOf same class_of (class_of e) zs → All (λ m. not (at_most e m) ≡ true) zs
        others_stay zs none =
            All-weaker (λ m. same (class_of m) (class_of e) ≡ false) (λ m. not (at_most e m) ≡ true) (λ m apart. stays m (stranger_back m e apart)) zs none

        -- the label leaves all before its place and behind its class
        pub left-cut : not_above at_most e xs ≡ take (begin + n) xs ++ (not_above at_most e (slice_range xs (begin + n) end) ++ drop end xs)
        left-cut =
            let test = λ (m : X). not (at_most e m) in
            let before = filter-all test (take (begin + n) xs) (subst (All (λ m. test m ≡ true)) (sym front) (All-append (λ m. test m ≡ true) _ _ (others_stay _ cut.before) lower_stay)) in
            let after = filter-all test (drop end xs) (others_stay _ cut.after) in
            ap (filter test) (split_between xs (begin + n) end (omega (arith, long)))
            ∙ filter-append test (take (begin + n) xs) (slice_range xs (begin + n) end ++ drop end xs)
            ∙ ap (λ zs. zs ++ filter test (slice_range xs (begin + n) end ++ drop end xs)) before
            ∙ ap (λ zs. take (begin + n) xs ++ zs) (filter-append test (slice_range xs (begin + n) end) (drop end xs) ∙ ap (λ zs. filter test (slice_range xs (begin + n) end) ++ zs) after)

        -- the label set at its place, among those that it leaves
        pub set-cut : (new : List X) → new ≡ take (begin + n) xs ++ e ∷ (not_above at_most e (slice_range xs (begin + n) end) ++ drop end xs) →
            new ≡ insert (not_above at_most e xs) (begin + n) e
        set-cut new is =
            let bound = cut.bound in
            is ∙ sym (insert-thinned (λ m. not (at_most e m)) xs end (begin + n) e (omega (arith, long, bound))) ∙ ap (λ zs. insert zs (begin + n) e) (sym left-cut)

        pub set-within : begin + n ≤ length (not_above at_most e xs)
        set-within =
            let bound = cut.bound in
            let most = thinned-long (λ m. not (at_most e m)) xs end (begin + n) (omega (arith, long, bound)) in
            omega (arith, most, ap length left-cut)

        module _ (others : All (λ m. height_of e ≤ℤ height_of m) (drop n (slice_range xs begin end))) where
          abbrev pub kept_flight : List X
          kept_flight = take n (slice_range xs begin end) ++ e ∷ not_above at_most e (drop n (slice_range xs begin end))

          kept : not_above at_most e (slice_range xs begin end) ≡ take n (slice_range xs begin end) ++ not_above at_most e (drop n (slice_range xs begin end))
          kept =
              let test = λ (m : X). not (at_most e m) in
              ap (filter test) (sym (take-append-drop n (slice_range xs begin end)))
              ∙ filter-append test (take n (slice_range xs begin end)) (drop n (slice_range xs begin end))
              ∙ ap (λ zs. zs ++ filter test (drop n (slice_range xs begin end))) (filter-all test _ lower_stay)

          -- the class with the label in it is in order
          pub flight-set : IsFlight same class_of height_of (class_of e) kept_flight
          flight-set =
              let front = take n (slice_range xs begin end) in
              let back = not_above at_most e (drop n (slice_range xs begin end)) in
              let flight = cut.flight in
              let rising : AllPairs (λ x y. height_of x ≤ℤ height_of y) (front ++ back) = subst (AllPairs (λ x y. height_of x ≤ℤ height_of y)) kept (AllPairs-filter (λ x y. height_of x ≤ℤ height_of y) (λ m. not (at_most e m)) _ flight.rising) in
              let classed : All (λ x. same (class_of x) (class_of e) ≡ true) (front ++ back) = subst (All (λ x. same (class_of x) (class_of e) ≡ true)) kept (All-filter (λ m. not (at_most e m)) (λ x. same (class_of x) (class_of e) ≡ true) _ flight.classed) in
              let behind = All-filter (λ m. not (at_most e m)) (λ m. height_of e ≤ℤ height_of m) _ others in
              let size : length front ≡ n = length-take-le n (slice_range xs begin end) within in
              let all : length (front ++ back) ≡ n + length back = omega (arith, length-append front back, size) in
              let same_list : insert (front ++ back) n e ≡ front ++ e ∷ back =
              ap (λ zs. zs ++ e ∷ drop n (front ++ back)) (take_at front back n size) ∙ ap (λ zs. front ++ e ∷ zs) (drop_at front back n size) in
              subst (IsFlight same class_of height_of (class_of e)) same_list
              (record {
                classed = All-insert (λ x. same (class_of x) (class_of e) ≡ true) (front ++ back) n e classed (equal.refl (class_of e));
                rising =
                    AllPairs-insert (λ x y. height_of x ≤ℤ height_of y) (front ++ back) n e (omega (arith, all)) rising
                    (λ k d lt.
                    let low = lower k d (omega (arith, size)) in
                    subst (λ m. height_of m ≤ℤ height_of e) (sym (get_or_append_left front back d k (omega (arith, size)))) (omega (arith, ints, low)))
                    (λ k d from lt.
                    let high = behind (k - n) d (omega (arith, all)) in
                    subst (λ m. height_of e ≤ℤ height_of m) (sym (get_or-append_right front back n k d size from)) high);
              })

          -- and stands where it stood
          pub set-flight : (new : List X) → new ≡ take (begin + n) xs ++ e ∷ (not_above at_most e (slice_range xs (begin + n) end) ++ drop end xs) →
              new ≡ take begin xs ++ (kept_flight ++ drop end xs)
          set-flight new is =
              is ∙ ap (λ zs. zs ++ e ∷ (not_above at_most e (slice_range xs (begin + n) end) ++ drop end xs)) front
              ∙ ap (λ zs. (take begin xs ++ take n (slice_range xs begin end)) ++ e ∷ (not_above at_most e zs ++ drop end xs)) rest
              ∙ append_assoc (take begin xs) (take n (slice_range xs begin end)) (e ∷ (not_above at_most e (drop n (slice_range xs begin end)) ++ drop end xs))
              ∙ ap (λ zs. take begin xs ++ zs) (sym (append_assoc (take n (slice_range xs begin end)) (e ∷ not_above at_most e (drop n (slice_range xs begin end))) (drop end xs)))

-- the flight of a place with another size
pub flights-set : {X C : Type 0} (same : C → C → Bool) (class_of : X → C) (height_of : X → ℤ) (equal : IsEquivalence same) (fs : List (Flight C)) (xs mid : List X) (class : C) (p : Place) (f : Flight C) →
    AreFlights same class_of height_of fs xs → IsPlace same fs class p → same class f.class ≡ true → f.size ≡ length mid → IsFlight same class_of height_of class mid →
    AreFlights same class_of height_of (set fs p.number f) (take p.begin xs ++ (mid ++ drop p.end xs))
flights-set {X} {C} same class_of height_of equal fs xs mid class p f fit place alike size flight =
    let one : suc p.number ≡ p.number + 1 = omega arith in
    let split = set_split fs p.number f place.listed ∙ ap (λ k. take p.number fs ++ f ∷ drop k fs) one in
    let before = subst (λ k. AreFlights same class_of height_of (take p.number fs) (take k xs)) (sym place.begins) (flights-take same class_of height_of fs xs p.number fit) in
    let of_class : IsFlight same class_of height_of f.class mid =
    record { classed = All-weaker (λ x. same (class_of x) class ≡ true) (λ x. same (class_of x) f.class ≡ true) (λ x of. equal.congr (class_of x) class f.class of ∙ alike) mid flight.classed; rising = flight.rising } in
    subst (λ gs. AreFlights same class_of height_of gs (take p.begin xs ++ (mid ++ drop p.end xs))) (sym split)
    (flights-append same class_of height_of (take p.number fs) (f ∷ drop (p.number + 1) fs) (take p.begin xs) (mid ++ drop p.end xs) before (
      omega (arith, size, length-append mid (drop p.end xs)),
      subst (IsFlight same class_of height_of f.class) (sym (take_at mid (drop p.end xs) f.size (sym size))) of_class,
      subst (AreFlights same class_of height_of (drop (p.number + 1) fs)) (sym (drop_at mid (drop p.end xs) f.size (sym size))) (behind same class_of height_of equal fs xs class p fit place),
    ))

-- keeps them distinct
pub distinct-set : {C : Type 0} (same : C → C → Bool) (fs : List (Flight C)) (n : ℕ) (f : Flight C) → n < length fs → ((d : Flight C) → f.class ≡ (get_or fs n d).class) → AreDistinct same fs →
    AreDistinct same (set fs n f)
distinct-set {C} same fs n f within class distinct i j d lt last =
    let bound : j < length fs = omega (arith, last, length-set fs n f) in
    subst (λ c. same c (get_or (set fs n f) j d).class ≡ false) (sym (class_at i (cases_eq i n)))
    (subst (λ c. same (get_or fs i d).class c ≡ false) (sym (class_at j (cases_eq j n))) (distinct i j d lt bound))
  where
    class_at : (k : ℕ) → (k ≡ n) ⊎ (k ≡ n → ⊥) → (get_or (set fs n f) k d).class ≡ (get_or fs k d).class
    class_at k (inl here) =
        subst (λ m. (get_or (set fs n f) m d).class ≡ (get_or fs m d).class) (sym here) (ap (λ (g : Flight C). g.class) (get_or-set_same fs n f d within) ∙ class d)
    class_at k (inr elsewhere) = ap (λ (g : Flight C). g.class) (get_or-set_other fs n k f d elsewhere)

-- the new list is the old one without what the label is at most, and with the label, that none of it covered, at this place
pub record IsSet {X : Type 0} (at_most : X → X → Bool) (xs : List X) (e : X) (n : ℕ) (new : List X) : Type 0 where
  pub uncovered : IsUncovered at_most xs e
  pub within : n ≤ length (not_above at_most e xs)
  pub is : new ≡ insert (not_above at_most e xs) n e

module _ {X C : Type 0} (at_most : X → X → Bool) (same : C → C → Bool) (class_of : X → C) (height_of : X → ℤ) (laws : StairLaws at_most same class_of height_of) (equal : IsEquivalence same)
    (xs ys : List X) (e : X) (class : C) (p : Place) (n : ℕ) (new : List X) (list : ys ≡ xs) (named : class ≡ class_of e)
    (cut : IsCut same class_of height_of class xs p.begin p.end) (within : n ≤ length (slice_range ys p.begin p.end))
    (lower : All (λ m. height_of m <ℤ height_of e) (take n (slice_range ys p.begin p.end)))
    (is : new ≡ take (p.begin + n) xs ++ e ∷ (not_above at_most e (slice_range xs (p.begin + n) p.end) ++ drop p.end xs)) where
  own_cut : IsCut same class_of height_of (class_of e) xs p.begin p.end
  own_cut = subst (λ k. IsCut same class_of height_of k xs p.begin p.end) named cut

  own_within : n ≤ length (slice_range xs p.begin p.end)
  own_within = subst (λ zs. n ≤ length (slice_range zs p.begin p.end)) list within

  own_lower : All (λ m. height_of m <ℤ height_of e) (take n (slice_range xs p.begin p.end))
  own_lower = subst (λ zs. All (λ m. height_of m <ℤ height_of e) (take n (slice_range zs p.begin p.end))) list lower

  pub set-in : IsUncovered at_most (slice_range ys p.begin p.end) e → IsSet at_most xs e (p.begin + n) new
  set-in bare = record {
    uncovered = uncovered-cut at_most same class_of height_of laws equal xs e p.begin p.end own_cut (subst (λ zs. IsUncovered at_most (slice_range zs p.begin p.end) e) list bare);
    within = set-within at_most same class_of height_of laws equal xs e p.begin p.end own_cut n own_within own_lower;
    is = set-cut at_most same class_of height_of laws equal xs e p.begin p.end own_cut n own_within own_lower new is;
  }

  pub flights-kept : (fs : List (Flight C)) (f : Flight C) → AreFlights same class_of height_of fs xs → IsPlace same fs class p →
      All (λ m. height_of e ≤ℤ height_of m) (drop n (slice_range ys p.begin p.end)) →
      ((d : Flight C) → f.class ≡ (get_or fs p.number d).class) → f.size ≡ length new - (length xs - (p.end - p.begin)) → AreFlights same class_of height_of (set fs p.number f) new
  flights-kept fs f fit place others of size =
      let high = subst (λ zs. All (λ m. height_of e ≤ℤ height_of m) (drop n (slice_range zs p.begin p.end))) list others in
      let mid = kept_flight at_most same class_of height_of laws equal xs e p.begin p.end own_cut n own_within own_lower high in
      let order = own_cut.order in
      let bound = own_cut.bound in
      let whole : new ≡ take p.begin xs ++ (mid ++ drop p.end xs) = set-flight at_most same class_of height_of laws equal xs e p.begin p.end own_cut n own_within own_lower high new is in
      let long : f.size ≡ length mid =
      omega (arith, size, order, bound, ap length whole, length-append (take p.begin xs) (mid ++ drop p.end xs), length-append mid (drop p.end xs), length-take-le p.begin xs (omega arith), length-drop p.end xs) in
      let alike : same class f.class ≡ true = ap (same class) (of f) ∙ equal.symm class (get_or fs p.number f).class ∙ place.classed f in
      subst (AreFlights same class_of height_of (set fs p.number f)) (sym whole)
      (flights-set same class_of height_of equal fs xs mid class p f fit place alike long
      (subst (λ k. IsFlight same class_of height_of k mid) (sym named) (flight-set at_most same class_of height_of laws equal xs e p.begin p.end own_cut n own_within own_lower high)))

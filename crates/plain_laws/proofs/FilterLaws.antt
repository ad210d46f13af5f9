-- What a filter keeps, what is found, and the members of what is mapped.
use Rattle.std.proofs.Common.{◌≡◌, refl, Bool, false, List, [], ◌∷◌, ap, true, ℕ, ◌<◌, ◌≤◌, length, take, arith, ◌+◌, drop, sym, ◌∙◌, ◌-◌, ◌++◌, subst, ◌⊎◌, inl, inr, Contains, ◌||◌, map, flat_map, ◌&&◌, ⊎_elim, None, Some, zero, suc, get_or, Option, position, is_some}
use Rattle.std.specs.Prelude.{filter, All, slice_range, ◌==◌, if◌then◌else◌, find, slice_get}
use Rattle.std.proofs.lemmas.List.Elements.{All-head, All-tail, filter-append, filter_agree, All-contains, filter_passes, Contains-append_left, Contains-append_right, Contains-append_cases}
use Rattle.std.specs.List.{AllWithin, list_any}
use Rattle.std.proofs.lemmas.List.{get_or-take, length-take, get_or-drop, length-drop, take-append-drop, append-nil}
use Rattle.std.proofs.lemmas.List.Folds.{drop_split, list_any-append, list_any_at, list_any_none}
use Rattle.std.specs.List.Sorted.{ties}
use Rattle.std.specs.Ordering.{is_lt, nat_cmp}
use Rattle.std.proofs.lemmas.Bool.Decides.{nat_tests}
use Rattle.std.proofs.lemmas.Grind.{common_steps}
use Rattle.plain_laws.proofs.OrderLaws.{Contains-cons_cases, Contains-cons_first, Contains-cons_later}
use Rattle.std.proofs.lemmas.Bool.{cases_Bool}
use Rattle.std.proofs.lemmas.Option.{same_Some, none-some}
use Rattle.std.proofs.lemmas.List.Quantifiers.{position-Some}
use Rattle.std.proofs.lemmas.List.Sums.{fails_before_first}
use Rattle.plain_laws.specs.Below.{find_below}
use Rattle.plain_laws.proofs.BelowLaws.{find_below_hit, find_below_none}

module _ {X : Type 0} where
  -- a filter keeps nothing where none passes
  pub filter_none : (p : X → Bool) (xs : List X) → All (λ x. p x ≡ false) xs → filter p xs ≡ []
  filter_none p [] all = refl
  filter_none p (x ∷ xs) all = rw (All-head (λ y. p y ≡ false) x xs all) (filter_none p xs (All-tail (λ y. p y ≡ false) x xs all))

  -- and everything where each does
  pub filter_all : (p : X → Bool) (xs : List X) → All (λ x. p x ≡ true) xs → filter p xs ≡ xs
  filter_all p [] all = refl
  filter_all p (x ∷ xs) all = rw (All-head (λ y. p y ≡ true) x xs all) (ap (λ ys. x ∷ ys) (filter_all p xs (All-tail (λ y. p y ≡ true) x xs all)))

  -- what holds up to a place holds of what stands before it
  pub All-take_within : (P : X → Type 0) (xs : List X) (n : ℕ) → n ≤ length xs → AllWithin P xs 0 n → All P (take n xs)
  All-take_within P xs n le all k d lt = let small = simp length-take at lt in let lt' : k < n = omega arith in rw (get_or-take n xs k d lt') (all k d (omega arith) lt')

  pub All-drop_within : (P : X → Type 0) (xs : List X) (n : ℕ) → n ≤ length xs → AllWithin P xs n (length xs) → All P (drop n xs)
  All-drop_within P xs n le all k d lt = rw (get_or-drop n xs k d) (all (n + k) d (omega arith) (omega (arith, simp length-drop at lt)))

  -- a filter keeps a part, where just its items pass
  pub filter_part : (p : X → Bool) (xs : List X) (a b : ℕ) → a ≤ b → b ≤ length xs → AllWithin (λ x. p x ≡ false) xs 0 a → AllWithin (λ x. p x ≡ true) xs a b → AllWithin (λ x. p x ≡ false) xs b (length xs) → filter p xs ≡ slice_range xs a b
  filter_part p xs a b le within before inside after =
      let parts : xs ≡ take a xs ++ drop a xs = sym (take-append-drop a xs) in
      let rest : drop a xs ≡ slice_range xs a b ++ drop b xs = drop_split xs a b le in
      let none : filter p (take a xs) ≡ [] = filter_none p (take a xs) (All-take_within (λ x. p x ≡ false) xs a (omega arith) before) in
      let last : filter p (drop b xs) ≡ [] = filter_none p (drop b xs) (All-drop_within (λ x. p x ≡ false) xs b within after) in
      let mid : filter p (slice_range xs a b) ≡ slice_range xs a b = filter_all p (slice_range xs a b) part in
      ap (filter p) parts ∙ filter-append p (take a xs) (drop a xs) ∙ ap (λ ys. ys ++ filter p (drop a xs)) none ∙ ap (filter p) rest ∙ filter-append p (slice_range xs a b) (drop b xs) ∙ ap (λ ys. filter p (slice_range xs a b) ++ ys) last ∙ append-nil (filter p (slice_range xs a b)) ∙ mid
    where
      part : All (λ x. p x ≡ true) (slice_range xs a b)
      part k d lt = let lt' : k < b - a = omega (arith, simp (length-take, length-drop) at lt) in rw (get_or-take (b - a) (drop a xs) k d lt', get_or-drop a xs k d) (inside (a + k) d (omega arith) (omega arith))

  -- what a stable sort by a number keeps: the items of each number
  pub same_ties : (number : X → ℕ) (xs ys : List X) (i : ℕ) (x : X) → number x ≡ i → ((z : X) → filter (ties (λ a b. is_lt (nat_cmp (number a) (number b))) z) ys ≡ filter (ties (λ a b. is_lt (nat_cmp (number a) (number b))) z) xs) → filter (λ y. number y == i) ys ≡ filter (λ y. number y == i) xs
  same_ties number xs ys i x is stable =
      sym (filter_agree (ties (λ a b. is_lt (nat_cmp (number a) (number b))) x) (λ y. number y == i) agree ys) ∙ stable x ∙ filter_agree (ties (λ a b. is_lt (nat_cmp (number a) (number b))) x) (λ y. number y == i) agree xs
    where
      agree : (y : X) → ties (λ a b. is_lt (nat_cmp (number a) (number b))) x y ≡ (number y == i)
      agree y = grind (arith, common_steps, nat_tests, is)

-- what passes a test is among those that do
pub Contains-filter : {X : Type 0} (p : X → Bool) (xs : List X) (x : X) → Contains xs x → p x ≡ true → Contains (filter p xs) x
Contains-filter p [] x at passes = let lt = at.1 in absurd (omega arith)
Contains-filter {X} p (y ∷ ys) x at passes = step (λ there. Contains-filter p ys x there passes) (p y) refl (Contains-cons_cases y ys x at)
  where
    step : (Contains ys x → Contains (filter p ys) x) → (b : Bool) → p y ≡ b → (y ≡ x) ⊎ Contains ys x → Contains (filter p (y ∷ ys)) x
    step rest true e (inl here) = rw e (subst (Contains (y ∷ filter p ys)) here (Contains-cons_first y (filter p ys)))
    step rest true e (inr there) = rw e (Contains-cons_later y (filter p ys) x (rest there))
    step rest false e (inl here) = absurd (let no : true ≡ false = sym passes ∙ subst (λ z. p z ≡ false) here e in cc)
    step rest false e (inr there) = rw e (rest there)

-- and only what passes is
pub Contains-filter_passes : {X : Type 0} (p : X → Bool) (xs : List X) (x : X) → Contains (filter p xs) x → p x ≡ true
Contains-filter_passes p xs x at = All-contains (λ y. p y ≡ true) (filter p xs) x (filter_passes p xs) at

-- a test of some item, where the items come of others
module _ {X Y : Type 0} where
  pub list_any-map : (p : Y → Bool) (f : X → Y) (xs : List X) → list_any p (map f xs) ≡ list_any (λ x. p (f x)) xs
  list_any-map p f [] = refl
  list_any-map p f (x ∷ xs) = ap (λ b. p (f x) || b) (list_any-map p f xs)

  pub list_any-flat_map : (p : Y → Bool) (h : X → List Y) (xs : List X) → list_any p (flat_map h xs) ≡ list_any (λ x. list_any p (h x)) xs
  list_any-flat_map p h [] = refl
  list_any-flat_map p h (x ∷ xs) = list_any-append p (h x) (flat_map h xs) ∙ ap (λ b. list_any p (h x) || b) (list_any-flat_map p h xs)

module _ {X : Type 0} where
  pub list_any-filter : (p q : X → Bool) (xs : List X) → list_any p (filter q xs) ≡ list_any (λ x. q x && p x) xs
  list_any-filter p q [] = refl
  list_any-filter p q (x ∷ xs) = step (q x) refl (list_any-filter p q xs)
    where
      step : (b : Bool) → q x ≡ b → list_any p (filter q xs) ≡ list_any (λ y. q y && p y) xs → list_any p (filter q (x ∷ xs)) ≡ list_any (λ y. q y && p y) (x ∷ xs)
      step true e rest = rw (e, rest) refl
      step false e rest = rw (e, rest) refl

  pub list_any_same : (p q : X → Bool) (xs : List X) → ((x : X) → p x ≡ q x) → list_any p xs ≡ list_any q xs
  list_any_same p q [] same = refl
  list_any_same p q (x ∷ xs) same = rw (same x, list_any_same p q xs same) refl

-- some item passes: which
pub list_any_tells : {X : Type 0} (p : X → Bool) (xs : List X) → list_any p xs ≡ true → (x : X) × Contains xs x × (p x ≡ true)
list_any_tells p [] e = absurd (cc)
list_any_tells {X} p (x ∷ xs) e = step (list_any_tells p xs) (p x) refl
  where
    step : (list_any p xs ≡ true → (y : X) × Contains xs y × (p y ≡ true)) → (b : Bool) → p x ≡ b → (y : X) × Contains (x ∷ xs) y × (p y ≡ true)
    step rest true here = (x, Contains-cons_first x xs, here)
    step rest false none = let found = rest (rw none at e) in (found.0, Contains-cons_later x xs found.0 found.1, found.2)

module _ {X Y : Type 0} where
  -- the members of what is mapped
  pub Contains-map : (f : X → Y) (xs : List X) (x : X) → Contains xs x → Contains (map f xs) (f x)
  Contains-map f [] x at = let lt = at.1 in absurd (omega arith)
  Contains-map f (y ∷ ys) x at = ⊎_elim
      (λ (same : y ≡ x). subst (λ z. Contains (map f (y ∷ ys)) (f z)) same (Contains-cons_first (f y) (map f ys)))
      (λ (there : Contains ys x). Contains-cons_later (f y) (map f ys) (f x) (Contains-map f ys x there))
      (Contains-cons_cases y ys x at)

  pub map-tells : (f : X → Y) (xs : List X) (y : Y) → Contains (map f xs) y → (x : X) × Contains xs x × (f x ≡ y)
  map-tells f [] y at = let lt = at.1 in absurd (omega arith)
  map-tells f (x ∷ xs) y at = ⊎_elim
      (λ (same : f x ≡ y). (x, Contains-cons_first x xs, same))
      (λ (there : Contains (map f xs) y). let found = map-tells f xs y there in (found.0, Contains-cons_later x xs found.0 found.1, found.2))
      (Contains-cons_cases (f x) (map f xs) y at)

  -- the members of the lists that are mapped to
  pub Contains-flat_map : (f : X → List Y) (xs : List X) (x : X) (y : Y) → Contains xs x → Contains (f x) y → Contains (flat_map f xs) y
  Contains-flat_map f [] x y at also = let lt = at.1 in absurd (omega arith)
  Contains-flat_map f (z ∷ zs) x y at also = ⊎_elim
      (λ (same : z ≡ x). Contains-append_left (f z) (flat_map f zs) y (subst (λ w. Contains (f w) y) (sym same) also))
      (λ (there : Contains zs x). Contains-append_right (f z) (flat_map f zs) y (Contains-flat_map f zs x y there also))
      (Contains-cons_cases z zs x at)

  pub flat_map-tells : (f : X → List Y) (xs : List X) (y : Y) → Contains (flat_map f xs) y → (x : X) × Contains xs x × Contains (f x) y
  flat_map-tells f [] y at = let lt = at.1 in absurd (omega arith)
  flat_map-tells f (x ∷ xs) y at = ⊎_elim
      (λ (here : Contains (f x) y). (x, Contains-cons_first x xs, here))
      (λ (there : Contains (flat_map f xs) y). let found = flat_map-tells f xs y there in (found.0, Contains-cons_later x xs found.0 found.1, found.2))
      (Contains-append_cases (f x) (flat_map f xs) y at)

module _ {X : Type 0} where
  -- what a filter keeps was there
  pub filter-tells : (p : X → Bool) (xs : List X) (x : X) → Contains (filter p xs) x → Contains xs x
  filter-tells p [] x at = at
  filter-tells p (y ∷ ys) x at = step (p y) at (filter-tells p ys x)
    where
      step : (b : Bool) → Contains (if b then y ∷ filter p ys else filter p ys) x → (Contains (filter p ys) x → Contains ys x) → Contains (y ∷ ys) x
      step true here later = ⊎_elim
          (λ (same : y ≡ x). subst (Contains (y ∷ ys)) same (Contains-cons_first y ys))
          (λ (there : Contains (filter p ys) x). Contains-cons_later y ys x (later there))
          (Contains-cons_cases y (filter p ys) x here)
      step false there later = Contains-cons_later y ys x (later there)

  -- one passes
  pub any_passes : (p : X → Bool) (xs : List X) (x : X) → Contains xs x → p x ≡ true → list_any p xs ≡ true
  any_passes p [] x at hit = let lt = at.1 in absurd (omega arith)
  any_passes p (y ∷ ys) x at hit = ⊎_elim
      (λ (same : y ≡ x). rw (ap p same ∙ hit) refl)
      (λ (there : Contains ys x). later (p y) (any_passes p ys x there hit))
      (Contains-cons_cases y ys x at)
    where
      later : (b : Bool) → list_any p ys ≡ true → (b || list_any p ys) ≡ true
      later true rest = refl
      later false rest = rest

  -- nothing is found where none passes
  pub find_none : (p : X → Bool) (xs : List X) → All (λ x. p x ≡ false) xs → find p xs ≡ None
  find_none p [] all = refl
  find_none p (x ∷ xs) all = rw (All-head (λ y. p y ≡ false) x xs all) (find_none p xs (All-tail (λ y. p y ≡ false) x xs all))

  -- what is found is the first that a filter keeps
  pub find-filter : (p : X → Bool) (xs : List X) → find p xs ≡ slice_get (filter p xs) 0
  find-filter p [] = refl
  find-filter p (x ∷ xs) = ⊎_elim (λ (hit : p x ≡ true). rw hit refl) (λ (miss : p x ≡ false). rw miss (find-filter p xs)) (cases_Bool (p x))

  -- two filters are one
  pub filter-filter : (p q : X → Bool) (xs : List X) → filter p (filter q xs) ≡ filter (λ x. p x && q x) xs
  filter-filter p q [] = refl
  filter-filter p q (x ∷ xs) = step (p x) refl (q x) refl (filter-filter p q xs)
    where
      step : (a : Bool) → p x ≡ a → (b : Bool) → q x ≡ b → filter p (filter q xs) ≡ filter (λ y. p y && q y) xs → filter p (filter q (x ∷ xs)) ≡ filter (λ y. p y && q y) (x ∷ xs)
      step true hit true also rest = rw (also, hit) (ap (λ ys. x ∷ ys) rest)
      step true hit false miss rest = rw (miss, hit) rest
      step false miss true also rest = rw (also, miss) rest
      step false miss false too rest = rw (too, miss) rest

module _ {X Y : Type 0} where
  -- a filter of what is mapped
  pub filter-map : (p : Y → Bool) (f : X → Y) (xs : List X) → filter p (map f xs) ≡ map f (filter (λ x. p (f x)) xs)
  filter-map p f [] = refl
  filter-map p f (x ∷ xs) = ⊎_elim (λ (hit : p (f x) ≡ true). rw hit (ap (λ ys. f x ∷ ys) (filter-map p f xs))) (λ (miss : p (f x) ≡ false). rw miss (filter-map p f xs)) (cases_Bool (p (f x)))

module _ {X : Type 0} where
  -- what is found stands at some place, and nothing passes before it
  pub record IsFound (p : X → Bool) (xs : List X) (x : X) : Type 0 where
    pub at : ℕ
    pub got : slice_get xs at ≡ Some x
    pub passes : p x ≡ true
    pub earlier : (k : ℕ) (y : X) → k < at → slice_get xs k ≡ Some y → p y ≡ false

  pub find-tells : (p : X → Bool) (xs : List X) (x : X) → find p xs ≡ Some x → IsFound p xs x
  find-tells p [] x e = absurd (none-some x e)
  find-tells p (y ∷ ys) x e = step (p y) refl (find-tells p ys x)
    where
      step : (b : Bool) → p y ≡ b → (find p ys ≡ Some x → IsFound p ys x) → IsFound p (y ∷ ys) x
      step true hit later =
          let here : Some y ≡ Some x = rw hit at e in
          let same = same_Some y x here in
          record { at = 0; got = here; passes = subst (λ z. p z ≡ true) same hit; earlier = λ k z lt got. absurd (omega arith) }
      step false miss later =
          let found = later (rw miss at e) in
          record { at = suc found.at; got = found.got; passes = found.passes; earlier = before found }
        where
          before : (found : IsFound p ys x) (k : ℕ) (z : X) → k < suc found.at → slice_get (y ∷ ys) k ≡ Some z → p z ≡ false
          before found zero z lt got = subst (λ w. p w ≡ false) (same_Some y z got) miss
          before found (suc k) z lt got = found.earlier k z (omega arith) got

-- where an item passes, one is found
pub find-some : {X : Type 0} (p : X → Bool) (xs : List X) (x : X) → Contains xs x → p x ≡ true → find p xs ≡ None → ⊥
find-some p [] x at hit none = let lt = at.1 in omega arith
find-some p (y ∷ ys) x at hit none = step (p y) refl (λ there. find-some p ys x there hit) (Contains-cons_cases y ys x at) none
  where
    step : (b : Bool) → p y ≡ b → (Contains ys x → find p ys ≡ None → ⊥) → (y ≡ x) ⊎ Contains ys x → find p (y ∷ ys) ≡ None → ⊥
    step true here later in_list e = none-some y (sym (rw here at e))
    step false miss later (inl same) e = let no : true ≡ false = sym hit ∙ ap p (sym same) ∙ miss in cc
    step false miss later (inr there) e = later there (rw miss at e)

-- where no item passes a test, none passes it and another
pub none_of_both : {X : Type 0} (p q : X → Bool) (xs : List X) → list_any p xs ≡ false → list_any (λ x. p x && q x) xs ≡ false
none_of_both p q [] none = refl
none_of_both p q (x ∷ xs) none = step (p x) refl (none_of_both p q xs)
  where
    step : (b : Bool) → p x ≡ b → (list_any p xs ≡ false → list_any (λ y. p y && q y) xs ≡ false) → list_any (λ y. p y && q y) (x ∷ xs) ≡ false
    step true e rest = absurd (let wrong : true ≡ false = rw e at none in cc)
    step false e rest = rw (e, rest (rw e at none)) refl

-- the first that passes, by its place
pub position_below : {X : Type 0} (p : X → Bool) (xs : List X) (d : X) → position p xs ≡ find_below (length xs) (λ i. p (get_or xs i d))
position_below p xs d = step (position p xs) refl
  where
    step : (found : Option ℕ) → position p xs ≡ found → position p xs ≡ find_below (length xs) (λ i. p (get_or xs i d))
    step (Some i) e = let at = position-Some p xs i d e in e ∙ sym (find_below_hit (λ k. p (get_or xs k d)) (length xs) i (record { within = at.0; passes = at.1; earlier = at.2 }))
    step None e = e ∙ sym (find_below_none (λ k. p (get_or xs k d)) (length xs) (λ k lt. fails_before_first p xs k d (grind (arith, common_steps))))

-- one passes where one has a place
pub any_placed : {X : Type 0} (p : X → Bool) (xs : List X) (d : X) → list_any p xs ≡ is_some (position p xs)
any_placed p xs d = step (position p xs) refl
  where
    step : (found : Option ℕ) → position p xs ≡ found → list_any p xs ≡ is_some (position p xs)
    step (Some i) e = let at = position-Some p xs i d e in list_any_at p xs i d at.0 at.1 ∙ sym (ap is_some e)
    step None e = list_any_none p xs (λ k d lt. fails_before_first p xs k d (grind (arith, common_steps))) ∙ sym (ap is_some e)

-- What is said of the numbers below a bound, and of a list place by place. What goes by number peels the last, so that a loop
-- which counts up meets it step by step.
use Rattle.std.specs.Prelude.{ℕ, zero, suc, Bool, true, ◌&&◌, false, ◌||◌, ℤ, pos, ◌+ℤ◌, ◌+◌, if◌then◌else◌, List, [], ◌∷◌, ◌++◌, Option, Some, option_map, option_and_then, None, slice_get, length}
use Rattle.std.specs.Option.{option_or}
use Rattle.plain_laws.specs.Optional.{when, at_and}

-- the test holds at every number below n
abbrev pub all_below : ℕ → (ℕ → Bool) → Bool
all_below zero test = true
all_below (suc n) test = all_below n test && test n

-- the test holds at some number below n
abbrev pub any_below : ℕ → (ℕ → Bool) → Bool
any_below zero test = false
any_below (suc n) test = any_below n test || test n

-- the sum of f at the numbers below n
abbrev pub sum_below : ℕ → (ℕ → ℤ) → ℤ
sum_below zero f = pos 0
sum_below (suc n) f = sum_below n f +ℤ f n

-- how many numbers below n pass the test
abbrev pub count_below : ℕ → (ℕ → Bool) → ℕ
count_below zero test = 0
count_below (suc n) test = count_below n test + (if test n then 1 else 0)

-- what f gives at the numbers below n, in order
abbrev pub list_below : {X : Type 0} → ℕ → (ℕ → X) → List X
list_below zero f = []
list_below (suc n) f = list_below n f ++ f n ∷ []

-- what f gives at the numbers below n that pass the test, in order
abbrev pub picks_below : {X : Type 0} → ℕ → (ℕ → Bool) → (ℕ → X) → List X
picks_below zero test f = []
picks_below (suc n) test f = picks_below n test f ++ (if test n then f n ∷ [] else [])

-- the lists that f gives at the numbers below n, one after another
abbrev pub joined_below : {X : Type 0} → ℕ → (ℕ → List X) → List X
joined_below zero f = []
joined_below (suc n) f = joined_below n f ++ f n

-- what f gives at the numbers below n, in order, where it gives something at each
abbrev pub collect_below : {X : Type 0} → ℕ → (ℕ → Option X) → Option (List X)
collect_below zero f = Some []
collect_below (suc n) f = option_and_then (λ xs. option_map (λ x. xs ++ x ∷ []) (f n)) (collect_below n f)

-- the first that f gives at the numbers below n
abbrev pub first_below : {X : Type 0} → ℕ → (ℕ → Option X) → Option X
first_below zero f = None
first_below (suc n) f = option_or (first_below n f) (f n)

-- the first that f gives at the items of a list
abbrev pub first_in : {X Y : Type 0} → List Y → (Y → Option X) → Option X
first_in ys f = first_below (length ys) (λ i. option_and_then f (slice_get ys i))

-- the first number below n that passes the test
abbrev pub find_below : ℕ → (ℕ → Bool) → Option ℕ
find_below n test = first_below n (λ i. when (test i) i)

-- the last number below n that passes the test
abbrev pub last_below : ℕ → (ℕ → Bool) → Option ℕ
last_below zero test = None
last_below (suc n) test = if test n then Some n else last_below n test

-- the numbers of the rows that pass the test, in file order, each as an id
abbrev pub ids_where : {X I : Type 0} → (ℕ → I) → (X → Bool) → List X → List I
ids_where id test rows = picks_below (length rows) (λ i. at_and rows i test) id

-- Labels in ascending order of height.
use Rattle.std.proofs.Common.{◌≡◌, sym, subst, ap, ℕ, ◌<◌, ◌≤◌, ◌⊎◌, inl, inr, Bool, true, false, List, length, get_or, take, drop, All, AllPairs, ◌+◌, ◌-◌, ◌*◌, ◌%◌, ◌^◌, ℤ, ◌≤ℤ◌, ◌<ℤ◌, arith}
use Rattle.std.specs.List.{HoldsAt}
use Rattle.std.proofs.lemmas.Bool.{cases_eq, cases_lt, cases_Bool}
use Rattle.std.proofs.lemmas.Int.{ints}
use Rattle.std.proofs.lemmas.Nat.{pow-add, pow_below}
use Rattle.std.proofs.Math.Nat.{mod-eq_of_lt}
use Rattle.std.proofs.lemmas.List.{get_or-take, get_or-drop, length-take, length-drop, take-append-drop}
use Rattle.std.proofs.lemmas.List.Elements.{All-append, All-weaker}
use Rattle.label_order.specs.Labels.{StairLaws}
use Rattle.label_bag.specs.Bags.{IsUncovered}

-- a power of two is twice the one below it
pub double : (k : ℕ) → 2 ^ (k + 1) ≡ 2 ^ k + 2 ^ k
double k = omega (arith, pow-add 2 k 1)

-- a bit that is shifted within the width loses nothing
pub shifted : (b k : ℕ) → b ≤ 1 → k < 64 → (b * 2 ^ k) % 2 ^ 64 ≡ b * 2 ^ k
shifted b k bit low = mod-eq_of_lt (by (cases_eq b 0))
  where
    by : (b ≡ 0) ⊎ (b ≡ 0 → ⊥) → b * 2 ^ k < 2 ^ 64
    by (inl zero) = subst (λ n. n * 2 ^ k < 2 ^ 64) (sym zero) (omega arith)
    by (inr some) = let one : b ≡ 1 = omega arith in subst (λ n. n * 2 ^ k < 2 ^ 64) (sym one) (omega (arith, pow_below k 64 low))

module _ {X : Type 0} (height_of : X → ℤ) where
  abbrev Rising : List X → Type 0
  Rising xs = AllPairs (λ x y. height_of x ≤ℤ height_of y) xs

  -- no later one is lower
  not_lower : (xs : List X) (i j : ℕ) (d : X) → Rising xs → i ≤ j → j < length xs → height_of (get_or xs i d) ≤ℤ height_of (get_or xs j d)
  not_lower xs i j d rises le lt = by (cases_eq i j)
    where
      by : (i ≡ j) ⊎ (i ≡ j → ⊥) → height_of (get_or xs i d) ≤ℤ height_of (get_or xs j d)
      by (inl same) = let level = ap (λ k. height_of (get_or xs k d)) same in omega (arith, ints, level)
      by (inr apart) = rises i j d (omega arith) lt

module _ {X : Type 0} (height_of : X → ℤ) (xs : List X) (t : ℤ) where
  -- so many are at most t for sure, and of the next ones up to a width it is open
  pub record IsOpen (start width : ℕ) : Type 0 where
    pub fits : start + width ≤ length xs
    pub up_to : (k : ℕ) (d : X) → k < start → height_of (get_or xs k d) ≤ℤ t
    pub higher : (k : ℕ) (d : X) → start + width ≤ k → k < length xs → t <ℤ height_of (get_or xs k d)

  module _ (rises : Rising height_of xs) (b i : ℕ) (bit : b ≤ 1) (inside : i < length xs)
      (low : b ≡ 1 → HoldsAt (λ m. height_of m ≤ℤ t) xs i) (high : b ≡ 0 → HoldsAt (λ m. t <ℤ height_of m) xs i) where
    -- what the test at one place tells of those before it, or of those behind it
    before : b ≡ 1 → (k : ℕ) (d : X) → k ≤ i → height_of (get_or xs k d) ≤ℤ t
    before one k d le = let up = not_lower height_of xs k i d rises le inside in let here = low one d in omega (arith, ints, up, here)

    behind : b ≡ 0 → (k : ℕ) (d : X) → i ≤ k → k < length xs → t <ℤ height_of (get_or xs k d)
    behind zero k d le lt = let up = not_lower height_of xs i k d rises le lt in let here = high zero d in omega (arith, ints, up, here)

    by_bit : {P : Type 0} → (b ≡ 0 → P) → (b ≡ 1 → P) → P
    by_bit {P} at_zero at_one = by (cases_eq b 0)
      where
        by : (b ≡ 0) ⊎ (b ≡ 0 → ⊥) → P
        by (inl zero) = at_zero zero
        by (inr some) = at_one (omega arith)

    -- a first stretch, more than half of all
    pub open-first : (half : ℕ) → i + 1 ≡ half → half ≤ length xs → length xs < half + half → IsOpen (b * (length xs - half)) half
    open-first half last fits more =
        by_bit
        (λ zero. subst (λ n. IsOpen (n * (length xs - half)) half) (sym zero)
        (record { fits = omega arith; up_to = λ k d lt. absurd (omega arith); higher = λ k d le lt. behind zero k d (omega arith) lt }))
        (λ one. subst (λ n. IsOpen (n * (length xs - half)) half) (sym one)
        (record { fits = omega arith; up_to = λ k d lt. before one k d (omega arith); higher = λ k d le lt. absurd (omega arith) }))

    -- half of a stretch
    pub open-half : (start half : ℕ) → i + 1 ≡ start + half → IsOpen start (half + half) → IsOpen (start + b * half) half
    open-half start half last was =
        let fits = was.fits in
        by_bit
        (λ zero. subst (λ n. IsOpen (start + n * half) half) (sym zero)
        (record { fits = omega (arith, fits); up_to = λ k d lt. was.up_to k d (omega arith); higher = λ k d le lt. behind zero k d (omega arith) lt }))
        (λ one. subst (λ n. IsOpen (start + n * half) half) (sym one)
        (record { fits = omega (arith, fits); up_to = λ k d lt. before one k d (omega arith); higher = λ k d le lt. was.higher k d (omega arith) lt }))

    -- a stretch of one
    pub open-last : IsOpen i 1 → IsOpen (i + b) 0
    open-last was =
        let fits = was.fits in
        by_bit
        (λ zero. subst (λ n. IsOpen (i + n) 0) (sym zero)
        (record { fits = omega (arith, fits); up_to = λ k d lt. was.up_to k d (omega arith); higher = λ k d le lt. behind zero k d (omega arith) lt }))
        (λ one. subst (λ n. IsOpen (i + n) 0) (sym one)
        (record { fits = omega (arith, fits); up_to = λ k d lt. before one k d (omega arith); higher = λ k d le lt. was.higher k d (omega arith) lt }))

  -- where nothing is open
  pub up_to-open : (n : ℕ) → IsOpen n 0 → All (λ m. height_of m ≤ℤ t) (take n xs)
  up_to-open n point k d lt =
      let low : k < n = omega (arith, length-take n xs) in
      subst (λ m. height_of m ≤ℤ t) (sym (get_or-take n xs k d low)) (point.up_to k d low)

  pub higher-open : (n : ℕ) → IsOpen n 0 → All (λ m. t <ℤ height_of m) (drop n xs)
  higher-open n point k d lt =
      subst (λ m. t <ℤ height_of m) (sym (get_or-drop n xs k d)) (point.higher (n + k) d (omega arith) (omega (arith, length-drop n xs)))

  -- where one is lower, all up to it are
  pub lower-up_to : Rising height_of xs → (i : ℕ) → i < length xs → HoldsAt (λ m. height_of m <ℤ t) xs i → All (λ m. height_of m <ℤ t) (take (i + 1) xs)
  lower-up_to rises i inside here k d lt =
      let low : k < i + 1 = omega (arith, length-take (i + 1) xs) in
      let up = not_lower height_of xs k i d rises (omega arith) inside in
      let last = here d in
      subst (λ m. height_of m <ℤ t) (sym (get_or-take (i + 1) xs k d low)) (omega (arith, ints, up, last))

  -- those from a place on, where those from a later one on are higher
  pub others-from : (i n : ℕ) → ((k : ℕ) (d : X) → i ≤ k → k < n → t ≤ℤ height_of (get_or xs k d)) → All (λ m. t <ℤ height_of m) (drop n xs) → All (λ m. t ≤ℤ height_of m) (drop i xs)
  others-from i n near far k d lt = subst (λ m. t ≤ℤ height_of m) (sym (get_or-drop i xs k d)) (by (cases_lt (i + k) n))
    where
      by : (i + k < n) ⊎ (n ≤ i + k) → t ≤ℤ height_of (get_or xs (i + k) d)
      by (inl low) = near (i + k) d (omega arith) low
      by (inr past) =
          let here = far (i + k - n) d (omega (arith, length-drop i xs, length-drop n xs)) in
          let back : n + (i + k - n) ≡ i + k = omega arith in
          let there = subst (λ j. t <ℤ height_of (get_or xs j d)) back (subst (λ m. t <ℤ height_of m) (get_or-drop n xs (i + k - n) d) here) in
          omega (arith, ints, there)

module _ {X C : Type 0} (at_most : X → X → Bool) (same : C → C → Bool) (class_of : X → C) (height_of : X → ℤ) (laws : StairLaws at_most same class_of height_of) where
  -- what is higher than a label isn't at most it
  pub higher-apart : (m e : X) → height_of e <ℤ height_of m → at_most m e ≡ false
  higher-apart m e above = by (cases_Bool (at_most m e))
    where
      by : (at_most m e ≡ true) ⊎ (at_most m e ≡ false) → at_most m e ≡ false
      by (inl below) = let low = laws.height m e below in absurd (omega (arith, ints, low))
      by (inr apart) = apart

  -- where none of those that aren't higher covers a label, none does
  pub uncovered-higher : (xs : List X) (e : X) (n : ℕ) → All (λ m. height_of e <ℤ height_of m) (drop n xs) → IsUncovered at_most (take n xs) e → IsUncovered at_most xs e
  uncovered-higher xs e n higher bare =
      subst (λ zs. IsUncovered at_most zs e) (take-append-drop n xs)
      (All-append (λ m. at_most m e ≡ false) _ _ bare (All-weaker (λ m. height_of e <ℤ height_of m) (λ m. at_most m e ≡ false) (λ m. higher-apart m e) _ higher))

-- Timed rows in their order: where no time falls from a row to the nearest timed one after it, none falls to any later one.
use Rattle.std.proofs.Common.{◌≡◌, refl, ℕ, zero, suc, ◌+◌, ◌*◌, ◌<◌, ◌≤◌, Bool, true, false, ◌&&◌, mul-le-mul_right, arith}
use Rattle.std.specs.Prelude.{Option, Some, None, is_some}
use Rattle.std.specs.Option.{ForSome}
use Rattle.std.proofs.lemmas.Bool.{and_parts}
use Rattle.plain_laws.specs.Plain.{any_below}
use Rattle.plain_laws.proofs.Laws.{any_below_tells}

-- where both times are there, the one is at most the other
abbrev pub AtMost : Option ℕ → Option ℕ → Type 0
AtMost a b = ForSome a (λ x. ForSome b (λ y. x ≤ y))

-- through a time between
between : (a b c d : Option ℕ) → is_some b ≡ true → is_some c ≡ true → AtMost a b → AtMost b c → AtMost c d → AtMost a d
between a None c d there other one two three x is y ends = absurd (cc)
between a (Some p) None d there other one two three x is y ends = absurd (cc)
between a (Some p) (Some q) d there other one two three x is y ends =
    let low = one x is p refl in
    let middle = two p refl q refl in
    let high = three q refl y ends in
    omega arith

-- rows that have an order, some of them timed
pub record AreRows (n : ℕ) (before : ℕ → ℕ → Bool) (rank : ℕ → ℕ) (first last : ℕ → Option ℕ) (timed : ℕ → Bool) : Type 0 where
  pub ranked : (i j : ℕ) → i < n → j < n → before i j ≡ true → rank i < rank j
  pub firsts : (i : ℕ) → i < n → timed i ≡ true → is_some (first i) ≡ true
  pub lasts : (i : ℕ) → i < n → timed i ≡ true → is_some (last i) ≡ true
  pub within : (i : ℕ) → i < n → AtMost (first i) (last i)
  pub nearest : (i j : ℕ) → i < n → j < n → before i j ≡ true → timed i ≡ true → any_below n (λ o. before i o && before o j && timed o) ≡ false → AtMost (last i) (first j)

-- the last time of a timed row is at most the first of each row after it
pub never_falls : (n : ℕ) (before : ℕ → ℕ → Bool) (rank : ℕ → ℕ) (first last : ℕ → Option ℕ) (timed : ℕ → Bool) → AreRows n before rank first last timed
    → (most i j : ℕ) → i < n → j < n → rank j < rank i + most → timed i ≡ true → before i j ≡ true → AtMost (last i) (first j)
never_falls n before rank first last timed are zero i j lt within gap here then = let less = are.ranked i j lt within then in absurd (omega arith)
never_falls n before rank first last timed are (suc most) i j lt within gap here then =
    step (any_below n (λ o. before i o && before o j && timed o)) refl
    (λ a b a_in b_in near is_timed is_before. never_falls n before rank first last timed are most a b a_in b_in near is_timed is_before)
  where
    step : (b : Bool) → any_below n (λ o. before i o && before o j && timed o) ≡ b
        → ((a b : ℕ) → a < n → b < n → rank b < rank a + most → timed a ≡ true → before a b ≡ true → AtMost (last a) (first b)) → AtMost (last i) (first j)
    step false none shorter = are.nearest i j lt within then here none
    step true some shorter =
        let found = any_below_tells (λ o. before i o && before o j && timed o) n some in
        let o = found.0 in
        let o_in : o < n = found.1 in
        let one = and_parts (before i o && before o j) (timed o) found.2 in
        let two = and_parts (before i o) (before o j) one.0 in
        let left = are.ranked i o lt o_in two.0 in
        let right = are.ranked o j o_in within two.1 in
        between (last i) (first o) (last o) (first j) (are.firsts o o_in one.1) (are.lasts o o_in one.1)
        (shorter i o lt o_in (omega arith) here two.0) (are.within o o_in) (shorter o j o_in within (omega arith) one.1 two.1)

-- rows by a first number, and where it is the same by their place
pub rank_rises : (n one other i j : ℕ) → i < n → one < other → one * n + i < other * n + j
rank_rises n one other i j lt less =
    let le : suc one ≤ other = omega arith in
    let more = mul-le-mul_right n le in
    let step : suc one * n ≡ one * n + n = omega arith in
    omega arith

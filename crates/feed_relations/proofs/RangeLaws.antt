-- What passes a test among the numbers below one, as `any` over a range tells it.
use Rattle.std.proofs.Common.{◌≡◌, refl, sym, ◌∙◌, ℕ, zero, suc, ◌+◌, [], ◌∷◌, ◌++◌, map, Bool, true, false, arith}
use Rattle.std.specs.Prelude.{◌||◌}
use Rattle.std.specs.List.{list_any, range_with_len}
use Rattle.std.proofs.lemmas.List.{append-nil, append_assoc}
use Rattle.plain_laws.specs.Plain.{any_below, list_below}

grouped : (a b c : Bool) → ((a || b) || c) ≡ (a || (b || c))
grouped true b c = refl
grouped false b c = refl

or_none : (a : Bool) → a ≡ (a || false)
or_none true = refl
or_none false = refl

from_on : (test : ℕ → Bool) (a n : ℕ) → any_below (a + n) test ≡ (any_below a test || list_any test (range_with_len a n))
from_on test a zero = let e : a + 0 ≡ a = omega arith in rw e (or_none (any_below a test))
from_on test a (suc n) =
    let e : a + suc n ≡ (a + 1) + n = omega arith in
    let next : a + 1 ≡ suc a = omega arith in
    rw e (from_on test (a + 1) n ∙ rw next (grouped (any_below a test) (test a) (list_any test (range_with_len (suc a) n))))

-- some number of a range passes
pub any_of_range : (test : ℕ → Bool) (n : ℕ) → list_any test (range_with_len 0 n) ≡ any_below n test
any_of_range test n = let e : 0 + n ≡ n = omega arith in sym (rw e at (from_on test 0 n))

list_on : {X : Type 0} (f : ℕ → X) (a n : ℕ) → list_below (a + n) f ≡ list_below a f ++ map f (range_with_len a n)
list_on f a zero = let e : a + 0 ≡ a = omega arith in rw e (sym (append-nil (list_below a f)))
list_on f a (suc n) =
    let e : a + suc n ≡ (a + 1) + n = omega arith in
    let next : a + 1 ≡ suc a = omega arith in
    rw e (list_on f (a + 1) n ∙ rw next (append_assoc (list_below a f) (f a ∷ []) (map f (range_with_len (suc a) n))))

-- what is told of each number of a range
pub list_of_range : {X : Type 0} (f : ℕ → X) (n : ℕ) → map f (range_with_len 0 n) ≡ list_below n f
list_of_range f n = let e : 0 + n ≡ n = omega arith in sym (rw e at (list_on f 0 n))

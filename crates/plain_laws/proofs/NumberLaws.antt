-- What tests of numbers and of bytes tell.
use Rattle.std.proofs.Common.{◌<ℤ◌, arith, ◌≡◌, true, ℤ, int_lt, false, ◌≤ℤ◌, ℕ, List, refl}
use Rattle.std.proofs.lemmas.Int.{ints}
use Rattle.plain_laws.proofs.OrderLaws.{IsStrictOrder}
use Rattle.plain_laws.specs.Numbers.{int_same}
use Rattle.std.specs.Prelude.{int_le, bytes_eq, ◌==◌, ◌&&◌}
use Rattle.std.proofs.lemmas.Slice.Eq.{bytes_eq-Decides}
use Rattle.std.proofs.lemmas.Bool.Decides.{nat_tests, Decides-int_eq}
use Rattle.std.specs.Ordering.{int_eq, ordering_then, is_eq, nat_cmp}
use Rattle.plain_laws.proofs.TestLaws.{same_test}
use Rattle.std.specs.declared.cmp.Ordering.{Ordering}
use Rattle.std.specs.declared.cmp.Ordering.TheVariants.{Less, Equal, Greater}

-- to be less is a strict order
pub less_order : IsStrictOrder ◌<ℤ◌
less_order = record { irreflexive = λ x lt. omega (arith, ints); transitive = λ x y z a b. omega (arith, ints) }

-- what the tests on numbers tell
pub int_lt-true : (a b : ℤ) → int_lt a b ≡ true → a <ℤ b
int_lt-true a b e = grind (arith, ints)

pub int_same-true : (a b : ℤ) → int_same a b ≡ true → a ≡ b
int_same-true a b e = grind (arith, ints)

pub eq-int_same : (a b : ℤ) → a ≡ b → int_same a b ≡ true
eq-int_same a b e = grind (arith, ints)

pub int_above : (a b : ℤ) → int_lt a b ≡ false → int_same a b ≡ false → b <ℤ a
int_above a b e f = grind (arith, ints)

pub int_le-true : (x y : ℤ) → int_le x y ≡ true → x ≤ℤ y
int_le-true x y h = grind (arith, ints)

pub le-int_le : (x y : ℤ) → x ≤ℤ y → int_le x y ≡ true
le-int_le x y h = grind (arith, ints)

-- equal texts
pub bytes_eq-true : (a b : List ℕ) → bytes_eq a b ≡ true → a ≡ b
bytes_eq-true a b e = (bytes_eq-Decides a b).0 e

pub eq-bytes_eq : (a b : List ℕ) → a ≡ b → bytes_eq a b ≡ true
eq-bytes_eq a b e = (bytes_eq-Decides a b).1 e

pub eqb_turn : (a b : ℕ) → (a == b) ≡ (b == a)
eqb_turn a b = grind (arith, nat_tests)

-- equal days
pub int_eq-int_same : (a b : ℤ) → int_eq a b ≡ int_same a b
int_eq-int_same a b = same_test (int_eq a b) (int_same a b) (λ e. eq-int_same a b ((Decides-int_eq a b).0 e)) (λ e. (Decides-int_eq a b).1 (int_same-true a b e))

-- what is compared part by part is equal where each part is
pub then_equal : (o p : Ordering) → is_eq (ordering_then o p) ≡ (is_eq o && is_eq p)
then_equal Less p = refl
then_equal Equal p = refl
then_equal Greater p = refl

pub number_equal : (a b : ℕ) → is_eq (nat_cmp a b) ≡ (a == b)
number_equal a b = grind (arith, nat_tests)

-- Moments and prices compared.
use Rattle.std.proofs.Common.{ℤ, ◌≤ℤ◌, arith}
use Rattle.std.proofs.lemmas.Int.{ints}

pub as_much : (z : ℤ) → z ≤ℤ z
as_much z = omega (arith, ints)

pub no_more : (x y z : ℤ) → x ≤ℤ y → y ≤ℤ z → x ≤ℤ z
no_more x y z p q = omega (arith, ints, p, q)

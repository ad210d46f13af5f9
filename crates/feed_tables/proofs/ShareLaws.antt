-- A share of a number.
use Rattle.std.proofs.Common.{lit<, ℕ, ◌*◌, ◌-◌, ◌^◌, ◌<◌, ◌≤◌, arith}
use Rattle.std.specs.Prelude.{◌/◌}
use Rattle.std.proofs.lemmas.Nat.{mul-le, div_below}

-- a number of 32 bits goes by less than all of them
pub share_below : (share all : ℕ) → share < 2 ^ 32 → 1 ≤ all → share * all / 2 ^ 32 < all
share_below share all low some =
    let most = mul-le share all (2 ^ 32 - 1) all (omega (arith, low)) (omega arith) in
    div_below (share * all) (2 ^ 32) all (lit< tt) (omega (arith, most))

-- and times such a number it fits
pub share_fits : (share all : ℕ) → share < 2 ^ 32 → all < 2 ^ 32 → share * all < 2 ^ 64
share_fits share all low few =
    let most = mul-le share all (2 ^ 32 - 1) (2 ^ 32 - 1) (omega (arith, low)) (omega (arith, few)) in
    omega (arith, most)

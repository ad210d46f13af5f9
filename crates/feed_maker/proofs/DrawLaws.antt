-- The draws of a route are two of those from the seed.
use Rattle.std.proofs.Common.{◌≡◌, refl, ℕ, suc, ◌+◌, ◌*◌, arith}
use Rattle.feed_rows.specs.GeneratedFeed.{drawn}
use Rattle.feed_maker.specs.Draws.{number_after, pace_after, pace_of}

-- the pace that is drawn for route i
pub pace_drawn : (seed i : ℕ) → pace_after (drawn seed (2 * i)) ≡ pace_of seed i
unfolding number_after pace_after pace_of
pace_drawn seed i =
    let first : 2 * i + 1 ≡ suc (2 * i) = omega arith in
    let second : 2 * i + 2 ≡ suc (suc (2 * i)) = omega arith in
    rw (first, second) refl

-- where the draws of the next route begin
pub next_drawn : (seed i : ℕ) → number_after (number_after (drawn seed (2 * i))) ≡ drawn seed (2 * (i + 1))
unfolding number_after
next_drawn seed i = let second : 2 * (i + 1) ≡ suc (suc (2 * i)) = omega arith in rw second refl

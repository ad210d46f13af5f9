use Rattle.std.proofs.Common.{◌≡◌, ◌*◌, ◌^◌, take}
use Rattle.std.specs.Prelude.{◌≤ℤ◌, pos, neg_ℤ}
use Rattle.answer_page.specs.Readings.{fares_sum}
use Rattle.answer_page.proofs.reading.fares_sum.Given as goal

abbrev pub invariant-loop-fare : goal.invariant-loop-fare
invariant-loop-fare l =
    (l.sum ≡ fares_sum (take l.fare-index l.fares))
    × (neg_ℤ (pos (l.fare-index * 2 ^ 63)) ≤ℤ l.sum)
    × (l.sum ≤ℤ pos (l.fare-index * 2 ^ 63))

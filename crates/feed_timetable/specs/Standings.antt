-- Where a traveller stands, as the definitions see it.
use Rattle.std.specs.Prelude.{List, All, ℤ, ◌≤ℤ◌, negsuc, pos, ◌^◌}
use Rattle.feed_rows.specs.Limits.{least_shift, most_shift}
use Rattle.feed_rows.specs.JourneyStands.{Stand}
use Rattle.feed_timetable.specs.declared.standing.Standing.{Standing}

-- the stand
abbrev pub stand_of : Standing → Stand
stand_of standing = record { stop = standing.stop; at = standing.at.0; fresh = standing.fresh }

-- the moment lies within 2^50 seconds of 1970
pub record IsNear (standing : Standing) : Type 0 where
  pub low : negsuc (2 ^ 50) ≤ℤ standing.at.0
  pub high : standing.at.0 ≤ℤ pos (2 ^ 50)

-- the seconds by which runs are shifted are fewer than a service day's times may be
abbrev pub AreShifts : List ℤ → Type 0
AreShifts shifts = All (λ z. (least_shift ≤ℤ z) × (z ≤ℤ most_shift)) shifts

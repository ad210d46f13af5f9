-- The parts of a moment.
use Rattle.std.proofs.Common.{◌≡◌, ℕ, ◌<◌, arith, ℤ, pos}
use Rattle.transit_base.specs.Limits.{day_seconds}
use Rattle.jiff_core.proofs.SignedLemmas.{signed_arith, int_div_euclid-parts, int_rem_euclid-parts}
use Rattle.transit_base.specs.Moments.{moment_at, civil_day, time_of_day}

-- a civil day has 86,400 seconds
pub time_of_day_bound : (moment : ℤ) → time_of_day moment < day_seconds
time_of_day_bound moment = omega (arith, signed_arith, int_rem_euclid-parts moment day_seconds (omega arith))

-- a moment is its time of day after the start of its civil day
pub moment_at-parts : (moment : ℤ) → moment_at (civil_day moment) (pos (time_of_day moment)) ≡ moment
moment_at-parts moment = omega (arith, signed_arith, int_rem_euclid-parts moment day_seconds (omega arith))

-- a time of day after the start of a day lies on that day
pub civil_day-moment_at : (day : ℤ) (seconds : ℕ) → seconds < day_seconds → civil_day (moment_at day (pos seconds)) ≡ day
civil_day-moment_at day seconds within = omega (arith, signed_arith, int_div_euclid-parts (moment_at day (pos seconds)) day_seconds (omega arith))

-- and is that time of day
pub time_of_day-moment_at : (day : ℤ) (seconds : ℕ) → seconds < day_seconds → time_of_day (moment_at day (pos seconds)) ≡ seconds
time_of_day-moment_at day seconds within =
    omega (arith, signed_arith, civil_day-moment_at day seconds within, moment_at-parts (moment_at day (pos seconds)))

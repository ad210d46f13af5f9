-- Moments: seconds since 1970-01-01 00:00:00 on the one clock of a feed, on which each civil day has 86,400 seconds.
use Rattle.std.specs.Prelude.{ℕ, ℤ, pos, ◌+ℤ◌, ◌*ℤ◌, unsigned_abs}
use Rattle.std.specs.Int.{int_div_euclid, int_rem_euclid}
use Rattle.transit_base.specs.Limits.{day_seconds}

-- the moment so many seconds after the start of a day
abbrev pub moment_at : ℤ → ℤ → ℤ
moment_at day seconds = day *ℤ pos day_seconds +ℤ seconds

-- the civil day of a moment: the quotient by 86,400, rounded down
abbrev pub civil_day : ℤ → ℤ
civil_day moment = int_div_euclid moment (pos day_seconds)

-- the seconds of a moment since the start of its civil day, from 0 to 86,399
abbrev pub time_of_day : ℤ → ℕ
time_of_day moment = unsigned_abs (int_rem_euclid moment (pos day_seconds))

-- Limits of times, in seconds.
use Rattle.std.specs.Prelude.{ℕ}

-- the length of a civil day, and the latest end of a timeframe: 24:00:00
abbrev pub day_seconds : ℕ
day_seconds = 86_400

-- the greatest time of a trip: 167:59:59 (profile)
abbrev pub most_time : ℕ
most_time = 604_799

-- Limits of feeds and queries.
use Rattle.std.specs.Prelude.{ℕ, ℤ, pos, negsuc}

-- the greatest number of data rows of a file (profile)
abbrev pub most_rows : ℕ
most_rows = 4_000_000

-- the seconds between which each shift lies: those of a feed without a fault differ by less than a week from 0
abbrev pub least_shift : ℤ
least_shift = negsuc 699_999

abbrev pub most_shift : ℤ
most_shift = pos 700_000

-- the most rides that the words of a plan or a price may ask for (profile)
abbrev pub most_rides : ℕ
most_rides = 8

-- the seconds within which a journey arrives where the query doesn't say, and the most that it may say (profile)
abbrev pub usual_window : ℕ
usual_window = 86_400

abbrev pub most_window : ℕ
most_window = 259_200

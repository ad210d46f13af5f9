-- What the words of a command say of numbers, dates and times.
use Rattle.std.specs.Prelude.{ℕ, ◌==◌, Bool, ◌&&◌, nat_le, if◌then◌else◌, List, length, slice_index, slice_range, Option, Some, None, ℤ, pos, negsuc, int_le}
use Rattle.transit_base.specs.Dates.{is_date, day_number}
use Rattle.plain_laws.specs.Plain.{when}
use Rattle.feed_rows.specs.Numerals.{number_value, within}
use Rattle.feed_rows.specs.TimeGrammar.{time_value}

-- a number: one to ten digits without sign
abbrev pub word_number : List ℕ → Option ℕ
word_number word = if nat_le (length word) 10 then number_value word else None

-- the number of an option, from least to most; without the option, the default
abbrev pub option_number : ℕ → ℕ → ℕ → Option (List ℕ) → Option ℕ
option_number default least most None = Some default
option_number default least most (Some word) = within least most (word_number word)

-- the day is one of those from 1900-01-01 to 2999-12-31
abbrev pub is_query_day : ℤ → Bool
is_query_day day = int_le (negsuc 25_566) day && int_le day (pos 376_199)

-- the day of a year, a month and a day of the month, where that date exists
abbrev pub day_value : Option ℕ → Option ℕ → Option ℕ → Option ℤ
day_value (Some year) (Some month) (Some day) = when (is_date year month day) (day_number year month day)
day_value (Some year) (Some month) None = None
day_value (Some year) None day = None
day_value None month day = None

-- the day, where it is one that a query may have
abbrev pub query_day : Option ℤ → Option ℤ
query_day None = None
query_day (Some day) = when (is_query_day day) day

-- DATE: YYYY-MM-DD, an existing date from 1900-01-01 to 2999-12-31
abbrev pub word_date : List ℕ → Option ℤ
word_date word =
    let year = number_value (slice_range word 0 4) in
    let month = number_value (slice_range word 5 7) in
    let day = number_value (slice_range word 8 10) in
    if (length word == 10) && (slice_index word 4 == 45) && (slice_index word 7 == 45)
    then query_day (day_value year month day) else None

-- TIME: a time of at most 23:59:59
abbrev pub word_time : List ℕ → Option ℕ
word_time word = time_value 86_399 word

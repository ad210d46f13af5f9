-- Moments as answers write them, and as the page shows them.
use Rattle.std.specs.Prelude.{ℕ, ◌==◌, ◌&&◌, if◌then◌else◌, List, [], ◌∷◌, length, take, drop, slice_index, slice_range, bytes_eq, codes, Option, None, ℤ, pos}
use Rattle.transit_base.specs.Dates.{is_dated}
use Rattle.transit_base.specs.Moments.{moment_at}
use Rattle.feed_rows.specs.Numerals.{number_value}
use Rattle.feed_rows.specs.TimeGrammar.{time_value}
use Rattle.feed_rows.specs.WordValues.{day_value}
use Rattle.plain_laws.specs.Plain.{given, given_last, when}
use Rattle.answer_page.specs.declared.stamps.Stamp.{Stamp}
use Rattle.answer_page.specs.declared.markup.TheConstants.{TIME}
use Rattle.answer_page.specs.declared.page.Value.TheVariants.{Text}
use Rattle.answer_page.specs.Html.{filled}

-- the day of a date of the form YYYY-MM-DD
unfoldable pub date_in : List ℕ → Option ℤ
date_in text =
    if (length text == 10) && (slice_index text 4 == 45) && (slice_index text 7 == 45)
    then given (day_value (number_value (slice_range text 0 4)) (number_value (slice_range text 5 7)) (number_value (drop 8 text)))
    (λ day. when (is_dated day) day)
    else None

-- the moment of a text whose day and second of the day these are
abbrev pub stamp_of : List ℕ → ℤ → ℕ → Stamp
stamp_of text day second =
    record {
      date = take 10 text;
      minute = slice_range text 11 16;
      second = drop 16 text;
      at = moment_at day (pos second);
    }

-- the moment of a text of the form YYYY-MM-DD HH:MM:SS
unfoldable pub stamp_in : List ℕ → Option Stamp
stamp_in text =
    if (length text == 19) && (slice_index text 10 == 32)
    then given (date_in (take 10 text)) (λ day.
    given_last (time_value 86_399 (drop 11 text)) (λ second. stamp_of text day second))
    else None

-- the seconds, where they aren't 00
abbrev pub seconds_shown : List ℕ → List ℕ
seconds_shown second = if bytes_eq second (codes ":00") then [] else second

-- a date, where it isn't that of the page
abbrev pub other_day : List ℕ → List ℕ → List ℕ
other_day date page_date = if bytes_eq date page_date then [] else date

-- a moment on a page of this date
abbrev pub time_html : Stamp → List ℕ → List ℕ
time_html stamp page_date =
    filled TIME.now
    (Text stamp.date ∷ Text stamp.minute ∷ Text stamp.second ∷ Text stamp.minute ∷ Text (seconds_shown stamp.second)
    ∷ Text (other_day stamp.date page_date) ∷ [])

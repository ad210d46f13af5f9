-- The words that name the rides of the command `price`.
use Rattle.std.specs.Prelude.{ℕ, ◌+◌, ◌==◌, nat_lt, if◌then◌else◌, List, length, take, drop, slice_index, slice_range, Option, Some, None, option_map, ℤ, codes, bytes_eq}
use Rattle.transit_base.specs.Limits.{most_time}
use Rattle.plain_laws.specs.Plain.{given, given_last, when, last_below}
use Rattle.feed_rows.specs.Numerals.{within}
use Rattle.feed_rows.specs.TimeGrammar.{time_value}
use Rattle.feed_rows.specs.WordValues.{word_number, word_date}

-- a ride as a word names it: the id of its trip, its service day, the first departure of its run, in seconds of the service
-- day, where the word gives one, and the stop_sequence values of its boarding and its alighting
pub record RideWord : Type 0 where
  pub trip : List ℕ
  pub day : ℤ
  pub start : Option ℕ
  pub from : ℕ
  pub to : ℕ

-- the five parts of a word
pub record RideParts : Type 0 where
  pub trip : List ℕ
  pub date : List ℕ
  pub start : List ℕ
  pub from : List ℕ
  pub to : List ℕ

-- the place of the last comma before place n
abbrev pub comma_before : List ℕ → ℕ → Option ℕ
comma_before word n = last_below n (λ i. slice_index word i == 44)

-- the parts of a word, which its last four commas part; the first part may hold further commas
abbrev pub ride_parts : List ℕ → Option RideParts
ride_parts word =
    given (comma_before word (length word)) (λ fourth.
    given (comma_before word fourth) (λ third.
    given (comma_before word third) (λ second.
    given_last (comma_before word second) (λ first.
    record {
      trip = take first word;
      date = slice_range word (first + 1) second;
      start = slice_range word (second + 1) third;
      from = slice_range word (third + 1) fourth;
      to = drop (fourth + 1) word;
    }))))

-- START: `-`, or the first departure of a run as a time of at most 167:59:59
abbrev pub start_value : List ℕ → Option (Option ℕ)
start_value text = if bytes_eq text (codes "-") then Some None else option_map Some (time_value most_time text)

-- I or J: a number of at most 2,147,483,647
abbrev pub sequence_value : List ℕ → Option ℕ
sequence_value text = within 0 2_147_483_647 (word_number text)

-- RIDE: TRIP,DATE,START,I,J, where TRIP is not empty
unfoldable pub ride_word : List ℕ → Option RideWord
ride_word word =
    given (ride_parts word) (λ parts.
    given (word_date parts.date) (λ day.
    given (start_value parts.start) (λ start.
    given (sequence_value parts.from) (λ from.
    given (sequence_value parts.to) (λ to.
    when (nat_lt 0 (length parts.trip))
    (record { trip = parts.trip; day = day; start = start; from = from; to = to }))))))

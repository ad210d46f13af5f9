-- What the words of the commands ask for, or their first fault.
use Rattle.std.specs.Prelude.{ℕ, if◌then◌else◌, List, [], ◌∷◌, find, ok_or, Option, Result, Ok, Err, ℤ, pos, ◌+ℤ◌, int_le, ◌&&◌, bytes_eq}
use Rattle.feed_rows.specs.Limits.{most_rides, most_window, usual_window}
use Rattle.transit_base.specs.Moments.{moment_at}
use Rattle.plain_laws.specs.Plain.{given, when}
use Rattle.feed_rows.specs.Numerals.{within}
use Rattle.feed_rows.specs.WordValues.{word_number, word_date, word_time, option_number}
use Rattle.feed_rows.specs.RideWords.{ride_word}
use Rattle.commands.specs.CommandWords.{word_at, positional_words, option_value, has_flag, fits_form}
use Rattle.commands.specs.NumberedItems.{read_each}
use Rattle.commands.specs.Requests.{Request, Asks, Gen, Plan, Price, Check, Audit}
use Rattle.commands.specs.Table.{all_commands, command_text, form_of, option_text}
use Rattle.commands.specs.UsageFaults.{unless_fault}
use Rattle.commands.specs.declared.table.CommandName.{CommandName}
use Rattle.commands.specs.declared.table.CommandName.TheVariants as command
use Rattle.commands.specs.declared.table.CommandOption.TheVariants as option
use Rattle.commands.specs.declared.usage.UsageFault.{UsageFault}
use Rattle.commands.specs.declared.usage.UsageFault.TheVariants as usage

-- what the words of `plan` ask for: 0 to 8 rides, 4 where nothing is said, and 1 to 259,200 seconds, 86,400 where nothing
-- is said
abbrev pub read_plan : List (List ℕ) → List (List ℕ) → Result Request UsageFault
read_plan named words =
    unless_fault (ok_or (word_date (word_at named 2)) usage.BadDate) (λ day.
    unless_fault (ok_or (word_time (word_at named 3)) usage.BadTime) (λ seconds.
    unless_fault (ok_or (option_number 4 0 most_rides (option_value words (option_text option.Rides))) usage.BadRides) (λ rides.
    unless_fault (ok_or (option_number usual_window 1 most_window (option_value words (option_text option.Within))) usage.BadWindow) (λ window.
    Ok (Asks (Plan (record {
      from = word_at named 0;
      to = word_at named 1;
      departure = moment_at day (pos seconds);
      rides = rides;
      rider = option_value words (option_text option.Rider);
      window = window;
      stats = has_flag words (option_text option.Stats);
    })))))))

-- what the words of `price` ask for; the RIDE words are numbered from 1
abbrev pub read_price : List (List ℕ) → List (List ℕ) → Result Request UsageFault
read_price named words =
    unless_fault (read_each ride_word usage.BadRide named) (λ rides.
    Ok (Asks (Price (record { rider = option_value words (option_text option.Rider); rides = rides }))))

-- the last day of an audit: a date that is no earlier than the first day, and at most 365 days later
abbrev pub last_day : ℤ → List ℕ → Option ℤ
last_day first word = given (word_date word) (λ last. when (int_le first last && int_le last (first +ℤ pos 365)) last)

-- what the words of `audit` ask for
abbrev pub read_audit : List (List ℕ) → List (List ℕ) → Result Request UsageFault
read_audit named words =
    unless_fault (ok_or (word_date (word_at named 0)) usage.BadFirst) (λ first.
    unless_fault (ok_or (last_day first (word_at named 1)) usage.BadLast) (λ last.
    Ok (Asks (Audit (record { first = first; last = last; rider = option_value words (option_text option.Rider) })))))

-- what the words of `gen` ask for: a seed from 0 to 65,535, and 2 to 32 lines
abbrev pub read_gen : List (List ℕ) → List (List ℕ) → Result Request UsageFault
read_gen named words =
    unless_fault (ok_or (within 0 65_535 (word_number (word_at named 0))) usage.BadSeed) (λ seed.
    unless_fault (ok_or (within 2 32 (word_number (word_at named 1))) usage.BadLines) (λ lines.
    Ok (Gen (record { seed = seed; lines = lines }))))

-- what the words of a command ask for, or their first fault, told by the words that are no options and by all words
abbrev pub read_by : CommandName → List (List ℕ) → List (List ℕ) → Result Request UsageFault
read_by command.Plan named words = read_plan named words
read_by command.Price named words = read_price named words
read_by command.Check named words = Ok (Asks Check)
read_by command.Audit named words = read_audit named words
read_by command.Gen named words = read_gen named words

-- the command that a word names
abbrev pub command_named : List ℕ → Option CommandName
command_named word = find (λ name. bytes_eq word (command_text name)) all_commands

-- what the words ask for, or their first fault; the first word is the command
unfoldable pub read_command : List (List ℕ) → Result Request UsageFault
read_command [] = Err usage.WrongWords
read_command (word ∷ words) =
    unless_fault (ok_or (command_named word) usage.WrongWords) (λ name.
    if fits_form (form_of name) words then read_by name (positional_words (form_of name) words) words
    else Err usage.WrongWords)

-- What is due for some words over the folder of one bus: for each command a task, and what refuses one.
use Rattle.std.specs.Prelude.{◌≡◌, refl, ℕ, ◌==◌, if◌then◌else◌, true, false, List, [], ◌∷◌, map, None, Ok, Err, pos, codes}
use Rattle.std.specs.Fmt.{digits}
use Rattle.jiff_core.specs.Calendar.{days_from_civil, day_count, days_of_years, days_of_months}
use Rattle.feed_files.specs.declared.names.FileName.{FileName}
use Rattle.feed_files.specs.declared.names.FileName.TheVariants as file
use Rattle.feed_files.specs.declared.faults.FeedFault.{FeedFault}
use Rattle.feed_files.specs.declared.faults.FaultKind.TheVariants as kind
use Rattle.feed_files.specs.HeldFiles.{HeldFile}
use Rattle.commands.specs.CommandWords.{role_at, value_at, fits_form}
use Rattle.feed_rows.specs.FeedRows.{FeedRows}
use Rattle.feed_rows.specs.GeneratedFeed.{generated}
use Rattle.commands.specs.Requests.{Request}
use Rattle.feed_rows.specs.Numerals.{number_value}
use Rattle.feed_rows.specs.TimeGrammar.{time_value}
use Rattle.feed_rows.specs.RideWords.{ride_word}
use Rattle.feed_rows.specs.RowsById.{has_stop_id, has_trip_id, has_rider_id, is_default_rider}
use Rattle.commands.specs.PriceQueries.{named_ride}
use Rattle.feed_rows.specs.ServiceDays.{is_active}
use Rattle.feed_rows.specs.Calls.{call_at, calls_of}
use Rattle.feed_rows.specs.Shifts.{shifts_of}
use Rattle.feed_rows.specs.Rides.{is_ride}
use Rattle.commands.specs.declared.usage.UsageFault.TheVariants as usage
use Rattle.commands.specs.declared.usage.StopWord.TheVariants as stop_word
use Rattle.feed_faults.specs.FirstFault.{first_fault}
use Rattle.feed_faults.specs.OnLiterals.{feeds_on_literals}
use Rattle.commands.specs.Commands.{read_command}
use Rattle.command_answers.specs.Due.{Task, task_of, task_over, due}
use Rattle.command_answers.specs.declared.refusal.Refusal.TheVariants as refusal
use Rattle.command_answers.proofs.SmallFolder.{files, rows, no_category, on_the_day, stay, bus}

-- a byte put before the first word
abbrev pub onto_first : ℕ → List (List ℕ) → List (List ℕ)
onto_first byte [] = (byte ∷ []) ∷ []
onto_first byte (word ∷ words) = (byte ∷ word) ∷ words

-- the words of a text that has one space between each two
abbrev pub spaced : List ℕ → List (List ℕ)
spaced [] = [] ∷ []
spaced (byte ∷ bytes) = if byte == 32 then [] ∷ spaced bytes else onto_first byte (spaced bytes)

-- the folder without its stops, and the fault that it has
abbrev broken : FileName → HeldFile
broken file.Stops = HeldFile.Missing
broken other = files other

abbrev no_stops : FeedFault
no_stops = record { kind = kind.MissingFile; file = file.Stops; row = 0; column = None }

-- ---- tasks

-- `check` is about the rows of the folder
due_check : due files (codes "check" ∷ []) ≡ Ok (Task.Checks rows)
unfolding read_command role_at value_at fits_form feeds_on_literals
    days_from_civil day_count days_of_years days_of_months
due_check = refl

-- `plan` is about them and the query, without a last line and with one
due_plans :
    map (λ text. due files (spaced text))
    (codes "plan A A 2025-06-02 08:00:00 --rides 0" ∷ codes "plan --stats A A 2025-06-02 8:00:00 --rides=0" ∷ [])
    ≡ Ok (Task.Plans rows stay false) ∷ Ok (Task.Plans rows stay true) ∷ []
unfolding read_command role_at value_at fits_form time_value number_value has_stop_id has_rider_id
    is_default_rider feeds_on_literals days_from_civil day_count days_of_years days_of_months
due_plans = refl

-- `price` is about them and the rides
due_price :
    due files (spaced (codes "price T1,2025-06-02,-,1,2"))
    ≡ Ok (Task.Prices rows (record { rides = bus ∷ []; buyer = no_category }))
unfolding read_command role_at value_at fits_form time_value number_value ride_word named_ride has_trip_id
    has_rider_id is_default_rider is_ride is_active shifts_of calls_of call_at feeds_on_literals days_from_civil
    day_count days_of_years
    days_of_months
due_price = refl

-- `gen` is about the files that it makes, and not about those of the folder, whatever is wrong with them
due_gen :
    (due files (spaced (codes "gen 7 2"))
    ≡ task_over (generated 7 2) (first_fault (generated 7 2)) (Request.Gen (record { seed = 7; lines = 2 })))
    × (due broken (spaced (codes "gen 7 2"))
    ≡ task_over (generated 7 2) (first_fault (generated 7 2)) (Request.Gen (record { seed = 7; lines = 2 })))
unfolding read_command role_at value_at fits_form number_value
due_gen = (refl, refl)

-- two of the stops that it makes, beside the rows of the folder
abbrev corners : FeedRows
corners =
    record rows {
      stops =
          record { id = codes "s_0_0"; kind = 0; parent = None }
          ∷ record { id = codes "s_1_1"; kind = 0; parent = None }
          ∷ [];
    }

-- over rows without a fault it plans from the first stop to the last, on 2025-06-02 at 07:00:00
gen_over_rows :
    task_of corners (Request.Gen (record { seed = 7; lines = 2 }))
    ≡ Ok (Task.Generates corners (record {
      from = record { 0 = 0 };
      to = record { 0 = 1 };
      departure = record { 0 = pos (on_the_day 25200) };
      rides = 4;
      window = 86400;
      buyer = no_category;
    }))
unfolding has_stop_id has_rider_id is_default_rider digits days_from_civil day_count days_of_years days_of_months
gen_over_rows = refl

-- ---- refusals

-- a fault of the words comes before one of the files, and this before one of the names
refused_in_order :
    map (λ text. due broken (spaced text))
    (codes "check all" ∷ codes "plan A A 2025-06-02 24:00:00" ∷ codes "plan X A 2025-06-02 08:00:00"
    ∷ codes "check" ∷ [])
    ≡ Err (refusal.Usage usage.WrongWords) ∷ Err (refusal.Usage usage.BadTime) ∷ Err (refusal.Feed no_stops)
    ∷ Err (refusal.Feed no_stops) ∷ []
unfolding read_command role_at value_at fits_form time_value number_value feeds_on_literals
    days_from_civil day_count days_of_years days_of_months
refused_in_order = refl

-- names that the feed hasn't
refused_names :
    map (λ text. due files (spaced text))
    (codes "plan A X 2025-06-02 08:00:00" ∷ codes "price T9,2025-06-02,-,1,2" ∷ codes "price T1,2025-06-03,-,1,2" ∷ [])
    ≡ Err (refusal.Usage (usage.UnknownStop stop_word.To)) ∷ Err (refusal.Usage (usage.NoSuchRide 1))
    ∷ Err (refusal.Usage (usage.NoSuchRide 1)) ∷ []
unfolding read_command role_at value_at fits_form time_value number_value ride_word named_ride has_stop_id
    has_trip_id has_rider_id is_default_rider is_ride is_active shifts_of calls_of call_at feeds_on_literals
    days_from_civil day_count days_of_years days_of_months
refused_names = refl

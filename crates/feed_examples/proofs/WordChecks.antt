-- What the definitions make of words, by examples.
use Rattle.std.specs.Prelude.{◌≡◌, refl, ℕ, ◌==◌, if◌then◌else◌, List, [], ◌∷◌, map, true, false, Option, Some, None, Result, Ok, Err, pos, negsuc, codes}
use Rattle.jiff_core.specs.Calendar.{days_from_civil, day_count, days_of_years, days_of_months}
use Rattle.transit_base.specs.Dates.{day_number}
use Rattle.feed_rows.specs.Numerals.{number_value}
use Rattle.feed_rows.specs.TimeGrammar.{time_value}
use Rattle.feed_rows.specs.WordValues.{word_number, word_date, word_time}
use Rattle.commands.specs.CommandWords.{CommandForm, role_at, value_at, fits_form, positional_words, has_flag}
use Rattle.commands.specs.Requests.{Request, Asks, Plan, Check}
use Rattle.commands.specs.Commands.{read_command}
use Rattle.commands.specs.declared.usage.UsageFault.{UsageFault}
use Rattle.commands.specs.declared.usage.UsageFault.TheVariants as usage

-- a byte put before the first word
abbrev pub onto_first : ℕ → List (List ℕ) → List (List ℕ)
onto_first byte [] = (byte ∷ []) ∷ []
onto_first byte (word ∷ words) = (byte ∷ word) ∷ words

-- the words of a text that has one space between each two; two spaces make an empty word
abbrev pub spaced : List ℕ → List (List ℕ)
spaced [] = [] ∷ []
spaced (byte ∷ bytes) = if byte == 32 then [] ∷ spaced bytes else onto_first byte (spaced bytes)

-- what the words of a text ask for
abbrev pub read_text : List ℕ → Result Request UsageFault
read_text text = read_command (spaced text)

-- a plan from A to C on 2025-06-02 at 08:00:00
abbrev plan_with : ℕ → Option (List ℕ) → ℕ → Result Request UsageFault
plan_with rides rider window =
    Ok (Asks (Plan (record { from = codes "A"; to = codes "C"; departure = pos 1_748_851_200; rides = rides; rider = rider; window = window; stats = false })))

abbrev pub wrong : Result Request UsageFault
wrong = Err usage.WrongWords

-- numbers of words
pub numbers :
    map word_number
    (codes "0" ∷ codes "8" ∷ codes "08" ∷ codes "0000000008" ∷ codes "9999999999" ∷ codes "00000000008" ∷ codes "10000000000"
    ∷ codes "" ∷ codes "-1" ∷ codes "+1" ∷ codes "1.0" ∷ codes "x" ∷ codes "1x" ∷ codes " 1" ∷ [])
    ≡ Some 0 ∷ Some 8 ∷ Some 8 ∷ Some 8 ∷ Some 9_999_999_999 ∷ None ∷ None ∷ None ∷ None ∷ None ∷ None ∷ None ∷ None ∷ None ∷ []
unfolding time_value number_value
numbers = refl

-- the first and the last day of a query
pub first_query_day : day_number 1900 1 1 ≡ negsuc 25_566
unfolding days_from_civil day_count days_of_years days_of_months
first_query_day = refl

pub last_query_day : day_number 2999 12 31 ≡ pos 376_199
unfolding days_from_civil day_count days_of_years days_of_months
last_query_day = refl

-- dates of words
pub dates :
    map word_date
    (codes "1970-01-01" ∷ codes "2025-06-02" ∷ codes "2024-02-29" ∷ codes "1900-01-01" ∷ codes "2999-12-31"
    ∷ codes "1899-12-31" ∷ codes "3000-01-01" ∷ codes "2025-02-29" ∷ codes "1900-02-29" ∷ codes "2025-6-2" ∷ codes "20250602"
    ∷ codes "2025-00-10" ∷ codes "2025-13-01" ∷ codes "2025-06-00" ∷ codes "2025-06-31" ∷ codes "2025/06/02" ∷ codes "2025-06-0x"
    ∷ codes "2025-06-02 " ∷ codes "" ∷ codes "2025-06/02" ∷ codes "2025/06-02" ∷ codes "2025-060-2" ∷ [])
    ≡ Some (pos 0) ∷ Some (pos 20_241) ∷ Some (pos 19_782) ∷ Some (negsuc 25_566) ∷ Some (pos 376_199)
    ∷ None ∷ None ∷ None ∷ None ∷ None ∷ None ∷ None ∷ None ∷ None ∷ None ∷ None ∷ None ∷ None ∷ None ∷ None ∷ None ∷ None ∷ []
unfolding time_value number_value days_from_civil day_count days_of_years days_of_months
dates = refl

-- times of words
pub times :
    map word_time
    (codes "00:00:00" ∷ codes "08:00:00" ∷ codes "8:00:00" ∷ codes "008:00:00" ∷ codes "23:59:59" ∷ codes "24:00:00"
    ∷ codes "8:0:0" ∷ codes "08:60:00" ∷ codes "08:00:60" ∷ codes "0008:00:00" ∷ codes ":00:00" ∷ codes "08:00" ∷ codes "08-00-00"
    ∷ codes "168:00:00" ∷ codes "8" ∷ codes "" ∷ [])
    ≡ Some 0 ∷ Some 28_800 ∷ Some 28_800 ∷ Some 28_800 ∷ Some 86_399 ∷ None
    ∷ None ∷ None ∷ None ∷ None ∷ None ∷ None ∷ None ∷ None ∷ None ∷ None ∷ []
unfolding time_value number_value
times = refl

-- good plans; options and positional words may be mixed
pub plans :
    map read_text
    (codes "plan A C 2025-06-02 08:00:00" ∷ codes "plan --rides=1 A C 2025-06-02 08:00:00" ∷ codes "plan A C 2025-06-02 08:00:00 --rides 1"
    ∷ codes "plan A --rides 0 C --rider child 2025-06-02 --within=259200 8:00:00" ∷ codes "plan --rides 08 --within 1 A C 2025-06-02 008:00:00"
    ∷ codes "plan A C 2025-06-02 08:00:00 --rider=-x" ∷ codes "plan A C 2025-06-02 08:00:00 --rider=="
    ∷ codes "plan A C 2025-06-02 08:00:00 --rides 0000000001" ∷ codes "check" ∷ [])
    ≡ plan_with 4 None 86_400 ∷ plan_with 1 None 86_400 ∷ plan_with 1 None 86_400
    ∷ plan_with 0 (Some (codes "child")) 259_200 ∷ plan_with 8 None 1
    ∷ plan_with 4 (Some (codes "-x")) 86_400 ∷ plan_with 4 (Some (codes "=")) 86_400
    ∷ plan_with 1 None 86_400 ∷ Ok (Asks Check) ∷ []
unfolding read_command role_at value_at fits_form time_value number_value days_from_civil day_count days_of_years days_of_months
plans = refl

-- no words at all
pub no_words : read_command [] ≡ wrong
unfolding read_command
no_words = refl

-- commands that there are not, words that a command does not take, and too few or too many positional words
pub wrong_commands :
    map read_text
    (codes "" ∷ codes "-" ∷ codes "--" ∷ codes "--help" ∷ codes "-h" ∷ codes "--version" ∷ codes "Plan" ∷ codes "plans" ∷ codes "prices" ∷ codes "gens 7 2"
    ∷ codes "check A" ∷ codes "check --rides 1" ∷ codes "check " ∷ codes "plan" ∷ codes "plan A C 2025-06-02" ∷ codes "plan A C 2025-06-02 08:00:00 D" ∷ [])
    ≡ wrong ∷ wrong ∷ wrong ∷ wrong ∷ wrong ∷ wrong ∷ wrong ∷ wrong ∷ wrong ∷ wrong ∷ wrong ∷ wrong ∷ wrong ∷ wrong ∷ wrong ∷ wrong ∷ []
unfolding read_command role_at value_at fits_form
wrong_commands = refl

-- words that begin with `-`, empty words, and options without a value or given twice
pub wrong_options :
    map read_text
    (codes "plan A C 2025-06-02 08:00:00 --rides -1" ∷ codes "plan A C 2025-06-02 08:00:00 --rides" ∷ codes "plan A C 2025-06-02 08:00:00 --rides="
    ∷ codes "plan A C 2025-06-02 08:00:00 --rider=" ∷ codes "plan A C 2025-06-02 08:00:00 --rider " ∷ codes "plan A C 2025-06-02 08:00:00 --rider -"
    ∷ codes "plan A C 2025-06-02 08:00:00 --rider --" ∷ codes "plan A C 2025-06-02 08:00:00 --rider --rides 1"
    ∷ codes "plan A C 2025-06-02 08:00:00 --rides 1 --rides 1" ∷ codes "plan --rides=1 A C 2025-06-02 08:00:00 --rides 1"
    ∷ codes "plan A C 2025-06-02 08:00:00 --rides=1 --rides=2" ∷ codes "plan A C 2025-06-02 08:00:00 --statistics"
    ∷ codes "plan A C 2025-06-02 08:00:00 --one-medium" ∷ codes "plan A C 2025-06-02 08:00:00 -r" ∷ codes "plan A C 2025-06-02 08:00:00 --ride 1"
    ∷ codes "plan A C 2025-06-02 08:00:00 ---" ∷ codes "plan A C 2025-06-02 08:00:00 -" ∷ codes "plan A C 2025-06-02 08:00:00 --"
    ∷ codes "plan A C 2025-06-02 08:00:00 " ∷ codes "plan  C 2025-06-02 08:00:00" ∷ codes "plan -A C 2025-06-02 08:00:00"
    ∷ codes "plan A C 2025-06-02 08:00:00 --help" ∷ codes "plan A C 2025-06-02 08:00:00 --version" ∷ codes "plan A C 2025-06-02 08:00:00 -h" ∷ [])
    ≡ wrong ∷ wrong ∷ wrong ∷ wrong ∷ wrong ∷ wrong ∷ wrong ∷ wrong ∷ wrong ∷ wrong ∷ wrong ∷ wrong
    ∷ wrong ∷ wrong ∷ wrong ∷ wrong ∷ wrong ∷ wrong ∷ wrong ∷ wrong ∷ wrong ∷ wrong ∷ wrong ∷ wrong ∷ []
unfolding read_command role_at value_at fits_form
wrong_options = refl

-- values out of their range, and their order: first the words as a whole, then DATE, TIME, --rides, --within
pub faults_in_order :
    map read_text
    (codes "plan A C 2025-02-29 08:00:00" ∷ codes "plan A C 2025-06-02 24:00:00"
    ∷ codes "plan A C 2025-06-02 08:00:00 --rides 9" ∷ codes "plan A C 2025-06-02 08:00:00 --rides=-1" ∷ codes "plan A C 2025-06-02 08:00:00 --rides=1=2"
    ∷ codes "plan A C 2025-06-02 08:00:00 --rides 00000000001" ∷ codes "plan A C 2025-06-02 08:00:00 --rides 4294967297"
    ∷ codes "plan A C 2025-06-02 08:00:00 --within 0" ∷ codes "plan A C 2025-06-02 08:00:00 --within 259201" ∷ codes "plan A C 2025-06-02 08:00:00 --within x"
    ∷ codes "plan A C 2025-02-29 8 --rides x --foo" ∷ codes "plan A C 2025-02-29 8 --rides x --within x" ∷ codes "plan A C 2025-06-02 8 --rides x --within x"
    ∷ codes "plan A C 2025-06-02 08:00:00 --within x --rides x" ∷ codes "plan C 08:00:00 2025-06-02 A" ∷ [])
    ≡ Err usage.BadDate ∷ Err usage.BadTime ∷ Err usage.BadRides ∷ Err usage.BadRides ∷ Err usage.BadRides
    ∷ Err usage.BadRides ∷ Err usage.BadRides ∷ Err usage.BadWindow ∷ Err usage.BadWindow ∷ Err usage.BadWindow
    ∷ wrong ∷ Err usage.BadDate ∷ Err usage.BadTime ∷ Err usage.BadRides ∷ Err usage.BadTime ∷ []
unfolding read_command role_at value_at fits_form time_value number_value days_from_civil day_count days_of_years days_of_months
faults_in_order = refl

-- a command with a flag and one to three positional words
abbrev flag_form : CommandForm
flag_form = record { options = codes "--rider" ∷ []; flags = codes "--stats" ∷ []; fewest = 1; most = 3 }

pub flags :
    map (λ text. fits_form flag_form (spaced text))
    (codes "--stats A" ∷ codes "A --stats B" ∷ codes "A B C" ∷ codes "A --stats --stats" ∷ codes "A --stats=1" ∷ codes "A --stats=" ∷ codes "--stats"
    ∷ codes "A B C D" ∷ codes "--rider --stats A" ∷ codes "--rider stats A" ∷ [])
    ≡ true ∷ true ∷ true ∷ false ∷ false ∷ false ∷ false ∷ false ∷ false ∷ true ∷ []
unfolding role_at value_at fits_form
flags = refl

pub flag_words : positional_words flag_form (spaced (codes "A --rider child --stats B")) ≡ codes "A" ∷ codes "B" ∷ []
unfolding role_at
flag_words = refl

pub flag_is_set : map (λ text. has_flag (spaced text) (codes "--stats")) (codes "A --stats" ∷ codes "A stats" ∷ []) ≡ true ∷ false ∷ []
flag_is_set = refl

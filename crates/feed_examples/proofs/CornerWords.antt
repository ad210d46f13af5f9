-- Words of commands at their edges: names of options that words begin with, options as values, and the sign `=`.
use Rattle.std.specs.Prelude.{◌≡◌, refl, false, ℕ, List, [], ◌∷◌, map, replicate, Some, None, Result, Ok, Err, pos, codes}
use Rattle.jiff_core.specs.Calendar.{days_from_civil, day_count, days_of_years, days_of_months}
use Rattle.feed_rows.specs.Numerals.{number_value}
use Rattle.feed_rows.specs.TimeGrammar.{time_value}
use Rattle.commands.specs.CommandWords.{joined_value, role_at, value_at, fits_form}
use Rattle.commands.specs.Requests.{Request, Asks, Plan}
use Rattle.commands.specs.Commands.{read_command}
use Rattle.commands.specs.declared.usage.UsageFault.{UsageFault}
use Rattle.commands.specs.declared.usage.UsageFault.TheVariants as usage
use Rattle.feed_examples.proofs.WordChecks.{read_text, wrong}

-- an option's value stands behind its name and `=`, and is not empty; nothing else that begins with the name has one
values_behind_names : map (joined_value (codes "--rides"))
    (codes "--rides=1" ∷ codes "--rides==" ∷ codes "--rides=" ∷ codes "--rides" ∷ codes "--rides1" ∷ codes "--ridesx1" ∷ codes "--rider=1" ∷ codes "x--rides=1" ∷ codes "" ∷ [])
    ≡ Some (codes "1") ∷ Some (codes "=") ∷ replicate 7 None
values_behind_names = refl

-- a name with more behind it, a name where its value should be, a name alone at the end, a name twice in either form, an
-- option before the command, no name before `=`, letters of the other case, and a word too many
wrong_plans : map read_text
    (codes "plan A C 2025-06-02 08:00:00 --ridesx1" ∷ codes "plan A C 2025-06-02 08:00:00 --rides1" ∷ codes "plan A C 2025-06-02 --rides 08:00:00"
    ∷ codes "plan A C 2025-06-02 08:00:00 --rides 1 --rides" ∷ codes "plan --rides --rides 1 A C 2025-06-02 08:00:00" ∷ codes "plan --rides=--rides 1 A C 2025-06-02 08:00:00"
    ∷ codes "--rides 1 plan A C 2025-06-02 08:00:00" ∷ codes "plan A C 2025-06-02 08:00:00 --=1" ∷ codes "plan A C 2025-06-02 08:00:00 --rides==1 --rider" ∷ codes "plan A C 2025-06-02 08:00:00 --RIDES=1"
    ∷ codes "plan A C 2025-06-02 08:00:00 --rider x --rider=x" ∷ codes "plan A C 2025-06-02 08:00:00 =" ∷ [])
    ≡ replicate 12 wrong
unfolding read_command role_at value_at fits_form time_value number_value
wrong_plans = refl

-- a plan at the first moment of 1970
abbrev plan_of : List ℕ → List ℕ → List ℕ → Result Request UsageFault
plan_of from to rider = Ok (Asks (Plan (record { from = from; to = to; departure = pos 0; rides = 4; rider = Some rider; window = 86_400; stats = false })))

-- a value behind `=` may be any text, also a name or a dash; stops may be named like a command or begin with `=`; a second
-- `=` belongs to the value
odd_plans : map read_text
    (codes "plan --rider=--rides A C 1970-01-01 0:00:00" ∷ codes "plan A C 1970-01-01 0:00:00 --rider=-" ∷ codes "plan A C 1970-01-01 --rider=-- 0:00:00"
    ∷ codes "plan plan --rider rides =x 1970-01-01 0:00:00" ∷ codes "plan A C 1970-01-01 0:00:00 --rides==1" ∷ [])
    ≡ plan_of (codes "A") (codes "C") (codes "--rides") ∷ plan_of (codes "A") (codes "C") (codes "-") ∷ plan_of (codes "A") (codes "C") (codes "--")
    ∷ plan_of (codes "plan") (codes "=x") (codes "rides") ∷ Err usage.BadRides ∷ []
unfolding read_command role_at value_at fits_form time_value number_value days_from_civil day_count days_of_years days_of_months
odd_plans = refl

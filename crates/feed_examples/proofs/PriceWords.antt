-- What the definitions make of the words of `price`, `audit`, `gen` and of a plan with statistics, by examples.
use Rattle.std.specs.Prelude.{◌≡◌, refl, ℕ, Bool, true, false, List, [], ◌∷◌, map, replicate, Option, Some, None, Result, Ok, Err, ℤ, pos, negsuc, codes}
use Rattle.jiff_core.specs.Calendar.{days_from_civil, day_count, days_of_years, days_of_months}
use Rattle.feed_rows.specs.Numerals.{number_value}
use Rattle.feed_rows.specs.TimeGrammar.{time_value}
use Rattle.commands.specs.CommandWords.{role_at, value_at, fits_form}
use Rattle.feed_rows.specs.RideWords.{RideWord, RideParts, ride_parts, ride_word}
use Rattle.commands.specs.Requests.{Request, Asks, Gen, Plan, Price, Check, Audit}
use Rattle.commands.specs.Commands.{read_command}
use Rattle.commands.specs.declared.usage.UsageFault.{UsageFault}
use Rattle.commands.specs.declared.usage.UsageFault.TheVariants as usage
use Rattle.feed_examples.proofs.WordChecks.{read_text, wrong}

-- ---- the parts of a ride's word

abbrev parts : List ℕ → List ℕ → List ℕ → List ℕ → List ℕ → Option RideParts
parts trip date start from to = Some (record { trip = trip; date = date; start = start; from = from; to = to })

-- the last four commas part a word: the first part holds any further ones, and parts may be empty
word_parts : map ride_parts
    (codes "T,D,S,I,J" ∷ codes "a,b,D,S,I,J" ∷ codes ",,D,S,I,J" ∷ codes "T,D,S,I,J," ∷ codes ",,,," ∷ codes "T,D,S,I"
    ∷ codes ",,," ∷ codes "T" ∷ codes "" ∷ [])
    ≡ parts (codes "T") (codes "D") (codes "S") (codes "I") (codes "J")
    ∷ parts (codes "a,b") (codes "D") (codes "S") (codes "I") (codes "J")
    ∷ parts (codes ",") (codes "D") (codes "S") (codes "I") (codes "J")
    ∷ parts (codes "T,D") (codes "S") (codes "I") (codes "J") (codes "")
    ∷ parts (codes "") (codes "") (codes "") (codes "") (codes "") ∷ None ∷ None ∷ None ∷ None ∷ []
word_parts = refl

-- ---- rides

-- a ride on 1970-01-01
abbrev named : List ℕ → Option ℕ → ℕ → ℕ → Option RideWord
named trip start from to = Some (record { trip = trip; day = pos 0; start = start; from = from; to = to })

-- good words: a trip with commas, with spaces, or that looks like a date; leading zeros; the greatest values; a start past
-- midnight; and calls in any order, which no grammar refuses
good_rides : map ride_word
    (codes "T1,1970-01-01,-,1,2" ∷ codes "a,b,1970-01-01,-,1,2" ∷ codes ",,1970-01-01,-,1,2"
    ∷ codes "T 1,1970-01-01,-,1,2" ∷ codes "-,1970-01-01,-,1,2"
    ∷ codes "1970-01-01,1970-01-01,-,1,2" ∷ codes "T,1970-01-01,-,0000000001,002"
    ∷ codes "T,1970-01-01,-,0,2147483647" ∷ codes "T,1970-01-01,-,2147483647,0"
    ∷ codes "T,1970-01-01,8:20:00,1,1" ∷ codes "T,1970-01-01,008:20:00,1,1" ∷ codes "T,1970-01-01,25:00:00,1,1"
    ∷ codes "T,1970-01-01,167:59:59,1,1"
    ∷ codes "T,1970-01-01,00:00:00,1,1" ∷ [])
    ≡ named (codes "T1") None 1 2 ∷ named (codes "a,b") None 1 2 ∷ named (codes ",") None 1 2
    ∷ named (codes "T 1") None 1 2 ∷ named (codes "-") None 1 2
    ∷ named (codes "1970-01-01") None 1 2 ∷ named (codes "T") None 1 2 ∷ named (codes "T") None 0 2_147_483_647
    ∷ named (codes "T") None 2_147_483_647 0
    ∷ named (codes "T") (Some 30_000) 1 1 ∷ named (codes "T") (Some 30_000) 1 1 ∷ named (codes "T") (Some 90_000) 1 1
    ∷ named (codes "T") (Some 604_799) 1 1
    ∷ named (codes "T") (Some 0) 1 1 ∷ []
unfolding ride_word time_value number_value days_from_civil day_count days_of_years days_of_months
good_rides = refl

-- the first and the last day that a word may name, and a day of its own
ride_days : map ride_word (codes "T,1900-01-01,-,1,2" ∷ codes "T,2999-12-31,-,1,2" ∷ codes "T,2025-06-02,-,1,2" ∷ [])
    ≡ Some (record { trip = codes "T"; day = negsuc 25_566; start = None; from = 1; to = 2 })
    ∷ Some (record { trip = codes "T"; day = pos 376_199; start = None; from = 1; to = 2 })
    ∷ Some (record { trip = codes "T"; day = pos 20_241; start = None; from = 1; to = 2 }) ∷ []
unfolding ride_word time_value number_value days_from_civil day_count days_of_years days_of_months
ride_days = refl

-- no trip, too few parts, dates, starts and sequences out of their grammar or range, and blanks
bad_rides : map ride_word
    (codes "" ∷ codes "T" ∷ codes ",1970-01-01,-,1,2" ∷ codes "1970-01-01,-,1,2" ∷ codes "T,-,1,2"
    ∷ codes "T,1970-01-01,-,1" ∷ codes "T,1970-01-01,-,1,2,"
    ∷ codes "T,1970-01-01,-,1,2,3" ∷ codes "T,1899-12-31,-,1,2" ∷ codes "T,3000-01-01,-,1,2"
    ∷ codes "T,2025-02-29,-,1,2" ∷ codes "T,20250602,-,1,2" ∷ codes "T,,-,1,2"
    ∷ codes "T,1970-01-01,,1,2" ∷ codes "T,1970-01-01,--,1,2" ∷ codes "T,1970-01-01,0,1,2"
    ∷ codes "T,1970-01-01,168:00:00,1,2" ∷ codes "T,1970-01-01,08:60:00,1,2"
    ∷ codes "T,1970-01-01,-,,2" ∷ codes "T,1970-01-01,-,1," ∷ codes "T,1970-01-01,-,-1,2"
    ∷ codes "T,1970-01-01,-,1,+2" ∷ codes "T,1970-01-01,-,1,2147483648"
    ∷ codes "T,1970-01-01,-,2147483648,1" ∷ codes "T,1970-01-01,-,00000000001,2" ∷ codes "T,1970-01-01,-,x,2"
    ∷ codes "T, 1970-01-01,-,1,2"
    ∷ codes "T,1970-01-01,- ,1,2" ∷ codes "T;1970-01-01;-;1;2" ∷ [])
    ≡ replicate 29 None
unfolding ride_word time_value number_value days_from_civil day_count days_of_years days_of_months
bad_rides = refl

-- ---- price

abbrev one_two : List ℕ → RideWord
one_two trip = record { trip = trip; day = pos 0; start = None; from = 1; to = 2 }

abbrev priced : Option (List ℕ) → List RideWord → Result Request UsageFault
priced rider rides = Ok (Asks (Price (record { rider = rider; rides = rides })))

-- one to eight rides in order, with the rider before, behind or among them
good_prices : map read_text
    (codes "price T1,1970-01-01,-,1,2" ∷ codes "price T1,1970-01-01,-,1,2 T2,1970-01-01,-,1,2"
    ∷ codes "price --rider child T1,1970-01-01,-,1,2"
    ∷ codes "price T1,1970-01-01,-,1,2 --rider=child T2,1970-01-01,-,1,2"
    ∷ codes "price T1,1970-01-01,-,1,2 T1,1970-01-01,-,1,2 --rider -x" ∷ codes "price T1,1970-01-01,-,1,2 --rider=-x"
    ∷ codes "price A,1970-01-01,-,1,2 B,1970-01-01,-,1,2 C,1970-01-01,-,1,2 D,1970-01-01,-,1,2 E,1970-01-01,-,1,2 F,1970-01-01,-,1,2 G,1970-01-01,-,1,2 H,1970-01-01,-,1,2" ∷ [])
    ≡ priced None (one_two (codes "T1") ∷ []) ∷ priced None (one_two (codes "T1") ∷ one_two (codes "T2") ∷ [])
    ∷ priced (Some (codes "child")) (one_two (codes "T1") ∷ []) ∷ priced (Some (codes "child")) (one_two (codes "T1")
    ∷ one_two (codes "T2") ∷ [])
    ∷ wrong ∷ priced (Some (codes "-x")) (one_two (codes "T1") ∷ [])
    ∷ priced None (one_two (codes "A") ∷ one_two (codes "B") ∷ one_two (codes "C") ∷ one_two (codes "D")
    ∷ one_two (codes "E") ∷ one_two (codes "F") ∷ one_two (codes "G") ∷ one_two (codes "H") ∷ []) ∷ []
unfolding read_command role_at value_at fits_form ride_word time_value number_value days_from_civil day_count days_of_years days_of_months
good_prices = refl

-- no ride, nine rides, a ride that begins with `-`, an empty word, and options of other commands: the words as a whole come
-- before the form of a ride
wrong_prices : map read_text
    (codes "price" ∷ codes "price --rider child" ∷ codes "price a b c d e f g h i" ∷ codes "price -T,1970-01-01,-,1,2"
    ∷ codes "price x -T,1970-01-01,-,1,2" ∷ codes "price x "
    ∷ codes "price x --rides 1" ∷ codes "price x --stats" ∷ codes "price x --within 60"
    ∷ codes "price x --rider a --rider b" ∷ codes "price x --rider" ∷ codes "price x -" ∷ codes "prices x" ∷ [])
    ≡ replicate 13 wrong
unfolding read_command role_at value_at fits_form ride_word time_value number_value
wrong_prices = refl

-- the first ride that isn't of the form, counted among the positional words alone
bad_ride_numbers : map read_text
    (codes "price x" ∷ codes "price T1,1970-01-01,-,1,2 x" ∷ codes "price x T1,1970-01-01,-,1,2" ∷ codes "price x y"
    ∷ codes "price --rider a T1,1970-01-01,-,1,2 x y"
    ∷ codes "price a b c d e f g h" ∷ codes "price T1,1970-01-01,-,1,2 T1,1970-01-01,-,1,2 T1,2025-02-29,-,1,2" ∷ [])
    ≡ Err (usage.BadRide 1) ∷ Err (usage.BadRide 2) ∷ Err (usage.BadRide 1) ∷ Err (usage.BadRide 1)
    ∷ Err (usage.BadRide 2)
    ∷ Err (usage.BadRide 1) ∷ Err (usage.BadRide 3) ∷ []
unfolding read_command role_at value_at fits_form ride_word time_value number_value days_from_civil day_count days_of_years days_of_months
bad_ride_numbers = refl

-- ---- gen

abbrev made : ℕ → ℕ → Result Request UsageFault
made seed lines = Ok (Gen (record { seed = seed; lines = lines }))

-- the least and the greatest numbers, and leading zeros
good_gens : map read_text (codes "gen 7 2" ∷ codes "gen 0 2" ∷ codes "gen 65535 32" ∷ codes "gen 007 0000000016" ∷ [])
    ≡ made 7 2 ∷ made 0 2 ∷ made 65_535 32 ∷ made 7 16 ∷ []
unfolding read_command role_at value_at fits_form number_value
good_gens = refl

-- numbers out of range; the seed comes before the lines, and the words as a whole before both
bad_gens : map read_text
    (codes "gen 65536 2" ∷ codes "gen x 2" ∷ codes "gen 00000000007 2" ∷ codes "gen 7 1" ∷ codes "gen 7 33"
    ∷ codes "gen 7 x" ∷ codes "gen x x" ∷ codes "gen 7 0"
    ∷ codes "gen" ∷ codes "gen 7" ∷ codes "gen x x x" ∷ codes "gen -7 2" ∷ codes "gen 7 2 --rider a" ∷ codes "gen 7 "
    ∷ [])
    ≡ Err usage.BadSeed ∷ Err usage.BadSeed ∷ Err usage.BadSeed ∷ Err usage.BadLines ∷ Err usage.BadLines
    ∷ Err usage.BadLines ∷ Err usage.BadSeed ∷ Err usage.BadLines
    ∷ wrong ∷ wrong ∷ wrong ∷ wrong ∷ wrong ∷ wrong ∷ []
unfolding read_command role_at value_at fits_form number_value
bad_gens = refl

-- ---- a plan with statistics

abbrev planned : ℕ → Bool → Result Request UsageFault
planned rides stats =
    Ok (Asks (Plan (record { from = codes "A"; to = codes "C"; departure = pos 1_748_851_200; rides = rides; rider = None; window = 86_400; stats = stats })))

-- the flag stands anywhere behind the command, takes no value, and stands once
stats_words : map read_text
    (codes "plan A C 2025-06-02 08:00:00" ∷ codes "plan A C 2025-06-02 08:00:00 --stats"
    ∷ codes "plan --stats A C 2025-06-02 08:00:00 --rides 0"
    ∷ codes "plan A --stats C 2025-06-02 08:00:00" ∷ codes "plan A C 2025-06-02 08:00:00 --stats --stats"
    ∷ codes "plan A C 2025-06-02 08:00:00 --stats=1"
    ∷ codes "plan A C 2025-06-02 08:00:00 --stats 1" ∷ codes "plan A C 2025-06-02 08:00:00 --rider --stats"
    ∷ codes "plan A C 2025-06-02 08:00:00 stats"
    ∷ codes "plan A C 2025-06-02 08:00:00 --stat" ∷ codes "check --stats"
    ∷ codes "plan A C 2025-06-02 24:00:00 --stats" ∷ codes "check" ∷ [])
    ≡ planned 4 false ∷ planned 4 true ∷ planned 0 true ∷ planned 4 true ∷ wrong ∷ wrong ∷ wrong ∷ wrong ∷ wrong
    ∷ wrong ∷ wrong
    ∷ Err usage.BadTime ∷ Ok (Asks Check) ∷ []
unfolding read_command role_at value_at fits_form time_value number_value days_from_civil day_count days_of_years days_of_months
stats_words = refl

-- ---- audit

abbrev audited : ℤ → ℤ → Option (List ℕ) → Result Request UsageFault
audited first last rider = Ok (Asks (Audit (record { first = first; last = last; rider = rider })))

-- one day, 366 days, the 29th of February and a year from it, the first and the last date, and a rider
good_audits : map read_text
    (codes "audit 2025-06-02 2025-06-02" ∷ codes "audit 2025-01-01 2026-01-01" ∷ codes "audit 2024-02-29 2025-02-28"
    ∷ codes "audit 1900-01-01 1900-01-01" ∷ codes "audit 2999-12-31 2999-12-31" ∷ codes "audit --rider a 1970-01-01 1970-01-02"
    ∷ codes "audit 1970-01-01 1970-01-02 --rider=--" ∷ [])
    ≡ audited (pos 20_241) (pos 20_241) None ∷ audited (pos 20_089) (pos 20_454) None ∷ audited (pos 19_782) (pos 20_147) None
    ∷ audited (negsuc 25_566) (negsuc 25_566) None ∷ audited (pos 376_199) (pos 376_199) None
    ∷ audited (pos 0) (pos 1) (Some (codes "a")) ∷ audited (pos 0) (pos 1) (Some (codes "--")) ∷ []
unfolding read_command role_at value_at fits_form number_value days_from_civil day_count days_of_years days_of_months
good_audits = refl

-- dates that are none, a last day before the first or too late, FIRST before LAST, and the words as a whole before both
bad_audits : map read_text
    (codes "audit 2025-02-29 2025-06-02" ∷ codes "audit 20250602 x" ∷ codes "audit 1899-12-31 1900-01-01"
    ∷ codes "audit 2025-06-02 2025-02-29" ∷ codes "audit 2025-06-02 2025-06-01" ∷ codes "audit 2025-01-01 2026-01-02"
    ∷ codes "audit 2024-02-29 2025-03-01" ∷ codes "audit 2999-12-31 3000-01-01" ∷ codes "audit x x"
    ∷ codes "audit 2025-06-02" ∷ codes "audit" ∷ codes "audit x x x" ∷ codes "audit x x --stats" ∷ codes "audit x x --rides 1"
    ∷ codes "audit x x --within 60" ∷ codes "audit -x x" ∷ codes "audit x " ∷ codes "audits x x" ∷ [])
    ≡ Err usage.BadFirst ∷ Err usage.BadFirst ∷ Err usage.BadFirst ∷ Err usage.BadLast ∷ Err usage.BadLast ∷ Err usage.BadLast
    ∷ Err usage.BadLast ∷ Err usage.BadLast ∷ Err usage.BadFirst
    ∷ wrong ∷ wrong ∷ wrong ∷ wrong ∷ wrong ∷ wrong ∷ wrong ∷ wrong ∷ wrong ∷ []
unfolding read_command role_at value_at fits_form number_value days_from_civil day_count days_of_years days_of_months
bad_audits = refl

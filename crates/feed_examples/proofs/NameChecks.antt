-- What the definitions make of the names that a plan gives, and of moments and times at their edges, by examples.
use Rattle.std.specs.Prelude.{◌≡◌, refl, ℕ, Bool, true, false, List, [], ◌∷◌, ◌++◌, map, Option, Some, None, Result, Ok, Err, pos, negsuc, codes}
use Rattle.transit_base.specs.Moments.{moment_at, civil_day, time_of_day}
use Rattle.transit_base.specs.Dates.{date_of, date_from_year, date_in_year}
use Rattle.transit_base.specs.DateTexts.{time_text}
use Rattle.feed_rows.specs.FeedRows.{FeedRows}
use Rattle.commands.specs.Requests.{PlanRequest}
use Rattle.feed_rows.specs.RowsById.{find_stop, find_trip, find_rider, has_stop_id, has_trip_id, has_rider_id, is_default_rider}
use Rattle.commands.specs.Queries.{chosen_rider, query_of}
use Rattle.feed_rows.specs.declared.rows.RiderRow.{RiderRow}
use Rattle.feed_rows.specs.declared.journeys.Buyer.{Buyer}
use Rattle.feed_rows.specs.declared.journeys.Query.{Query}
use Rattle.commands.specs.declared.usage.StopWord.TheVariants as stop_word
use Rattle.commands.specs.declared.usage.UsageFault.{UsageFault}
use Rattle.commands.specs.declared.usage.UsageFault.TheVariants as usage
use Rattle.feed_examples.specs.BaseFeed.{base, platform, trip, no_category, of_category}

-- B and B2 are platforms of the station P, and E is an entrance
abbrev station : FeedRows
station =
    record base {
      stops =
          platform (codes "A") ∷ record { id = codes "B"; kind = 0; parent = Some (record { 0 = 4 }) }
          ∷ platform (codes "C")
          ∷ record { id = codes "B2"; kind = 0; parent = Some (record { 0 = 4 }) }
          ∷ record { id = codes "P"; kind = 1; parent = None }
          ∷ record { id = codes "E"; kind = 2; parent = None } ∷ [];
    }

-- a plan of a moment, a limit and a window of its own
abbrev asks : List ℕ → List ℕ → Option (List ℕ) → PlanRequest
asks from to rider = record { from = from; to = to; departure = pos 7; rides = 3; rider = rider; window = 11; stats = false }

-- two categories, each marked as default or not
abbrev riders : Bool → Bool → List RiderRow
riders adult child = record { id = codes "adult"; default = adult } ∷ record { id = codes "child"; default = child }
    ∷ []

abbrev gives : ℕ → ℕ → Buyer → Result Query UsageFault
gives from to buyer =
    Ok (record {
      from = record { 0 = from };
      to = record { 0 = to };
      departure = record { 0 = pos 7 };
      rides = 3;
      window = 11;
      buyer = buyer;
    })

-- the first fault: what is wrong with FROM, then with TO, then with the rider
names_in_order : map (query_of (record station { riders = riders true true }))
    (asks (codes "X") (codes "Y") None ∷ asks (codes "E") (codes "Y") None ∷ asks (codes "P") (codes "Y") None
    ∷ asks (codes "P") (codes "E") None
    ∷ asks (codes "X") (codes "E") None ∷ asks (codes "P") (codes "B") None
    ∷ asks (codes "P") (codes "B") (Some (codes "senior"))
    ∷ asks (codes "P") (codes "B") (Some (codes "child")) ∷ asks (codes "B") (codes "P") (Some (codes "adult")) ∷ [])
    ≡ Err (usage.UnknownStop stop_word.From) ∷ Err (usage.WrongStopKind stop_word.From)
    ∷ Err (usage.UnknownStop stop_word.To) ∷ Err (usage.WrongStopKind stop_word.To)
    ∷ Err (usage.UnknownStop stop_word.From) ∷ Err usage.RiderNeeded ∷ Err usage.UnknownRider
    ∷ gives 4 1 (of_category 1) ∷ gives 1 4 (of_category 0) ∷ []
unfolding has_stop_id has_rider_id is_default_rider
names_in_order = refl

-- the rider where none is named: the one that is marked as default, or none
unnamed_rider :
    (query_of (record station { riders = riders false true }) (asks (codes "A") (codes "A") None)
    ≡ gives 0 0 (of_category 1))
    × (query_of (record station { riders = riders true false }) (asks (codes "A") (codes "C") None)
    ≡ gives 0 2 (of_category 0))
    × (query_of (record station { riders = riders false false }) (asks (codes "A") (codes "A") None) ≡ gives 0 0 no_category)
    × (query_of station (asks (codes "A") (codes "A") None) ≡ gives 0 0 no_category)
unfolding has_stop_id has_rider_id is_default_rider
unnamed_rider = (refl, refl, refl, refl)

-- three categories, with any two of them marked, also where the two don't follow one another, or all three
abbrev three : Bool → Bool → Bool → FeedRows
three first second third =
    record base {
      riders =
          record { id = codes "a"; default = first } ∷ record { id = codes "b"; default = second }
          ∷ record { id = codes "c"; default = third } ∷ [];
    }

marked_riders :
    map (λ feed. chosen_rider feed None)
    (three true true false ∷ three true false true ∷ three false true true ∷ three true true true
    ∷ three false true false ∷ three false false true
    ∷ three false false false ∷ [])
    ≡ Err usage.RiderNeeded ∷ Err usage.RiderNeeded ∷ Err usage.RiderNeeded ∷ Err usage.RiderNeeded
    ∷ Ok (Some (record { 0 = 1 })) ∷ Ok (Some (record { 0 = 2 }))
    ∷ Ok None ∷ []
unfolding is_default_rider
marked_riders = refl

-- a category that is named is the rider, whichever are marked; one that there isn't is a fault, also where one is marked
named_riders :
    map (λ feed. chosen_rider feed (Some (codes "b"))) (three true false false ∷ three false true false
    ∷ three true false true ∷ three false false false ∷ base ∷ [])
    ≡ Ok (Some (record { 0 = 1 })) ∷ Ok (Some (record { 0 = 1 })) ∷ Ok (Some (record { 0 = 1 }))
    ∷ Ok (Some (record { 0 = 1 })) ∷ Err usage.UnknownRider ∷ []
unfolding has_rider_id
named_riders = refl

unknown_riders :
    map (chosen_rider (three true false false)) (Some (codes "d") ∷ Some (codes "B") ∷ Some (codes "")
    ∷ Some (codes "ab") ∷ [])
    ≡ Err usage.UnknownRider ∷ Err usage.UnknownRider ∷ Err usage.UnknownRider ∷ Err usage.UnknownRider ∷ []
unfolding has_rider_id
unknown_riders = refl

-- rows with one id, which no sound feed has: the first is meant
first_rows :
    (find_stop (record base {
      stops = platform (codes "A") ∷ platform (codes "B") ∷ platform (codes "B")
          ∷ [];
    }) (codes "B") ≡ Some (record { 0 = 1 }))
    × (find_trip (record base {
      trips = trip (codes "A") 0 ∷ trip (codes "B") 0 ∷ trip (codes "B") 0
          ∷ [];
    }) (codes "B") ≡ Some (record { 0 = 1 }))
    × (find_rider (record base { riders = riders true true ++ riders true true }) (codes "child") ≡ Some (record { 0 = 1 }))
    × (find_trip base (codes "T") ≡ None) × (find_stop base (codes "AB") ≡ None)
unfolding has_stop_id has_trip_id has_rider_id
first_rows = (refl, refl, refl, refl, refl)

-- each name is looked up in its own list, however long the others are
own_lists :
    (find_stop (record base { trips = []; riders = [] }) (codes "C") ≡ Some (record { 0 = 2 }))
    × (find_trip (record base { stops = []; riders = [] }) (codes "T3") ≡ Some (record { 0 = 2 }))
    × (find_rider (record base { stops = []; trips = []; riders = riders true true }) (codes "child") ≡ Some (record { 0 = 1 }))
    × (chosen_rider (record base { stops = []; trips = []; riders = riders false true }) None ≡ Ok (Some (record { 0 = 1 })))
unfolding has_stop_id has_trip_id has_rider_id is_default_rider
own_lists = (refl, refl, refl, refl)

-- moments before 1970
moments :
    (civil_day (negsuc 0) ≡ negsuc 0) × (time_of_day (negsuc 0) ≡ 86_399) × (civil_day (negsuc 86_399) ≡ negsuc 0)
    × (civil_day (negsuc 86_400) ≡ negsuc 1)
    × (time_of_day (negsuc 86_399) ≡ 0) × (moment_at (negsuc 0) (negsuc 0) ≡ negsuc 86_400)
moments = (refl, refl, refl, refl, refl, refl)

-- times: the first, the last with two digits of hours, the last of all, and one beyond
times : map time_text (0 ∷ 59 ∷ 3_600 ∷ 359_999 ∷ 360_000 ∷ 604_799 ∷ 604_800 ∷ [])
    ≡ codes "00:00:00" ∷ codes "00:00:59" ∷ codes "01:00:00" ∷ codes "99:59:59" ∷ codes "100:00:00"
    ∷ codes "167:59:59" ∷ [] ∷ []
unfolding time_text
times = refl

-- days at the ends of months and years: the first of a month, in common years and in a leap year, the last month of
-- years that are not the last, and the first day of the next
dates :
    (date_of (pos 20_240) ≡ record { year = 2025; month = 6; day = 1 })
    × (date_of (pos 19_783) ≡ record { year = 2024; month = 3; day = 1 })
    × (date_of (negsuc 25_507) ≡ record { year = 1900; month = 3; day = 1 })
    × (date_of (pos 20_423) ≡ record { year = 2025; month = 12; day = 1 })
    × (date_of (pos 20_453) ≡ record { year = 2025; month = 12; day = 31 })
    × (date_of (pos 10_956) ≡ record { year = 1999; month = 12; day = 31 })
    × (date_of (pos 10_957) ≡ record { year = 2000; month = 1; day = 1 })
unfolding date_of date_from_year date_in_year
dates = (refl, refl, refl, refl, refl, refl, refl)

-- The files of a generated feed as they are written: line by line.
use Rattle.std.specs.Prelude.{ℕ, ◌+◌, ◌*◌, List, [], ◌∷◌, ◌++◌, codes, decimal}
use Rattle.transit_base.specs.DateTexts.{time_text}
use Rattle.plain_laws.specs.Plain.{joined_below}
use Rattle.feed_rows.specs.GeneratedFeed.{stop_name, route_name, route_stop, network_name, trip_name, area_name, row_text}
use Rattle.feed_maker.specs.declared.draws.Pace.{Pace}

-- the lines of names of columns
abbrev pub stops_header : List ℕ
stops_header = codes "stop_id" ++ 10 ∷ []

abbrev pub stop_areas_header : List ℕ
stop_areas_header = codes "area_id,stop_id" ++ 10 ∷ []

abbrev pub routes_header : List ℕ
routes_header = codes "route_id,network_id" ++ 10 ∷ []

abbrev pub trips_header : List ℕ
trips_header = codes "route_id,service_id,trip_id" ++ 10 ∷ []

abbrev pub stop_times_header : List ℕ
stop_times_header = codes "trip_id,stop_id,stop_sequence,arrival_time,departure_time" ++ 10 ∷ []

-- the line of a stop
unfoldable pub stop_line : ℕ → ℕ → List ℕ
stop_line r c = row_text (stop_name r c ∷ [])

-- the lines of the stops in row r
unfoldable pub stop_lines : ℕ → ℕ → List ℕ
stop_lines lines r = joined_below lines (stop_line r)

-- the line of a stop's area
unfoldable pub stop_area_line : ℕ → ℕ → ℕ → List ℕ
stop_area_line lines r c = row_text (area_name lines r c ∷ stop_name r c ∷ [])

-- the lines of the areas of the stops in row r
unfoldable pub stop_area_lines : ℕ → ℕ → List ℕ
stop_area_lines lines r = joined_below lines (stop_area_line lines r)

-- the line of route i
unfoldable pub route_line : ℕ → ℕ → List ℕ
route_line lines i = row_text (route_name lines i ∷ network_name i ∷ [])

-- the line of trip k of route i
unfoldable pub trip_line : ℕ → ℕ → ℕ → List ℕ
trip_line lines i k = row_text (route_name lines i ∷ codes "W" ∷ trip_name lines i k ∷ [])

-- the lines of the trips of route i
unfoldable pub trip_lines : ℕ → ℕ → List ℕ
trip_lines lines i = joined_below 24 (trip_line lines i)

-- the fields of trip k of route i, of its stop at position p, and of the position
unfoldable pub call_front : ℕ → ℕ → ℕ → ℕ → List ℕ
call_front lines i k p = trip_name lines i k ++ 44 ∷ route_stop lines i p ++ 44 ∷ decimal p

-- the times of a trip that arrives and departs at once, each behind a comma
unfoldable pub call_times : ℕ → List ℕ
call_times second = 44 ∷ time_text second ++ 44 ∷ time_text second

-- the line of trip k of route i at position p, at that second
unfoldable pub call_line : ℕ → ℕ → ℕ → ℕ → ℕ → List ℕ
call_line lines i k p second =
    let time = time_text second in
    row_text (trip_name lines i k ∷ route_stop lines i p ∷ decimal p ∷ time ∷ time ∷ [])

-- the lines of trip k of route i, which departs at that second and takes so long from each stop to the next
unfoldable pub call_lines : ℕ → ℕ → ℕ → ℕ → ℕ → List ℕ
call_lines lines i k departure hop = joined_below lines (λ p. call_line lines i k p (departure + p * hop))

-- the lines of the trips of route i at that pace
unfoldable pub timed_lines : ℕ → ℕ → Pace → List ℕ
timed_lines lines i pace =
    joined_below 24 (λ k. call_lines lines i k (21_600 + 600 * k + 60 * pace.offset) pace.hop)

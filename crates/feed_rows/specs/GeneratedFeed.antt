-- The feed that the command `gen` makes: a square of stops, with a line along each row and each column, and the drawn
-- numbers that tell when its trips depart and how long they take.
use Rattle.std.specs.Prelude.{ℕ, zero, suc, ◌+◌, ◌-◌, ◌*◌, ◌%◌, ◌==◌, nat_lt, if◌then◌else◌, List, [], ◌∷◌, ◌++◌, map, replicate, None, false, pos, codes, decimal}
use Rattle.std.specs.List.{flat_map}
use Rattle.transit_base.specs.DateTexts.{time_text}
use Rattle.plain_laws.specs.Plain.{list_below, joined_below}
use Rattle.feed_files.specs.Names.{column_text}
use Rattle.feed_files.specs.HeldFiles.{HeldFile}
use Rattle.feed_files.specs.declared.names.FileName.{FileName}
use Rattle.feed_files.specs.declared.names.FileName.TheVariants as file
use Rattle.feed_files.specs.declared.names.ColumnName.{ColumnName}
use Rattle.feed_files.specs.declared.names.ColumnName.TheVariants as column

-- ---- drawn numbers

-- the number that a draw puts in place of x
abbrev pub next_number : ℕ → ℕ
next_number x = (75 * x + 74) % 65537

-- the number after so many draws; it starts as the seed
abbrev pub drawn : ℕ → ℕ → ℕ
drawn seed zero = seed
drawn seed (suc n) = next_number (drawn seed n)

-- the minutes after 06:00:00 at which the first trip of route i departs, by the first of its two draws
abbrev pub offset : ℕ → ℕ → ℕ
offset seed i = drawn seed (2 * i + 1) % 10

-- the seconds from each stop of route i to the next, by the second of its two draws
abbrev pub hop : ℕ → ℕ → ℕ
hop seed i = 60 + drawn seed (2 * i + 2) % 120

-- ---- names

-- the stop in row r and column c
abbrev pub stop_name : ℕ → ℕ → List ℕ
stop_name r c = codes "s_" ++ decimal r ++ codes "_" ++ decimal c

-- route i: first one along each row, then one along each column
abbrev pub route_name : ℕ → ℕ → List ℕ
route_name lines i = if nat_lt i lines then codes "H" ++ decimal i else codes "V" ++ decimal (i - lines)

-- the stop at position p of route i
abbrev pub route_stop : ℕ → ℕ → ℕ → List ℕ
route_stop lines i p = if nat_lt i lines then stop_name i p else stop_name p (i - lines)

-- the network of route i
abbrev pub network_name : ℕ → List ℕ
network_name i = if i % 3 == 0 then codes "bus" else if i % 3 == 1 then codes "tram" else codes "rail"

-- trip k of route i
abbrev pub trip_name : ℕ → ℕ → ℕ → List ℕ
trip_name lines i k = route_name lines i ++ codes "_" ++ decimal k

-- the area of a stop: the half of the square before the diagonal from the last row to the last column, and the other
abbrev pub area_name : ℕ → ℕ → ℕ → List ℕ
area_name lines r c = if nat_lt (r + c) lines then codes "z0" else codes "z1"

-- when trip k of route i is at position p, in seconds of the service day
abbrev pub trip_time : ℕ → ℕ → ℕ → ℕ → ℕ
trip_time seed i k p = 21_600 + 600 * k + 60 * offset seed i + p * hop seed i

-- ---- files

-- fields behind the first, each behind a comma, and a line feed
abbrev pub further_fields : List (List ℕ) → List ℕ
further_fields [] = 10 ∷ []
further_fields (field ∷ fields) = 44 ∷ field ++ further_fields fields

-- a row: its fields with a comma between each two, and a line feed
abbrev pub row_text : List (List ℕ) → List ℕ
row_text [] = 10 ∷ []
row_text (field ∷ fields) = field ++ further_fields fields

-- a file of a header and rows
abbrev pub file_of : List ColumnName → List (List (List ℕ)) → List ℕ
file_of columns rows = flat_map row_text (map column_text columns ∷ rows)

-- stops.txt: row by row, and in a row column by column
unfoldable pub stops_file : ℕ → List ℕ
stops_file lines = file_of (column.StopId ∷ []) (joined_below lines (λ r. list_below lines (λ c. stop_name r c ∷ [])))

-- routes.txt
unfoldable pub routes_file : ℕ → List ℕ
routes_file lines =
    file_of (column.RouteId ∷ column.NetworkId ∷ [])
    (list_below (2 * lines) (λ i. route_name lines i ∷ network_name i ∷ []))

-- trips.txt: 24 trips of each route, of one service
unfoldable pub trips_file : ℕ → List ℕ
trips_file lines =
    file_of (column.RouteId ∷ column.ServiceId ∷ column.TripId ∷ [])
    (joined_below (2 * lines) (λ i. list_below 24 (λ k. route_name lines i ∷ codes "W" ∷ trip_name lines i k ∷ [])))

-- the row of trip k of route i at position p, where it arrives and departs at once
abbrev pub generated_stop_time_row : ℕ → ℕ → ℕ → ℕ → ℕ → List (List ℕ)
generated_stop_time_row seed lines i k p =
    let time = time_text (trip_time seed i k p) in
    trip_name lines i k ∷ route_stop lines i p ∷ decimal p ∷ time ∷ time ∷ []

-- stop_times.txt: trip by trip, and in a trip stop by stop
unfoldable pub stop_times_file : ℕ → ℕ → List ℕ
stop_times_file seed lines =
    file_of (column.TripId ∷ column.StopId ∷ column.StopSequence ∷ column.ArrivalTime ∷ column.DepartureTime ∷ [])
    (joined_below (2 * lines) (λ i. joined_below 24 (λ k. list_below lines (generated_stop_time_row seed lines i k))))

-- calendar.txt: the service runs on each day of 2025
unfoldable pub calendar_file : List ℕ
calendar_file =
    file_of
    (column.ServiceId ∷ column.Monday ∷ column.Tuesday ∷ column.Wednesday ∷ column.Thursday ∷ column.Friday
    ∷ column.Saturday ∷ column.Sunday ∷ column.StartDate ∷ column.EndDate ∷ [])
    ((codes "W" ∷ replicate 7 (codes "1") ++ codes "20250101" ∷ codes "20251231" ∷ []) ∷ [])

-- areas.txt
unfoldable pub areas_file : List ℕ
areas_file = file_of (column.AreaId ∷ []) ((codes "z0" ∷ []) ∷ (codes "z1" ∷ []) ∷ [])

-- stop_areas.txt: in the order of the stops
unfoldable pub stop_areas_file : ℕ → List ℕ
stop_areas_file lines =
    file_of (column.AreaId ∷ column.StopId ∷ [])
    (joined_below lines (λ r. list_below lines (λ c. area_name lines r c ∷ stop_name r c ∷ [])))

-- timeframes.txt: peak up to nine o'clock, and off from then on
unfoldable pub timeframes_file : List ℕ
timeframes_file =
    file_of (column.TimeframeGroupId ∷ column.StartTime ∷ column.EndTime ∷ column.ServiceId ∷ [])
    ((codes "peak" ∷ codes "00:00:00" ∷ codes "09:00:00" ∷ codes "W" ∷ [])
    ∷ (codes "off" ∷ codes "09:00:00" ∷ codes "24:00:00" ∷ codes "W" ∷ []) ∷ [])

-- a product and its amount in euros
abbrev pub generated_product_row : List ℕ → List ℕ → List (List ℕ)
generated_product_row product amount = product ∷ codes "EUR" ∷ amount ∷ []

-- fare_products.txt
unfoldable pub fare_products_file : List ℕ
fare_products_file =
    file_of (column.FareProductId ∷ column.Currency ∷ column.Amount ∷ [])
    (generated_product_row (codes "bus_peak") (codes "2.00")
    ∷ generated_product_row (codes "bus_off") (codes "1.00")
    ∷ generated_product_row (codes "tram") (codes "1.50")
    ∷ generated_product_row (codes "rail_far") (codes "3.00")
    ∷ generated_product_row (codes "rail_near") (codes "2.00")
    ∷ generated_product_row (codes "change") (codes "0.50")
    ∷ generated_product_row (codes "bonus") (codes "-0.30")
    ∷ generated_product_row (codes "combi") (codes "2.20") ∷ [])

-- fare_leg_rules.txt: buses by the time of day, trams alike, and trains by where they arrive
unfoldable pub fare_leg_rules_file : List ℕ
fare_leg_rules_file =
    file_of
    (column.LegGroupId ∷ column.NetworkId ∷ column.ToAreaId ∷ column.FromTimeframeGroupId ∷ column.FareProductId
    ∷ column.RulePriority ∷ [])
    ((codes "g_bus" ∷ codes "bus" ∷ [] ∷ codes "peak" ∷ codes "bus_peak" ∷ codes "0" ∷ [])
    ∷ (codes "g_bus" ∷ codes "bus" ∷ [] ∷ codes "off" ∷ codes "bus_off" ∷ codes "0" ∷ [])
    ∷ (codes "g_tram" ∷ codes "tram" ∷ [] ∷ [] ∷ codes "tram" ∷ codes "0" ∷ [])
    ∷ (codes "g_rail" ∷ codes "rail" ∷ codes "z1" ∷ [] ∷ codes "rail_far" ∷ codes "1" ∷ [])
    ∷ (codes "g_rail" ∷ codes "rail" ∷ [] ∷ [] ∷ codes "rail_near" ∷ codes "0" ∷ []) ∷ [])

-- fare_transfer_rules.txt: buses within an hour, and changes between bus, train and tram
unfoldable pub fare_transfer_rules_file : List ℕ
fare_transfer_rules_file =
    file_of
    (column.FromLegGroupId ∷ column.ToLegGroupId ∷ column.TransferCount ∷ column.DurationLimit ∷ column.DurationLimitType
    ∷ column.FareTransferType ∷ column.FareProductId ∷ [])
    ((codes "g_bus" ∷ codes "g_bus" ∷ codes "-1" ∷ codes "3600" ∷ codes "1" ∷ codes "0" ∷ [] ∷ [])
    ∷ (codes "g_bus" ∷ codes "g_tram" ∷ [] ∷ [] ∷ [] ∷ codes "0" ∷ codes "change" ∷ [])
    ∷ (codes "g_rail" ∷ codes "g_tram" ∷ [] ∷ [] ∷ [] ∷ codes "0" ∷ codes "bonus" ∷ [])
    ∷ (codes "g_tram" ∷ codes "g_bus" ∷ [] ∷ [] ∷ [] ∷ codes "2" ∷ codes "combi" ∷ []) ∷ [])

-- the files of the feed
abbrev pub generated : ℕ → ℕ → FileName → HeldFile
generated seed lines file.Stops = HeldFile.Bytes (stops_file lines)
generated seed lines file.Routes = HeldFile.Bytes (routes_file lines)
generated seed lines file.Trips = HeldFile.Bytes (trips_file lines)
generated seed lines file.StopTimes = HeldFile.Bytes (stop_times_file seed lines)
generated seed lines file.Calendar = HeldFile.Bytes calendar_file
generated seed lines file.CalendarDates = HeldFile.Missing
generated seed lines file.Frequencies = HeldFile.Missing
generated seed lines file.Transfers = HeldFile.Missing
generated seed lines file.Areas = HeldFile.Bytes areas_file
generated seed lines file.StopAreas = HeldFile.Bytes (stop_areas_file lines)
generated seed lines file.Networks = HeldFile.Missing
generated seed lines file.RouteNetworks = HeldFile.Missing
generated seed lines file.Timeframes = HeldFile.Bytes timeframes_file
generated seed lines file.RiderCategories = HeldFile.Missing
generated seed lines file.FareMedia = HeldFile.Missing
generated seed lines file.FareProducts = HeldFile.Bytes fare_products_file
generated seed lines file.FareLegRules = HeldFile.Bytes fare_leg_rules_file
generated seed lines file.FareTransferRules = HeldFile.Bytes fare_transfer_rules_file
generated seed lines file.FareLegJoinRules = HeldFile.Missing

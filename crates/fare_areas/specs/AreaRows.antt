-- The areas of each stop's own rows, and whose rows tell the areas of a stop.
use Rattle.std.specs.Prelude.{ℕ, ◌<◌, ◌&&◌, ◌||◌, ◌==◌, if◌then◌else◌, List, [], AllPairs, length, Option, Some, None, slice_get, unwrap_or, option_and_then}
use Rattle.std.specs.List.{list_any}
use Rattle.transit_base.specs.declared.numbers.AreaId.{AreaId}
use Rattle.transit_base.specs.declared.numbers.NetworkId.{NetworkId}
use Rattle.transit_base.specs.declared.numbers.RouteId.{RouteId}
use Rattle.transit_base.specs.declared.numbers.StopId.{StopId}
use Rattle.feed_rows.specs.declared.rows.StopAreaRow.{StopAreaRow}
use Rattle.feed_rows.specs.declared.rows.StopRow.{StopRow}
use Rattle.feed_rows.specs.Codes.{platform_type, station_type}
use Rattle.feed_rows.specs.FeedRows.{FeedRows}
use Rattle.feed_rows.specs.Legs.{own_areas, has_own_areas}
use Rattle.feed_rows.specs.StopLinks.{is_platform, is_station, parent_of}
use Rattle.item_groups.specs.declared.groups.Grouped.{Grouped}
use Rattle.plain_laws.specs.Plain.{list_below, picks_below}

-- the area of a row, with the stop's number
abbrev pub by_stop : StopAreaRow → Grouped AreaId
by_stop row = record { group = row.stop.0; item = row.area }

-- the areas of a stop's group
abbrev pub areas_at : List (List AreaId) → ℕ → List AreaId
areas_at groups stop = unwrap_or (slice_get groups stop) []

-- each area has a greater number than those before it
abbrev pub DoRise : List AreaId → Type 0
DoRise areas = AllPairs (λ a b. a.0 < b.0) areas

abbrev pub area_of : ℕ → AreaId
area_of i = record { 0 = i }

-- those of the areas that have numbers below a bound, ascending, each once
abbrev pub ordered : ℕ → List AreaId → List AreaId
ordered most areas = picks_below most (λ i. list_any (λ a. a.0 == i) areas) area_of

-- the areas of the own rows of each stop
abbrev pub own_table : FeedRows → List (List AreaId)
own_table feed = list_below (length feed.stops) (λ stop. own_areas feed (record { 0 = stop }))

-- the stop whose rows tell the areas of a stop: a platform's own or, where it has none, its station's; a station's own
abbrev pub source_of : FeedRows → StopId → Option StopId
source_of feed stop =
    if is_platform feed stop
    then (if has_own_areas feed stop then Some stop else parent_of feed stop)
    else if is_station feed stop then Some stop
    else None

-- the same of a row and its number, where each stop's own areas are known
abbrev pub source_in : List (List AreaId) → StopRow → ℕ → Option StopId
source_in own row number =
    if (row.kind == platform_type) && (length (areas_at own number) == 0) then row.parent
    else if (row.kind == platform_type) || (row.kind == station_type) then Some (record { 0 = number })
    else None

-- and of the row at a place
abbrev pub source_at : List (List AreaId) → List StopRow → ℕ → Option StopId
source_at own stops number = option_and_then (λ row. source_in own row number) (slice_get stops number)

-- the network of the route's row
abbrev pub route_network : FeedRows → RouteId → Option NetworkId
route_network feed route = option_and_then (λ row. row.network) (slice_get feed.routes route.0)

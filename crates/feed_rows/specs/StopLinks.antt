-- Stations, platforms and the walks between platforms. (GTFS Schedule Reference: stops.txt, transfers.txt; which row
-- governs, and the walks without a row, are the profile's.)
use Rattle.std.specs.Prelude.{ℕ, Bool, ◌&&◌, ◌==◌, if◌then◌else◌, List, [], ◌∷◌, Option, Some, None, slice_get, find, option_and_then}
use Rattle.std.specs.Option.{option_or}
use Rattle.transit_base.specs.declared.numbers.StopId.{StopId}
use Rattle.feed_rows.specs.declared.rows.StopRow.{StopRow}
use Rattle.feed_rows.specs.declared.rows.LinkRow.{LinkRow}
use Rattle.feed_rows.specs.Codes.{platform_type, station_type}
use Rattle.feed_rows.specs.FeedRows.{FeedRows}
use Rattle.plain_laws.specs.Plain.{at_and, filled_and, ids_where}

-- the stop is a platform
abbrev pub is_platform : FeedRows → StopId → Bool
is_platform feed stop = at_and feed.stops stop.0 (λ row. row.kind == platform_type)

-- the stop is a station
abbrev pub is_station : FeedRows → StopId → Bool
is_station feed stop = at_and feed.stops stop.0 (λ row. row.kind == station_type)

-- the station of a platform, if it has one
abbrev pub parent_of : FeedRows → StopId → Option StopId
parent_of feed stop = option_and_then (λ row. row.parent) (slice_get feed.stops stop.0)

-- the row is a platform of the station
abbrev pub is_member : StopId → StopRow → Bool
is_member station row = (row.kind == platform_type) && filled_and row.parent (λ parent. parent.0 == station.0)

-- the platforms that a stop stands for: a platform for itself, a station for its platforms in file order
unfoldable pub stop_set : FeedRows → StopId → List StopId
stop_set feed stop =
    if is_platform feed stop then stop ∷ []
    else if is_station feed stop then ids_where (λ i. record { 0 = i }) (is_member stop) feed.stops
    else []

-- the earliest row from the one stop to the other, where both are there
abbrev pub row_between : FeedRows → Option StopId → Option StopId → Option LinkRow
row_between feed (Some from) (Some to) = find (λ row. (row.from.0 == from.0) && (row.to.0 == to.0)) feed.links
row_between feed (Some from) None = None
row_between feed None to = None

-- the governing row: the first found from platform to platform, from platform to station, from station to platform,
-- and from station to station
abbrev pub governing_row : FeedRows → StopId → StopId → Option LinkRow
governing_row feed from to =
    option_or (row_between feed (Some from) (Some to))
    (option_or (row_between feed (Some from) (parent_of feed to))
    (option_or (row_between feed (parent_of feed from) (Some to)) (row_between feed (parent_of feed from) (parent_of feed to))))

-- both platforms are of one station
abbrev pub same_station : FeedRows → StopId → StopId → Bool
same_station feed from to = filled_and (parent_of feed from) (λ p. filled_and (parent_of feed to) (λ q. p.0 == q.0))

-- the seconds of the walk without a governing row: 0 to the platform itself, 180 within a station, else none
abbrev pub unruled_link : FeedRows → StopId → StopId → Option ℕ
unruled_link feed from to =
    if from.0 == to.0 then Some 0 else if same_station feed from to then Some 180 else None

-- the seconds of the walk by the governing row: its seconds, or none where it forbids the change
abbrev pub link_by : FeedRows → StopId → StopId → Option LinkRow → Option ℕ
link_by feed from to (Some row) = if row.forbidden then None else Some row.seconds
link_by feed from to None = unruled_link feed from to

-- the seconds of the walk from one platform to another or to itself; none where there is no walk
unfoldable pub link : FeedRows → StopId → StopId → Option ℕ
link feed from to =
    if is_platform feed from && is_platform feed to then link_by feed from to (governing_row feed from to) else None

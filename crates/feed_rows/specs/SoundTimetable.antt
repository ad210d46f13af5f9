-- What holds of the stops, routes, trips, stop times, services, frequencies and links of a feed. Row numbers are in
-- range, whole numbers of the files are at most 2^31 - 1, and times of a service day at most 167:59:59.
use Rattle.std.specs.Prelude.{◌≡◌, ◌≢◌, ◌<◌, ◌≤◌, pos, negsuc, ◌≤ℤ◌, length, All, AllPairs, IsSome}
use Rattle.std.specs.Option.{ForSome}
use Rattle.feed_rows.specs.Limits.{most_rows}
use Rattle.transit_base.specs.Limits.{most_time}
use Rattle.transit_base.specs.declared.calendar.Day.{Day}
use Rattle.feed_rows.specs.declared.rows.StopTimeRow.{StopTimeRow}
use Rattle.feed_rows.specs.Codes.{platform_type, station_type}
use Rattle.feed_rows.specs.FeedRows.{FeedRows}
use Rattle.feed_rows.specs.Calls.{first_time, last_time}
use Rattle.plain_laws.specs.Plain.{ForItem}
use Rattle.feed_rows.specs.SoundNames.{IsIdText}

-- a day of the years 1 to 9999
pub record IsCalendarDay (day : Day) : Type 0 where
  pub low : negsuc 719_161 ≤ℤ day.0
  pub high : day.0 ≤ℤ pos 2_932_896

-- stops.txt
pub record AreSoundStops (feed : FeedRows) : Type 0 where
  pub few : length feed.stops ≤ most_rows
  pub ids : All (λ s. IsIdText s.id) feed.stops
  pub no_doubles : AllPairs (λ s t. s.id ≢ t.id) feed.stops
  pub kinds : All (λ s. s.kind ≤ 4) feed.stops
  pub parents : All (λ s. ForSome s.parent (λ p. p.0 < length feed.stops)) feed.stops
  -- a parent is a station, and only a platform has one
  pub stations : All (λ s. ForSome s.parent (λ p. ForItem feed.stops p.0 (λ t. t.kind ≡ station_type))) feed.stops
  pub platforms : All (λ s. ForSome s.parent (λ p. s.kind ≡ platform_type)) feed.stops

-- routes.txt
pub record AreSoundRoutes (feed : FeedRows) : Type 0 where
  pub few : length feed.routes ≤ most_rows
  pub ids : All (λ r. IsIdText r.id) feed.routes
  pub no_doubles : AllPairs (λ r s. r.id ≢ s.id) feed.routes
  pub networks : All (λ r. ForSome r.network (λ n. n.0 < length feed.network_names)) feed.routes

-- trips.txt
pub record AreSoundTrips (feed : FeedRows) : Type 0 where
  pub few : length feed.trips ≤ most_rows
  pub ids : All (λ t. IsIdText t.id) feed.trips
  pub no_doubles : AllPairs (λ t u. t.id ≢ u.id) feed.trips
  pub routes : All (λ t. t.route.0 < length feed.routes) feed.trips
  pub services : All (λ t. t.service.0 < length feed.service_names) feed.trips

-- where both rows have times, the last of this row is at most the first of the other
abbrev pub EndsBy : StopTimeRow → StopTimeRow → Type 0
EndsBy row other = ForSome (last_time row) (λ a. ForSome (first_time other) (λ b. a ≤ b))

-- no row of its trip has a lesser sequence
abbrev pub IsFirstCall : FeedRows → StopTimeRow → Type 0
IsFirstCall feed row = All (λ other. other.trip.0 ≡ row.trip.0 → row.sequence ≤ other.sequence) feed.stop_times

-- no row of its trip has a greater sequence
abbrev pub IsLastCall : FeedRows → StopTimeRow → Type 0
IsLastCall feed row = All (λ other. other.trip.0 ≡ row.trip.0 → other.sequence ≤ row.sequence) feed.stop_times

-- stop_times.txt, row by row
pub record AreSoundStopTimes (feed : FeedRows) : Type 0 where
  pub few : length feed.stop_times ≤ most_rows
  pub trips : All (λ c. c.trip.0 < length feed.trips) feed.stop_times
  pub stops : All (λ c. c.stop.0 < length feed.stops) feed.stop_times
  pub platforms : All (λ c. ForItem feed.stops c.stop.0 (λ s. s.kind ≡ platform_type)) feed.stop_times
  pub sequences : All (λ c. c.sequence ≤ 2_147_483_647) feed.stop_times
  pub arrivals : All (λ c. ForSome c.arrival (λ s. s ≤ most_time)) feed.stop_times
  pub departures : All (λ c. ForSome c.departure (λ s. s ≤ most_time)) feed.stop_times

-- the rows of stop_times.txt beside one another
pub record AreOrderedCalls (feed : FeedRows) : Type 0 where
  -- no two rows of a trip have one sequence
  pub no_doubles : AllPairs (λ c d. c.trip.0 ≡ d.trip.0 → c.sequence ≢ d.sequence) feed.stop_times
  -- the first and the last row of each trip have a time
  pub firsts : All (λ c. IsFirstCall feed c → IsSome (first_time c)) feed.stop_times
  pub lasts : All (λ c. IsLastCall feed c → IsSome (last_time c)) feed.stop_times
  -- no time falls, in a row and from a row of a trip to each of greater sequence
  pub within_rows : All (λ c. ForSome (first_time c) (λ a. ForSome (last_time c) (λ b. a ≤ b))) feed.stop_times
  pub between_rows : All (λ c. All (λ d. c.trip.0 ≡ d.trip.0 → c.sequence < d.sequence → EndsBy c d) feed.stop_times) feed.stop_times

-- calendar.txt
pub record AreSoundServices (feed : FeedRows) : Type 0 where
  pub few : length feed.services ≤ most_rows
  pub names : All (λ s. s.service.0 < length feed.service_names) feed.services
  pub no_doubles : AllPairs (λ s t. s.service.0 ≢ t.service.0) feed.services
  pub weekdays : All (λ s. length s.days ≡ 7) feed.services
  pub firsts : All (λ s. IsCalendarDay s.first) feed.services
  pub lasts : All (λ s. IsCalendarDay s.last) feed.services
  pub ordered : All (λ s. s.first.0 ≤ℤ s.last.0) feed.services

-- calendar_dates.txt
pub record AreSoundExceptions (feed : FeedRows) : Type 0 where
  pub few : length feed.exceptions ≤ most_rows
  pub services : All (λ e. e.service.0 < length feed.service_names) feed.exceptions
  pub no_doubles : AllPairs (λ e f. e.service.0 ≡ f.service.0 → e.day.0 ≢ f.day.0) feed.exceptions
  pub days : All (λ e. IsCalendarDay e.day) feed.exceptions

-- frequencies.txt
pub record AreSoundFrequencies (feed : FeedRows) : Type 0 where
  pub few : length feed.frequencies ≤ most_rows
  pub trips : All (λ f. f.trip.0 < length feed.trips) feed.frequencies
  pub no_doubles : AllPairs (λ f g. f.trip.0 ≡ g.trip.0 → f.start ≢ g.start) feed.frequencies
  pub starts : All (λ f. f.start ≤ most_time) feed.frequencies
  pub ends : All (λ f. f.end ≤ most_time) feed.frequencies
  pub headways : All (λ f. (1 ≤ f.headway) × (f.headway ≤ 2_147_483_647)) feed.frequencies

-- transfers.txt
pub record AreSoundLinks (feed : FeedRows) : Type 0 where
  pub few : length feed.links ≤ most_rows
  pub froms : All (λ l. l.from.0 < length feed.stops) feed.links
  pub tos : All (λ l. l.to.0 < length feed.stops) feed.links
  pub seconds : All (λ l. l.seconds ≤ 2_147_483_647) feed.links

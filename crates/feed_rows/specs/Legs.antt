-- What fare rules look at in a journey: for each leg the network, the areas of its stops and the timeframe groups that
-- hold. Each ride is one leg, which is the profile's. (GTFS Schedule Reference: stop_areas.txt, timeframes.txt.)
use Rattle.std.specs.Prelude.{ℕ, Bool, ◌&&◌, ◌==◌, nat_le, nat_lt, if◌then◌else◌, List, [], length, Option, ℤ, option_map}
use Rattle.std.specs.Option.{option_map_or}
use Rattle.std.specs.List.{list_any}
use Rattle.transit_base.specs.declared.moments.Moment.{Moment}
use Rattle.transit_base.specs.declared.numbers.StopId.{StopId}
use Rattle.transit_base.specs.declared.numbers.AreaId.{AreaId}
use Rattle.transit_base.specs.declared.numbers.FrameId.{FrameId}
use Rattle.transit_base.specs.Moments.{civil_day, time_of_day}
use Rattle.feed_rows.specs.declared.journeys.LegFacts.{LegFacts}
use Rattle.feed_rows.specs.declared.journeys.Ride.{Ride}
use Rattle.feed_rows.specs.declared.journeys.RideFacts.{RideFacts}
use Rattle.feed_rows.specs.declared.rows.TimeframeRow.{TimeframeRow}
use Rattle.feed_rows.specs.FeedRows.{FeedRows}
use Rattle.feed_rows.specs.ServiceDays.{is_active}
use Rattle.feed_rows.specs.StopLinks.{is_platform, is_station, parent_of}
use Rattle.feed_rows.specs.Journeys.{facts_at}
use Rattle.plain_laws.specs.Plain.{collect_below, picks_below}

-- a row puts the stop into the area
abbrev pub is_in_area : FeedRows → StopId → ℕ → Bool
is_in_area feed stop area = list_any (λ row. (row.stop.0 == stop.0) && (row.area.0 == area)) feed.stop_areas

-- the areas of the stop's own rows, ascending
abbrev pub own_areas : FeedRows → StopId → List AreaId
own_areas feed stop = picks_below (length feed.areas) (is_in_area feed stop) (λ i. record { 0 = i })

-- the stop has rows of its own
abbrev pub has_own_areas : FeedRows → StopId → Bool
has_own_areas feed stop = list_any (λ row. row.stop.0 == stop.0) feed.stop_areas

-- the areas of a stop: a platform's own or, where it has no rows, its station's; a station's own; else none
unfoldable pub stop_areas : FeedRows → StopId → List AreaId
stop_areas feed stop =
    if is_platform feed stop
    then (if has_own_areas feed stop then own_areas feed stop else option_map_or (own_areas feed) (parent_of feed stop) [])
    else if is_station feed stop then own_areas feed stop
    else []

-- the row's service is active on the day, and the time of day lies from its start to before its end
abbrev pub is_within : FeedRows → ℤ → ℕ → TimeframeRow → Bool
is_within feed day time row = is_active feed row.service day && nat_le row.start time && nat_lt time row.end

-- the timeframe group holds at the moment, judged on the moment's own civil day
unfoldable pub holds_at : FeedRows → FrameId → ℤ → Bool
holds_at feed frame moment =
    list_any (λ row. (row.frame.0 == frame.0) && is_within feed (civil_day moment) (time_of_day moment) row) feed.timeframes

-- the timeframe groups that hold at the moment, ascending
abbrev pub frames_at : FeedRows → Moment → List FrameId
frames_at feed moment =
    picks_below (length feed.frame_names) (λ i. holds_at feed (record { 0 = i }) moment.0) (λ i. record { 0 = i })

-- the facts of the leg that is this ride
unfoldable pub leg_facts : FeedRows → RideFacts → LegFacts
leg_facts feed ride =
    record {
      network = ride.network;
      from_areas = stop_areas feed ride.from;
      to_areas = stop_areas feed ride.to;
      from_frames = frames_at feed ride.departure;
      to_frames = frames_at feed ride.arrival;
      departure = ride.departure;
      arrival = ride.arrival;
    }

-- the legs of a journey with these rides, in order of travel; none where one is no ride of the feed
unfoldable pub legs_of : FeedRows → List Ride → Option (List LegFacts)
legs_of feed rides = collect_below (length rides) (λ i. option_map (leg_facts feed) (facts_at feed rides i))

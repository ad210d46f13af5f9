-- A test of a feed's rows that proves them sound where they pass: so a feed that is written out is sound by computing,
-- `sound_from_test feed refl`. Each fact is tested list by list, in the order of its definition.
use Rattle.std.proofs.Common.{◌≡◌, ◌≢◌, ◌<◌, ◌≤◌, ◌⊎◌, ap, ℕ, ◌^◌, Bool, true, List, Option, Some, length, is_some, nat_abs, pos, negsuc}
use Rattle.feed_rows.specs.Limits.{most_rows}
use Rattle.transit_base.specs.Limits.{most_time, day_seconds}
use Rattle.transit_base.specs.declared.calendar.Day.{Day}
use Rattle.transit_base.specs.declared.numbers.RiderId.{RiderId}
use Rattle.transit_base.specs.declared.numbers.MediumId.{MediumId}
use Rattle.transit_base.specs.declared.numbers.LegGroupId.{LegGroupId}
use Rattle.feed_rows.specs.declared.rows.StopTimeRow.{StopTimeRow}
use Rattle.feed_rows.specs.declared.rows.TimeframeRow.{TimeframeRow}
use Rattle.feed_rows.specs.declared.rows.ProductRow.{ProductRow}
use Rattle.feed_rows.specs.FeedRows.{FeedRows}
use Rattle.feed_rows.specs.Calls.{first_time, last_time}
use Rattle.feed_rows.specs.SoundNames.{IsIdText, IsNameList}
use Rattle.feed_rows.specs.SoundTimetable.{IsCalendarDay, EndsBy, IsFirstCall, IsLastCall, AreSoundStops, AreSoundRoutes, AreSoundTrips, AreSoundStopTimes, AreOrderedCalls, AreSoundServices, AreSoundExceptions, AreSoundFrequencies, AreSoundLinks}
use Rattle.feed_rows.specs.SoundFares.{AreSoundAreas, AreSoundStopAreas, AreSoundTimeframes, AreSoundRiders, AreSoundMedia, AreSoundProducts, AreSoundLegRules, AreSoundTransferRules, AreSoundJoinRules, IsSoundCurrency}
use Rattle.feed_rows.specs.SoundFeed.{IsSoundFeed}
use Rattle.plain_laws.proofs.Decisions.{Test, ask, and_so, found, is_true, is_false, at_most, below, is, int_at_most, int_is, is_text, isnt, both, all_three, either, given, likewise, each, each_pair, for_some, for_item, same_field}

-- the text of an id
abbrev id_text : (text : List ℕ) → Test (IsIdText text)
id_text text =
    likewise (both (at_most 1 (length text)) (both (at_most (length text) 255) (each text (λ b. all_three (isnt (is b 9)) (isnt (is b 10)) (isnt (is b 13))))))
    (λ is. record { filled = is.0; short = is.1.0; in_a_line = is.1.1 })
    (λ text. (text.filled, (text.short, text.in_a_line)))

-- a day of the calendar
abbrev calendar_day : (day : Day) → Test (IsCalendarDay day)
calendar_day day =
    likewise (both (int_at_most (negsuc 719_161) day.0) (int_at_most day.0 (pos 2_932_896)))
    (λ is. record { low = is.0; high = is.1 })
    (λ day. (day.low, day.high))

-- two ids in fields
abbrev same_rider : (o p : Option RiderId) → Test (o ≡ p)
same_rider o p = same_field (λ id. id.0) (λ x y e. ap (λ n. record { 0 = n }) e) o p

abbrev same_medium : (o p : Option MediumId) → Test (o ≡ p)
same_medium o p = same_field (λ id. id.0) (λ x y e. ap (λ n. record { 0 = n }) e) o p

abbrev equal_group : (o p : Option LegGroupId) → Test (o ≡ p)
equal_group o p = same_field (λ id. id.0) (λ x y e. ap (λ n. record { 0 = n }) e) o p

-- the names of services, of networks or the like
abbrev name_list : (names : List (List ℕ)) → Option (IsNameList names)
name_list names =
    ask (at_most (length names) 16_000_000) (λ few.
    ask (each names (λ name. id_text name)) (λ texts.
    ask (each_pair names (λ a b. isnt (is_text a b))) (λ no_doubles.
    Some (record { few = few; texts = texts; no_doubles = no_doubles }))))

-- the stops
abbrev stops_test : (feed : FeedRows) → Option (AreSoundStops feed)
stops_test feed =
    ask (at_most (length feed.stops) most_rows) (λ few.
    ask (each feed.stops (λ s. id_text s.id)) (λ ids.
    ask (each_pair feed.stops (λ s t. isnt (is_text s.id t.id))) (λ no_doubles.
    ask (each feed.stops (λ s. at_most s.kind 4)) (λ kinds.
    ask (each feed.stops (λ s. for_some s.parent (λ p. below p.0 (length feed.stops)))) (λ parents.
    ask (each feed.stops (λ s. for_some s.parent (λ p. for_item feed.stops p.0 (λ t. is t.kind 1)))) (λ stations.
    ask (each feed.stops (λ s. for_some s.parent (λ p. is s.kind 0))) (λ platforms.
    Some (record {
      few = few;
      ids = ids;
      no_doubles = no_doubles;
      kinds = kinds;
      parents = parents;
      stations = stations;
      platforms = platforms;
    }))))))))

-- the routes
abbrev routes_test : (feed : FeedRows) → Option (AreSoundRoutes feed)
routes_test feed =
    ask (at_most (length feed.routes) most_rows) (λ few.
    ask (each feed.routes (λ r. id_text r.id)) (λ ids.
    ask (each_pair feed.routes (λ r s. isnt (is_text r.id s.id))) (λ no_doubles.
    ask (each feed.routes (λ r. for_some r.network (λ n. below n.0 (length feed.network_names)))) (λ networks.
    Some (record { few = few; ids = ids; no_doubles = no_doubles; networks = networks })))))

-- the trips
abbrev trips_test : (feed : FeedRows) → Option (AreSoundTrips feed)
trips_test feed =
    ask (at_most (length feed.trips) most_rows) (λ few.
    ask (each feed.trips (λ t. id_text t.id)) (λ ids.
    ask (each_pair feed.trips (λ t u. isnt (is_text t.id u.id))) (λ no_doubles.
    ask (each feed.trips (λ t. below t.route.0 (length feed.routes))) (λ routes.
    ask (each feed.trips (λ t. below t.service.0 (length feed.service_names))) (λ services.
    Some (record { few = few; ids = ids; no_doubles = no_doubles; routes = routes; services = services }))))))

-- the stop times, row by row
abbrev stop_times_test : (feed : FeedRows) → Option (AreSoundStopTimes feed)
stop_times_test feed =
    ask (at_most (length feed.stop_times) most_rows) (λ few.
    ask (each feed.stop_times (λ c. below c.trip.0 (length feed.trips))) (λ trips.
    ask (each feed.stop_times (λ c. below c.stop.0 (length feed.stops))) (λ stops.
    ask (each feed.stop_times (λ c. for_item feed.stops c.stop.0 (λ s. is s.kind 0))) (λ platforms.
    ask (each feed.stop_times (λ c. at_most c.sequence 2_147_483_647)) (λ sequences.
    ask (each feed.stop_times (λ c. for_some c.arrival (λ s. at_most s most_time))) (λ arrivals.
    ask (each feed.stop_times (λ c. for_some c.departure (λ s. at_most s most_time))) (λ departures.
    Some (record {
      few = few;
      trips = trips;
      stops = stops;
      platforms = platforms;
      sequences = sequences;
      arrivals = arrivals;
      departures = departures;
    }))))))))

-- a row of a trip is its first, or its last
abbrev first_call : (feed : FeedRows) (row : StopTimeRow) → Test (IsFirstCall feed row)
first_call feed row = each feed.stop_times (λ other. given (is other.trip.0 row.trip.0) (at_most row.sequence other.sequence))

abbrev last_call : (feed : FeedRows) (row : StopTimeRow) → Test (IsLastCall feed row)
last_call feed row = each feed.stop_times (λ other. given (is other.trip.0 row.trip.0) (at_most other.sequence row.sequence))

abbrev ends_by : (row other : StopTimeRow) → Test (EndsBy row other)
ends_by row other = for_some (last_time row) (λ a. for_some (first_time other) (λ b. at_most a b))

abbrev goes_before : (row other : StopTimeRow) → Test (row.sequence < other.sequence → EndsBy row other)
goes_before row other = given (below row.sequence other.sequence) (ends_by row other)

-- the stop times beside one another
abbrev calls_test : (feed : FeedRows) → Option (AreOrderedCalls feed)
calls_test feed =
    ask (each_pair feed.stop_times (λ c d. given (is c.trip.0 d.trip.0) (isnt (is c.sequence d.sequence)))) (λ no_doubles.
    ask (each feed.stop_times (λ c. given (first_call feed c) (is_true (is_some (first_time c))))) (λ firsts.
    ask (each feed.stop_times (λ c. given (last_call feed c) (is_true (is_some (last_time c))))) (λ lasts.
    ask (each feed.stop_times (λ c. for_some (first_time c) (λ a. for_some (last_time c) (λ b. at_most a b)))) (λ within_rows.
    ask (each feed.stop_times (λ c. each feed.stop_times (λ d. given (is c.trip.0 d.trip.0) (goes_before c d)))) (λ between_rows.
    Some (record {
      no_doubles = no_doubles;
      firsts = firsts;
      lasts = lasts;
      within_rows = within_rows;
      between_rows = between_rows;
    }))))))

-- the calendar
abbrev services_test : (feed : FeedRows) → Option (AreSoundServices feed)
services_test feed =
    ask (at_most (length feed.services) most_rows) (λ few.
    ask (each feed.services (λ s. below s.service.0 (length feed.service_names))) (λ names.
    ask (each_pair feed.services (λ s t. isnt (is s.service.0 t.service.0))) (λ no_doubles.
    ask (each feed.services (λ s. is (length s.days) 7)) (λ weekdays.
    ask (each feed.services (λ s. calendar_day s.first)) (λ firsts.
    ask (each feed.services (λ s. calendar_day s.last)) (λ lasts.
    ask (each feed.services (λ s. int_at_most s.first.0 s.last.0)) (λ ordered.
    Some (record {
      few = few;
      names = names;
      no_doubles = no_doubles;
      weekdays = weekdays;
      firsts = firsts;
      lasts = lasts;
      ordered = ordered;
    }))))))))

-- the exceptions
abbrev exceptions_test : (feed : FeedRows) → Option (AreSoundExceptions feed)
exceptions_test feed =
    ask (at_most (length feed.exceptions) most_rows) (λ few.
    ask (each feed.exceptions (λ e. below e.service.0 (length feed.service_names))) (λ services.
    ask (each_pair feed.exceptions (λ e f. given (is e.service.0 f.service.0) (isnt (int_is e.day.0 f.day.0)))) (λ no_doubles.
    ask (each feed.exceptions (λ e. calendar_day e.day)) (λ days.
    Some (record { few = few; services = services; no_doubles = no_doubles; days = days })))))

-- the frequency rows
abbrev frequencies_test : (feed : FeedRows) → Option (AreSoundFrequencies feed)
frequencies_test feed =
    ask (at_most (length feed.frequencies) most_rows) (λ few.
    ask (each feed.frequencies (λ f. below f.trip.0 (length feed.trips))) (λ trips.
    ask (each_pair feed.frequencies (λ f g. given (is f.trip.0 g.trip.0) (isnt (is f.start g.start)))) (λ no_doubles.
    ask (each feed.frequencies (λ f. at_most f.start most_time)) (λ starts.
    ask (each feed.frequencies (λ f. at_most f.end most_time)) (λ ends.
    ask (each feed.frequencies (λ f. both (at_most 1 f.headway) (at_most f.headway 2_147_483_647))) (λ headways.
    Some (record {
      few = few;
      trips = trips;
      no_doubles = no_doubles;
      starts = starts;
      ends = ends;
      headways = headways;
    })))))))

-- the links
abbrev links_test : (feed : FeedRows) → Option (AreSoundLinks feed)
links_test feed =
    ask (at_most (length feed.links) most_rows) (λ few.
    ask (each feed.links (λ l. below l.from.0 (length feed.stops))) (λ froms.
    ask (each feed.links (λ l. below l.to.0 (length feed.stops))) (λ tos.
    ask (each feed.links (λ l. at_most l.seconds 2_147_483_647)) (λ seconds.
    Some (record { few = few; froms = froms; tos = tos; seconds = seconds })))))

-- the areas
abbrev areas_test : (feed : FeedRows) → Option (AreSoundAreas feed)
areas_test feed =
    ask (at_most (length feed.areas) most_rows) (λ few.
    ask (each feed.areas (λ a. id_text a.id)) (λ ids.
    ask (each_pair feed.areas (λ a b. isnt (is_text a.id b.id))) (λ no_doubles.
    Some (record { few = few; ids = ids; no_doubles = no_doubles }))))

-- the areas of stops
abbrev stop_areas_test : (feed : FeedRows) → Option (AreSoundStopAreas feed)
stop_areas_test feed =
    ask (at_most (length feed.stop_areas) most_rows) (λ few.
    ask (each feed.stop_areas (λ s. below s.area.0 (length feed.areas))) (λ areas.
    ask (each feed.stop_areas (λ s. below s.stop.0 (length feed.stops))) (λ stops.
    Some (record { few = few; areas = areas; stops = stops }))))

-- one timeframe ends before the other starts
abbrev lie_apart : (t u : TimeframeRow) → Test ((t.end ≤ u.start) ⊎ (u.end ≤ t.start))
lie_apart t u = either (at_most t.end u.start) (at_most u.end t.start)

-- the timeframes
abbrev timeframes_test : (feed : FeedRows) → Option (AreSoundTimeframes feed)
timeframes_test feed =
    ask (at_most (length feed.timeframes) most_rows) (λ few.
    ask (each feed.timeframes (λ t. below t.frame.0 (length feed.frame_names))) (λ frames.
    ask (each feed.timeframes (λ t. below t.service.0 (length feed.service_names))) (λ services.
    ask (each feed.timeframes (λ t. below t.start t.end)) (λ ordered.
    ask (each feed.timeframes (λ t. at_most t.end day_seconds)) (λ ends.
    ask (each_pair feed.timeframes (λ t u. given (is t.frame.0 u.frame.0) (given (is t.service.0 u.service.0) (lie_apart t u)))) (λ apart.
    Some (record {
      few = few;
      frames = frames;
      services = services;
      ordered = ordered;
      ends = ends;
      apart = apart;
    })))))))

-- the rider categories
abbrev riders_test : (feed : FeedRows) → Option (AreSoundRiders feed)
riders_test feed =
    ask (at_most (length feed.riders) most_rows) (λ few.
    ask (each feed.riders (λ r. id_text r.id)) (λ ids.
    ask (each_pair feed.riders (λ r s. isnt (is_text r.id s.id))) (λ no_doubles.
    Some (record { few = few; ids = ids; no_doubles = no_doubles }))))

-- the fare media
abbrev media_test : (feed : FeedRows) → Option (AreSoundMedia feed)
media_test feed =
    ask (at_most (length feed.media) most_rows) (λ few.
    ask (each feed.media (λ m. id_text m.id)) (λ ids.
    ask (each_pair feed.media (λ m n. isnt (is_text m.id n.id))) (λ no_doubles.
    Some (record { few = few; ids = ids; no_doubles = no_doubles }))))

-- two product rows are not for one rider category and one medium
abbrev differ : (p q : ProductRow) → Test (p.rider ≡ q.rider → p.medium ≢ q.medium)
differ p q = given (same_rider p.rider q.rider) (isnt (same_medium p.medium q.medium))

-- the fare products
abbrev products_test : (feed : FeedRows) → Option (AreSoundProducts feed)
products_test feed =
    ask (at_most (length feed.products) most_rows) (λ few.
    ask (each feed.products (λ p. below p.product.0 (length feed.product_names))) (λ names.
    ask (each feed.products (λ p. for_some p.rider (λ r. below r.0 (length feed.riders)))) (λ riders.
    ask (each feed.products (λ p. for_some p.medium (λ m. below m.0 (length feed.media)))) (λ media.
    ask (each_pair feed.products (λ p q. given (is p.product.0 q.product.0) (differ p q))) (λ no_doubles.
    ask (each feed.products (λ p. at_most (nat_abs p.amount.0) (10 ^ 12))) (λ amounts.
    Some (record {
      few = few;
      names = names;
      riders = riders;
      media = media;
      no_doubles = no_doubles;
      amounts = amounts;
    })))))))

-- the leg rules
abbrev leg_rules_test : (feed : FeedRows) → Option (AreSoundLegRules feed)
leg_rules_test feed =
    ask (at_most (length feed.leg_rules) most_rows) (λ few.
    ask (each feed.leg_rules (λ r. for_some r.group (λ g. below g.0 (length feed.group_names)))) (λ groups.
    ask (each feed.leg_rules (λ r. for_some r.network (λ n. below n.0 (length feed.network_names)))) (λ networks.
    ask (each feed.leg_rules (λ r. for_some r.from_area (λ a. below a.0 (length feed.areas)))) (λ from_areas.
    ask (each feed.leg_rules (λ r. for_some r.to_area (λ a. below a.0 (length feed.areas)))) (λ to_areas.
    ask (each feed.leg_rules (λ r. for_some r.from_frame (λ f. below f.0 (length feed.frame_names)))) (λ from_frames.
    ask (each feed.leg_rules (λ r. for_some r.to_frame (λ f. below f.0 (length feed.frame_names)))) (λ to_frames.
    ask (each feed.leg_rules (λ r. below r.product.0 (length feed.product_names))) (λ products.
    ask (each feed.leg_rules (λ r. at_most r.priority 2_147_483_647)) (λ priorities.
    ask (given (is_false feed.has_priority) (each feed.leg_rules (λ r. is r.priority 0))) (λ unranked.
    Some (record {
      few = few;
      groups = groups;
      networks = networks;
      from_areas = from_areas;
      to_areas = to_areas;
      from_frames = from_frames;
      to_frames = to_frames;
      products = products;
      priorities = priorities;
      unranked = unranked;
    })))))))))))

-- the transfer rules
abbrev transfer_rules_test : (feed : FeedRows) → Option (AreSoundTransferRules feed)
transfer_rules_test feed =
    ask (at_most (length feed.transfer_rules) most_rows) (λ few.
    ask (each feed.transfer_rules (λ r. for_some r.from (λ g. below g.0 (length feed.group_names)))) (λ froms.
    ask (each feed.transfer_rules (λ r. for_some r.to (λ g. below g.0 (length feed.group_names)))) (λ tos.
    ask (each feed.transfer_rules (λ r. for_some r.product (λ p. below p.0 (length feed.product_names)))) (λ products.
    ask (each feed.transfer_rules (λ r. at_most r.kind 2)) (λ kinds.
    ask (each feed.transfer_rules (λ r. for_some r.count (λ n. equal_group r.from r.to))) (λ counted.
    ask (each feed.transfer_rules (λ r. for_some r.count (λ n. both (at_most 1 n) (at_most n 2_147_483_647)))) (λ counts.
    ask (each feed.transfer_rules (λ r. for_some r.limit (λ l. both (at_most 1 l.seconds) (at_most l.seconds 2_147_483_647)))) (λ limits.
    ask (each feed.transfer_rules (λ r. for_some r.limit (λ l. at_most l.kind 3))) (λ limit_kinds.
    Some (record {
      few = few;
      froms = froms;
      tos = tos;
      products = products;
      kinds = kinds;
      counted = counted;
      counts = counts;
      limits = limits;
      limit_kinds = limit_kinds;
    }))))))))))

-- the rules by which legs join
abbrev join_rules_test : (feed : FeedRows) → Option (AreSoundJoinRules feed)
join_rules_test feed =
    ask (at_most (length feed.joins) most_rows) (λ few.
    ask (each feed.joins (λ j. below j.from_network.0 (length feed.network_names))) (λ from_networks.
    ask (each feed.joins (λ j. below j.to_network.0 (length feed.network_names))) (λ to_networks.
    ask (each feed.joins (λ j. for_some j.from_stop (λ s. below s.0 (length feed.stops)))) (λ from_stops.
    ask (each feed.joins (λ j. for_some j.to_stop (λ s. below s.0 (length feed.stops)))) (λ to_stops.
    ask (each feed.joins (λ j. both (given (is_true (is_some j.from_stop)) (is_true (is_some j.to_stop)))
    (given (is_true (is_some j.to_stop)) (is_true (is_some j.from_stop))))) (λ both_stops.
    Some (record {
      few = few;
      from_networks = from_networks;
      to_networks = to_networks;
      from_stops = from_stops;
      to_stops = to_stops;
      both_stops = both_stops;
    })))))))

-- the currency
abbrev currency_test : (feed : FeedRows) → Option (IsSoundCurrency feed)
currency_test feed =
    ask (given (is_true (is_some feed.currency)) (at_most 1 (length feed.products))) (λ has.
    ask (given (at_most 1 (length feed.products)) (is_true (is_some feed.currency))) (λ needs.
    ask (for_some feed.currency (λ c. is (length c) 3)) (λ code.
    ask (for_some feed.currency (λ c. each c (λ b. both (at_most 65 b) (at_most b 90)))) (λ letters.
    ask (either (is feed.decimals 0) (either (is feed.decimals 2) (is feed.decimals 3))) (λ decimals.
    ask (given (is_false (is_some feed.currency)) (is feed.decimals 2)) (λ no_currency.
    Some (record {
      known = (has, needs);
      code = code;
      letters = letters;
      decimals = decimals;
      no_currency = no_currency;
    })))))))

-- the rows, list by list
abbrev pub sound_feed : (feed : FeedRows) → Option (IsSoundFeed feed)
sound_feed feed =
    and_so (stops_test feed) (λ stops.
    and_so (routes_test feed) (λ routes.
    and_so (trips_test feed) (λ trips.
    and_so (stop_times_test feed) (λ stop_times.
    and_so (calls_test feed) (λ calls.
    and_so (services_test feed) (λ services.
    and_so (exceptions_test feed) (λ exceptions.
    and_so (frequencies_test feed) (λ frequencies.
    and_so (links_test feed) (λ links.
    and_so (areas_test feed) (λ areas.
    and_so (stop_areas_test feed) (λ stop_areas.
    and_so (timeframes_test feed) (λ timeframes.
    and_so (riders_test feed) (λ riders.
    and_so (media_test feed) (λ media.
    and_so (products_test feed) (λ products.
    and_so (leg_rules_test feed) (λ leg_rules.
    and_so (transfer_rules_test feed) (λ transfer_rules.
    and_so (join_rules_test feed) (λ joins.
    and_so (name_list feed.service_names) (λ service_names.
    and_so (name_list feed.network_names) (λ network_names.
    and_so (name_list feed.frame_names) (λ frame_names.
    and_so (name_list feed.product_names) (λ product_names.
    and_so (name_list feed.group_names) (λ group_names.
    and_so (currency_test feed) (λ currency.
    Some (record {
      stops = stops;
      routes = routes;
      trips = trips;
      stop_times = stop_times;
      calls = calls;
      services = services;
      exceptions = exceptions;
      frequencies = frequencies;
      links = links;
      areas = areas;
      stop_areas = stop_areas;
      timeframes = timeframes;
      riders = riders;
      media = media;
      products = products;
      leg_rules = leg_rules;
      transfer_rules = transfer_rules;
      joins = joins;
      service_names = service_names;
      network_names = network_names;
      frame_names = frame_names;
      product_names = product_names;
      group_names = group_names;
      currency = currency;
    })))))))))))))))))))))))))

-- the rows pass
abbrev pub is_sound_feed : FeedRows → Bool
is_sound_feed feed = is_some (sound_feed feed)

-- and so they are sound
pub sound_from_test : (feed : FeedRows) → is_sound_feed feed ≡ true → IsSoundFeed feed
sound_from_test feed passes = found (sound_feed feed) passes

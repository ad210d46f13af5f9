-- Feeds with one value just past its edge, each of which has a fault: so the facts that are said of a feed ask no less.
use Rattle.std.proofs.Common.{◌≡◌, refl, ℕ, List, [], ◌∷◌, Some, None, true, false, pos, negsuc, arith}
use Rattle.std.specs.Prelude.{codes}
use Rattle.std.proofs.lemmas.Int.{ints}
use Rattle.feed_rows.specs.FeedRows.{FeedRows}
use Rattle.feed_rows.specs.SoundFeed.{IsSoundFeed}
use Rattle.feed_examples.specs.BaseFeed.{base, platform, trip, network_rule, transfer_rule, join_rule}
use Rattle.feed_examples.proofs.CornerRides.{timed, frequency}
use Rattle.feed_examples.proofs.EdgeFeed.{long_text, calendar, added, timeframe, link_row, offer}

-- the rows of the feed have a fault
abbrev pub IsFaulty : FeedRows → Type 0
IsFaulty feed = IsSoundFeed feed → ⊥

-- ids: empty, of 256 bytes, with a tab, a line feed or a carriage return
abbrev named : List ℕ → FeedRows
named id = record base { stops = platform id ∷ [] }

empty_id : IsFaulty (named [])
empty_id sound = let no = (sound.stops.ids 0 (platform []) (omega arith)).filled in absurd (omega (arith, no))

longest_id : IsFaulty (named (long_text 256))
longest_id sound = let no = (sound.stops.ids 0 (platform []) (omega arith)).short in absurd (omega (arith, no))

tab_in_id : IsFaulty (named (65 ∷ 9 ∷ []))
tab_in_id sound = ((sound.stops.ids 0 (platform []) (omega arith)).in_a_line 1 0 (omega arith)).0 refl

line_feed_in_id : IsFaulty (named (10 ∷ []))
line_feed_in_id sound = ((sound.stops.ids 0 (platform []) (omega arith)).in_a_line 0 0 (omega arith)).1 refl

return_in_id : IsFaulty (named (13 ∷ []))
return_in_id sound = ((sound.stops.ids 0 (platform []) (omega arith)).in_a_line 0 0 (omega arith)).2 refl

-- stops: a sixth kind, a parent that is no row, one that is a platform, and one of a station
sixth_kind : IsFaulty (record base { stops = record { id = codes "A"; kind = 5; parent = None } ∷ [] })
sixth_kind sound = let no = sound.stops.kinds 0 (platform []) (omega arith) in absurd (omega (arith, no))

parent_past_the_rows : IsFaulty (record base { stops = record { id = codes "A"; kind = 0; parent = Some (record { 0 = 1 }) } ∷ [] })
parent_past_the_rows sound = let no = sound.stops.parents 0 (platform []) (omega arith) (record { 0 = 1 }) refl in absurd (omega (arith, no))

parent_is_a_platform : IsFaulty (record base { stops = record { id = codes "A"; kind = 0; parent = Some (record { 0 = 1 }) } ∷ record { id = codes "P"; kind = 0; parent = None } ∷ [] })
parent_is_a_platform sound = let no = sound.stops.stations 0 (platform []) (omega arith) (record { 0 = 1 }) refl (platform []) (omega arith) in absurd (omega (arith, no))

station_with_a_parent : IsFaulty (record base { stops = record { id = codes "P"; kind = 1; parent = Some (record { 0 = 1 }) } ∷ record { id = codes "Q"; kind = 1; parent = None } ∷ [] })
station_with_a_parent sound = let no = sound.stops.platforms 0 (platform []) (omega arith) (record { 0 = 1 }) refl in absurd (omega (arith, no))

-- routes and trips: a network, a route and a service without a name or row
network_past_the_names : IsFaulty (record base { routes = record { id = codes "R"; network = Some (record { 0 = 2 }) } ∷ [] })
network_past_the_names sound = let no = sound.routes.networks 0 (record { id = []; network = None }) (omega arith) (record { 0 = 2 }) refl in absurd (omega (arith, no))

route_past_the_rows : IsFaulty (record base { trips = trip (codes "T") 2 ∷ [] })
route_past_the_rows sound = let no = sound.trips.routes 0 (trip [] 0) (omega arith) in absurd (omega (arith, no))

service_past_the_names : IsFaulty (record base { trips = record (trip (codes "T") 0) { service = record { 0 = 1 } } ∷ [] })
service_past_the_names sound = let no = sound.trips.services 0 (trip [] 0) (omega arith) in absurd (omega (arith, no))

-- stop times: a trip and a stop without a row, a stop that is a station, a sequence and times past their limits
trip_past_the_rows : IsFaulty (record base { stop_times = timed 3 0 1 (Some 1) None ∷ [] })
trip_past_the_rows sound = let no = sound.stop_times.trips 0 (timed 0 0 0 None None) (omega arith) in absurd (omega (arith, no))

stop_past_the_rows : IsFaulty (record base { stop_times = timed 0 3 1 (Some 1) None ∷ [] })
stop_past_the_rows sound = let no = sound.stop_times.stops 0 (timed 0 0 0 None None) (omega arith) in absurd (omega (arith, no))

call_at_a_station : IsFaulty (record base { stops = record { id = codes "P"; kind = 1; parent = None } ∷ []; stop_times = timed 0 0 1 (Some 1) None ∷ [] })
call_at_a_station sound = let no = sound.stop_times.platforms 0 (timed 0 0 0 None None) (omega arith) (platform []) (omega arith) in absurd (omega (arith, no))

sequence_past_its_limit : IsFaulty (record base { stop_times = timed 0 0 2147483648 (Some 1) None ∷ [] })
sequence_past_its_limit sound = let no = sound.stop_times.sequences 0 (timed 0 0 0 None None) (omega arith) in absurd (omega (arith, no))

arrival_after_the_week : IsFaulty (record base { stop_times = timed 0 0 1 (Some 604800) None ∷ [] })
arrival_after_the_week sound = let no = sound.stop_times.arrivals 0 (timed 0 0 0 None None) (omega arith) 604800 refl in absurd (omega (arith, no))

departure_after_the_week : IsFaulty (record base { stop_times = timed 0 0 1 None (Some 604800) ∷ [] })
departure_after_the_week sound = let no = sound.stop_times.departures 0 (timed 0 0 0 None None) (omega arith) 604800 refl in absurd (omega (arith, no))

-- services: no name, six weekdays, a first or a last day outside the calendar, and a last day before the first
calendar_past_the_names : IsFaulty (record base { services = calendar 1 (pos 0) (pos 0) ∷ [] })
calendar_past_the_names sound = let no = sound.services.names 0 (calendar 0 (pos 0) (pos 0)) (omega arith) in absurd (omega (arith, no))

six_weekdays : IsFaulty (record base { services = record (calendar 0 (pos 0) (pos 0)) { days = true ∷ true ∷ true ∷ true ∷ true ∷ true ∷ [] } ∷ [] })
six_weekdays sound = let no = sound.services.weekdays 0 (calendar 0 (pos 0) (pos 0)) (omega arith) in absurd (omega (arith, no))

first_before_the_calendar : IsFaulty (record base { services = calendar 0 (negsuc 719162) (pos 0) ∷ [] })
first_before_the_calendar sound = let no = (sound.services.firsts 0 (calendar 0 (pos 0) (pos 0)) (omega arith)).low in absurd (omega (arith, ints, no))

last_after_the_calendar : IsFaulty (record base { services = calendar 0 (pos 0) (pos 2932897) ∷ [] })
last_after_the_calendar sound = let no = (sound.services.lasts 0 (calendar 0 (pos 0) (pos 0)) (omega arith)).high in absurd (omega (arith, ints, no))

last_before_first : IsFaulty (record base { services = calendar 0 (pos 1) (pos 0) ∷ [] })
last_before_first sound = let no = sound.services.ordered 0 (calendar 0 (pos 0) (pos 0)) (omega arith) in absurd (omega (arith, ints, no))

-- exceptions: no name, and days outside the calendar
exception_past_the_names : IsFaulty (record base { exceptions = added 1 (pos 0) ∷ [] })
exception_past_the_names sound = let no = sound.exceptions.services 0 (added 0 (pos 0)) (omega arith) in absurd (omega (arith, no))

exception_before_the_calendar : IsFaulty (record base { exceptions = added 0 (negsuc 719162) ∷ [] })
exception_before_the_calendar sound = let no = (sound.exceptions.days 0 (added 0 (pos 0)) (omega arith)).low in absurd (omega (arith, ints, no))

exception_after_the_calendar : IsFaulty (record base { exceptions = added 0 (pos 2932897) ∷ [] })
exception_after_the_calendar sound = let no = (sound.exceptions.days 0 (added 0 (pos 0)) (omega arith)).high in absurd (omega (arith, ints, no))

-- frequency rows: no trip, times past the week, and a headway of no seconds
frequency_past_the_trips : IsFaulty (record base { frequencies = frequency 3 0 1 1 ∷ [] })
frequency_past_the_trips sound = let no = sound.frequencies.trips 0 (frequency 0 0 0 0) (omega arith) in absurd (omega (arith, no))

start_after_the_week : IsFaulty (record base { frequencies = frequency 0 604800 1 1 ∷ [] })
start_after_the_week sound = let no = sound.frequencies.starts 0 (frequency 0 0 0 0) (omega arith) in absurd (omega (arith, no))

end_after_the_week : IsFaulty (record base { frequencies = frequency 0 0 604800 1 ∷ [] })
end_after_the_week sound = let no = sound.frequencies.ends 0 (frequency 0 0 0 0) (omega arith) in absurd (omega (arith, no))

no_headway : IsFaulty (record base { frequencies = frequency 0 0 1 0 ∷ [] })
no_headway sound = let no = (sound.frequencies.headways 0 (frequency 0 0 0 0) (omega arith)).0 in absurd (omega (arith, no))

headway_past_its_limit : IsFaulty (record base { frequencies = frequency 0 0 1 2147483648 ∷ [] })
headway_past_its_limit sound = let no = (sound.frequencies.headways 0 (frequency 0 0 0 0) (omega arith)).1 in absurd (omega (arith, no))

-- links and areas of stops: no stop, no area, and seconds past their limit
link_from_no_row : IsFaulty (record base { links = link_row 3 0 0 ∷ [] })
link_from_no_row sound = let no = sound.links.froms 0 (link_row 0 0 0) (omega arith) in absurd (omega (arith, no))

link_to_no_row : IsFaulty (record base { links = link_row 0 3 0 ∷ [] })
link_to_no_row sound = let no = sound.links.tos 0 (link_row 0 0 0) (omega arith) in absurd (omega (arith, no))

walk_past_its_limit : IsFaulty (record base { links = link_row 0 0 2147483648 ∷ [] })
walk_past_its_limit sound = let no = sound.links.seconds 0 (link_row 0 0 0) (omega arith) in absurd (omega (arith, no))

area_past_the_rows : IsFaulty (record base { stop_areas = record { area = record { 0 = 0 }; stop = record { 0 = 0 } } ∷ [] })
area_past_the_rows sound = let no = sound.stop_areas.areas 0 (record { area = record { 0 = 0 }; stop = record { 0 = 0 } }) (omega arith) in absurd (omega (arith, no))

area_of_no_stop : IsFaulty (record base { areas = record { id = codes "zone" } ∷ []; stop_areas = record { area = record { 0 = 0 }; stop = record { 0 = 3 } } ∷ [] })
area_of_no_stop sound = let no = sound.stop_areas.stops 0 (record { area = record { 0 = 0 }; stop = record { 0 = 0 } }) (omega arith) in absurd (omega (arith, no))

-- timeframes: no group, no service, an empty one, and one that ends after midnight
frame_past_the_names : IsFaulty (record base { frame_names = codes "early" ∷ []; timeframes = timeframe 1 0 0 1 ∷ [] })
frame_past_the_names sound = let no = sound.timeframes.frames 0 (timeframe 0 0 0 0) (omega arith) in absurd (omega (arith, no))

frame_of_no_service : IsFaulty (record base { frame_names = codes "early" ∷ []; timeframes = timeframe 0 1 0 1 ∷ [] })
frame_of_no_service sound = let no = sound.timeframes.services 0 (timeframe 0 0 0 0) (omega arith) in absurd (omega (arith, no))

empty_timeframe : IsFaulty (record base { frame_names = codes "early" ∷ []; timeframes = timeframe 0 0 60 60 ∷ [] })
empty_timeframe sound = let no = sound.timeframes.ordered 0 (timeframe 0 0 0 0) (omega arith) in absurd (omega (arith, no))

timeframe_after_midnight : IsFaulty (record base { frame_names = codes "early" ∷ []; timeframes = timeframe 0 0 60 86401 ∷ [] })
timeframe_after_midnight sound = let no = sound.timeframes.ends 0 (timeframe 0 0 0 0) (omega arith) in absurd (omega (arith, no))

-- products: no name, rider category or medium, and amounts of more than 10^12
product_past_the_names : IsFaulty (record base { products = offer 3 None None (pos 1) ∷ [] })
product_past_the_names sound = let no = sound.products.names 0 (offer 0 None None (pos 0)) (omega arith) in absurd (omega (arith, no))

rider_past_the_rows : IsFaulty (record base { products = offer 0 (Some 0) None (pos 1) ∷ [] })
rider_past_the_rows sound = let no = sound.products.riders 0 (offer 0 None None (pos 0)) (omega arith) (record { 0 = 0 }) refl in absurd (omega (arith, no))

medium_past_the_rows : IsFaulty (record base { products = offer 0 None (Some 0) (pos 1) ∷ [] })
medium_past_the_rows sound = let no = sound.products.media 0 (offer 0 None None (pos 0)) (omega arith) (record { 0 = 0 }) refl in absurd (omega (arith, no))

amount_past_its_limit : IsFaulty (record base { products = offer 0 None None (pos 1000000000001) ∷ [] })
amount_past_its_limit sound = let no = sound.products.amounts 0 (offer 0 None None (pos 0)) (omega arith) in absurd (omega (arith, no))

amount_below_its_limit : IsFaulty (record base { products = offer 0 None None (negsuc 1000000000000) ∷ [] })
amount_below_its_limit sound = let no = sound.products.amounts 0 (offer 0 None None (pos 0)) (omega arith) in absurd (omega (arith, no))

-- leg rules: a group, a network, areas, timeframe groups and a product without a row or name, a priority past its limit, and one where no row has any
rule_of_no_group : IsFaulty (record base { leg_rules = record (network_rule 0 0 0) { group = Some (record { 0 = 2 }) } ∷ [] })
rule_of_no_group sound = let no = sound.leg_rules.groups 0 (network_rule 0 0 0) (omega arith) (record { 0 = 2 }) refl in absurd (omega (arith, no))

rule_of_no_network : IsFaulty (record base { leg_rules = record (network_rule 0 0 0) { network = Some (record { 0 = 2 }) } ∷ [] })
rule_of_no_network sound = let no = sound.leg_rules.networks 0 (network_rule 0 0 0) (omega arith) (record { 0 = 2 }) refl in absurd (omega (arith, no))

rule_of_no_from_area : IsFaulty (record base { leg_rules = record (network_rule 0 0 0) { from_area = Some (record { 0 = 0 }) } ∷ [] })
rule_of_no_from_area sound = let no = sound.leg_rules.from_areas 0 (network_rule 0 0 0) (omega arith) (record { 0 = 0 }) refl in absurd (omega (arith, no))

rule_of_no_to_area : IsFaulty (record base { leg_rules = record (network_rule 0 0 0) { to_area = Some (record { 0 = 0 }) } ∷ [] })
rule_of_no_to_area sound = let no = sound.leg_rules.to_areas 0 (network_rule 0 0 0) (omega arith) (record { 0 = 0 }) refl in absurd (omega (arith, no))

rule_of_no_from_frame : IsFaulty (record base { leg_rules = record (network_rule 0 0 0) { from_frame = Some (record { 0 = 0 }) } ∷ [] })
rule_of_no_from_frame sound = let no = sound.leg_rules.from_frames 0 (network_rule 0 0 0) (omega arith) (record { 0 = 0 }) refl in absurd (omega (arith, no))

rule_of_no_to_frame : IsFaulty (record base { leg_rules = record (network_rule 0 0 0) { to_frame = Some (record { 0 = 0 }) } ∷ [] })
rule_of_no_to_frame sound = let no = sound.leg_rules.to_frames 0 (network_rule 0 0 0) (omega arith) (record { 0 = 0 }) refl in absurd (omega (arith, no))

rule_of_no_product : IsFaulty (record base { leg_rules = network_rule 0 0 3 ∷ [] })
rule_of_no_product sound = let no = sound.leg_rules.products 0 (network_rule 0 0 0) (omega arith) in absurd (omega (arith, no))

priority_past_its_limit : IsFaulty (record base { has_priority = true; leg_rules = record (network_rule 0 0 0) { priority = 2147483648 } ∷ [] })
priority_past_its_limit sound = let no = sound.leg_rules.priorities 0 (network_rule 0 0 0) (omega arith) in absurd (omega (arith, no))

priority_without_the_column : IsFaulty (record base { leg_rules = record (network_rule 0 0 0) { priority = 1 } ∷ [] })
priority_without_the_column sound = let no = sound.leg_rules.unranked refl 0 (network_rule 0 0 0) (omega arith) in absurd (omega (arith, no))

-- transfer rules: groups and a product without a name, a fourth type, a count and a limit of 0 or past their limits, and a fifth kind of limit
change_from_no_group : IsFaulty (record base { transfer_rules = record (transfer_rule 0 0 0 None) { from = Some (record { 0 = 2 }) } ∷ [] })
change_from_no_group sound = let no = sound.transfer_rules.froms 0 (transfer_rule 0 0 0 None) (omega arith) (record { 0 = 2 }) refl in absurd (omega (arith, no))

change_to_no_group : IsFaulty (record base { transfer_rules = record (transfer_rule 0 0 0 None) { to = Some (record { 0 = 2 }) } ∷ [] })
change_to_no_group sound = let no = sound.transfer_rules.tos 0 (transfer_rule 0 0 0 None) (omega arith) (record { 0 = 2 }) refl in absurd (omega (arith, no))

change_of_no_product : IsFaulty (record base { transfer_rules = record (transfer_rule 0 0 0 None) { product = Some (record { 0 = 3 }) } ∷ [] })
change_of_no_product sound = let no = sound.transfer_rules.products 0 (transfer_rule 0 0 0 None) (omega arith) (record { 0 = 3 }) refl in absurd (omega (arith, no))

fourth_type : IsFaulty (record base { transfer_rules = record (transfer_rule 0 0 0 None) { kind = 3 } ∷ [] })
fourth_type sound = let no = sound.transfer_rules.kinds 0 (transfer_rule 0 0 0 None) (omega arith) in absurd (omega (arith, no))

count_of_none : IsFaulty (record base { transfer_rules = record (transfer_rule 0 0 0 None) { count = Some 0 } ∷ [] })
count_of_none sound = let no = (sound.transfer_rules.counts 0 (transfer_rule 0 0 0 None) (omega arith) 0 refl).0 in absurd (omega (arith, no))

count_past_its_limit : IsFaulty (record base { transfer_rules = record (transfer_rule 0 0 0 None) { count = Some 2147483648 } ∷ [] })
count_past_its_limit sound = let no = (sound.transfer_rules.counts 0 (transfer_rule 0 0 0 None) (omega arith) 2147483648 refl).1 in absurd (omega (arith, no))

limit_of_none : IsFaulty (record base { transfer_rules = record (transfer_rule 0 0 0 None) { limit = Some (record { seconds = 0; kind = 0 }) } ∷ [] })
limit_of_none sound = let no = (sound.transfer_rules.limits 0 (transfer_rule 0 0 0 None) (omega arith) (record { seconds = 0; kind = 0 }) refl).0 in absurd (omega (arith, no))

limit_past_its_limit : IsFaulty (record base { transfer_rules = record (transfer_rule 0 0 0 None) { limit = Some (record { seconds = 2147483648; kind = 0 }) } ∷ [] })
limit_past_its_limit sound = let no = (sound.transfer_rules.limits 0 (transfer_rule 0 0 0 None) (omega arith) (record { seconds = 2147483648; kind = 0 }) refl).1 in absurd (omega (arith, no))

fifth_limit_kind : IsFaulty (record base { transfer_rules = record (transfer_rule 0 0 0 None) { limit = Some (record { seconds = 1; kind = 4 }) } ∷ [] })
fifth_limit_kind sound = let no = sound.transfer_rules.limit_kinds 0 (transfer_rule 0 0 0 None) (omega arith) (record { seconds = 1; kind = 4 }) refl in absurd (omega (arith, no))

-- rules by which legs join: networks without a name, stops without a row, and one stop without the other
join_from_no_network : IsFaulty (record base { joins = join_rule 2 0 None None ∷ [] })
join_from_no_network sound = let no = sound.joins.from_networks 0 (join_rule 0 0 None None) (omega arith) in absurd (omega (arith, no))

join_to_no_network : IsFaulty (record base { joins = join_rule 0 2 None None ∷ [] })
join_to_no_network sound = let no = sound.joins.to_networks 0 (join_rule 0 0 None None) (omega arith) in absurd (omega (arith, no))

join_from_no_stop : IsFaulty (record base { joins = join_rule 0 1 (Some (record { 0 = 3 })) (Some (record { 0 = 0 })) ∷ [] })
join_from_no_stop sound =
    let no = sound.joins.from_stops 0 (join_rule 0 0 None None) (omega arith) (record { 0 = 3 }) refl in absurd (omega (arith, no))

join_to_no_stop : IsFaulty (record base { joins = join_rule 0 1 (Some (record { 0 = 0 })) (Some (record { 0 = 3 })) ∷ [] })
join_to_no_stop sound =
    let no = sound.joins.to_stops 0 (join_rule 0 0 None None) (omega arith) (record { 0 = 3 }) refl in absurd (omega (arith, no))

join_from_one_stop : IsFaulty (record base { joins = join_rule 0 1 (Some (record { 0 = 0 })) None ∷ [] })
join_from_one_stop sound =
    absurd (let no : false ≡ true = (sound.joins.both_stops 0 (join_rule 0 0 None None) (omega arith)).0 refl in cc)

join_to_one_stop : IsFaulty (record base { joins = join_rule 0 1 None (Some (record { 0 = 0 })) ∷ [] })
join_to_one_stop sound =
    absurd (let no : false ≡ true = (sound.joins.both_stops 0 (join_rule 0 0 None None) (omega arith)).1 refl in cc)

-- currencies: four letters, a small letter, the character before A, one decimal, a currency without products, and none with decimals of another
four_letters : IsFaulty (record base { currency = Some (codes "EURO") })
four_letters sound = let no = sound.currency.code (codes "EURO") refl in absurd (omega (arith, no))

small_letter : IsFaulty (record base { currency = Some (codes "EUr") })
small_letter sound = let no = (sound.currency.letters (codes "EUr") refl 2 0 (omega arith)).1 in absurd (omega (arith, no))

before_the_letters : IsFaulty (record base { currency = Some (codes "@UR") })
before_the_letters sound = let no = (sound.currency.letters (codes "@UR") refl 0 0 (omega arith)).0 in absurd (omega (arith, no))

currency_of_nothing : IsFaulty (record base { products = [] })
currency_of_nothing sound = let no = sound.currency.known.0 refl in absurd (omega (arith, no))

decimals_of_nothing : IsFaulty (record base { products = []; currency = None; decimals = 0 })
decimals_of_nothing sound = let no = sound.currency.no_currency refl in absurd (omega (arith, no))

one_decimal : IsFaulty (record base { decimals = 1 })
one_decimal sound = absurd (let no = sound.currency.decimals in grind (arith, no))

-- names: two that are one, and one that is no text of an id
name_twice : IsFaulty (record base { service_names = codes "W" ∷ codes "W" ∷ [] })
name_twice sound = sound.service_names.no_doubles 0 1 [] (omega arith) (omega arith) refl

empty_name : IsFaulty (record base { service_names = codes "W" ∷ [] ∷ [] })
empty_name sound = let no = (sound.service_names.texts 1 [] (omega arith)).filled in absurd (omega (arith, no))

-- The numbers that stand for choices in columns, where a rule reads them. (GTFS Schedule Reference: stops.txt, location_type;
-- stop_times.txt, pickup_type and drop_off_type; calendar.txt; calendar_dates.txt, exception_type; transfers.txt,
-- transfer_type; rider_categories.txt, is_default_fare_category; fare_transfer_rules.txt, duration_limit_type and
-- fare_transfer_type.)
use Rattle.std.specs.Prelude.{ℕ, Bool, ◌||◌, ◌==◌}

-- location_type: where vehicles are boarded, and what has such places
abbrev pub platform_type : ℕ
platform_type = 0

abbrev pub station_type : ℕ
station_type = 1

-- pickup_type and drop_off_type: riders may not board, or alight
abbrev pub not_available : ℕ
not_available = 1

-- a day of the week: the service runs
abbrev pub service_available : ℕ
service_available = 1

-- exception_type: the service is added on the date
abbrev pub service_added : ℕ
service_added = 1

-- transfer_type: no change between the two
abbrev pub change_forbidden : ℕ
change_forbidden = 3

-- is_default_fare_category: the category of riders who name none
abbrev pub default_category : ℕ
default_category = 1

-- duration_limit_type: from which moment of the run's first leg, and to which of the leg after the change; the fourth type, 2,
-- counts from the arrival to the departure
abbrev pub departure_to_arrival : ℕ
departure_to_arrival = 0

abbrev pub departure_to_departure : ℕ
departure_to_departure = 1

abbrev pub arrival_to_arrival : ℕ
arrival_to_arrival = 3

-- fare_transfer_type: what is paid of the leg before, the change and the leg after: the first two or the change alone; all three
-- under type 1
abbrev pub leg_before_and_change : ℕ
leg_before_and_change = 0

abbrev pub change_alone : ℕ
change_alone = 2

-- the leg after a change of this type is included in it
abbrev pub includes_leg_after : ℕ → Bool
includes_leg_after kind = (kind == leg_before_and_change) || (kind == change_alone)

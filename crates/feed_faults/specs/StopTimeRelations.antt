-- Stop times among the rows of their file. They belong to one trip where their trip ids are equal. First, last and before
-- go by stop_sequence, and among equal sequences by row, over all rows of the file.
use Rattle.std.specs.Prelude.{ℕ, ◌&&◌, ◌||◌, ◌==◌, not, nat_lt, Bool, List, length, bytes_eq, is_some, Option}
use Rattle.std.specs.Option.{option_or}
use Rattle.transit_base.specs.Limits.{most_time}
use Rattle.feed_files.specs.declared.names.ColumnName.TheVariants.{TripId, StopId, StopSequence, ArrivalTime, DepartureTime}
use Rattle.plain_laws.specs.Plain.{filled_and, at_and, any_below, list_below}
use Rattle.feed_faults.specs.Records.{FileTable, row_count, field}
use Rattle.feed_rows.specs.TimeGrammar.{time_value}
use Rattle.feed_faults.specs.FieldGrammars.{most_int}
use Rattle.feed_faults.specs.FieldValues.{int_or_zero, stop_kind}
use Rattle.feed_rows.specs.Codes.{platform_type}
use Rattle.feed_faults.specs.RowKeys.{row_of}

-- a stop time's trip, its place in the trip, and its times in seconds of the service day
pub record StopTime : Type 0 where
  pub trip : List ℕ
  pub sequence : ℕ
  pub arrival : Option ℕ
  pub departure : Option ℕ

-- the stop time of a row
unfoldable pub stop_time_of : FileTable → ℕ → StopTime
stop_time_of table row =
    record {
      trip = field table row TripId;
      sequence = int_or_zero 0 most_int (field table row StopSequence);
      arrival = time_value most_time (field table row ArrivalTime);
      departure = time_value most_time (field table row DepartureTime);
    }

-- the stop times of a file
unfoldable pub stop_times_of : FileTable → List StopTime
stop_times_of table = list_below (row_count table) (stop_time_of table)

-- a stop time has at least one time
abbrev pub has_time : StopTime → Bool
has_time x = is_some x.arrival || is_some x.departure

-- its first time: the arrival, or else the departure
abbrev pub first_filled : StopTime → Option ℕ
first_filled x = option_or x.arrival x.departure

-- its last time: the departure, or else the arrival
abbrev pub last_filled : StopTime → Option ℕ
last_filled x = option_or x.departure x.arrival

-- both times are there, and the first is less than the second
abbrev pub is_earlier : Option ℕ → Option ℕ → Bool
is_earlier a b = filled_and a (λ x. filled_and b (λ y. nat_lt x y))

-- a test of the stop times at two places
abbrev pub both_and : List StopTime → ℕ → ℕ → (StopTime → StopTime → Bool) → Bool
both_and times a b test = at_and times a (λ x. at_and times b (λ y. test x y))

-- two stop times have one place in one trip
unfoldable pub same_place : List StopTime → ℕ → ℕ → Bool
same_place times a b = both_and times a b (λ x y. bytes_eq x.trip y.trip && (x.sequence == y.sequence))

-- the stop time of one row comes before that of another in their trip
unfoldable pub comes_before : List StopTime → ℕ → ℕ → Bool
comes_before times a b =
    both_and times a b (λ x y. bytes_eq x.trip y.trip
    && (nat_lt x.sequence y.sequence || ((x.sequence == y.sequence) && nat_lt a b)))

-- a row is the first of its trip, and the last of it
unfoldable pub is_first : List StopTime → ℕ → Bool
is_first times row = not (any_below (length times) (λ other. comes_before times other row))

unfoldable pub is_last : List StopTime → ℕ → Bool
is_last times row = not (any_below (length times) (λ other. comes_before times row other))

-- a trip's first or last stop time has neither time (stop_times.txt: arrival_time, departure_time)
unfoldable pub is_end_time_missing : List StopTime → ℕ → Bool
is_end_time_missing times row = at_and times row (λ x. not (has_time x)) && (is_first times row || is_last times row)

-- a row is the nearest timed one before another
unfoldable pub is_nearest_before : List StopTime → ℕ → ℕ → Bool
is_nearest_before times near row =
    comes_before times near row && at_and times near has_time
    && not (any_below (length times)
    (λ other. comes_before times near other && comes_before times other row && at_and times other has_time))

-- a timed row's last time is less than its first, or its first is less than the last time of the nearest timed row before
-- it (stop_times.txt: arrival_time, departure_time)
unfoldable pub do_times_decrease : List StopTime → ℕ → Bool
do_times_decrease times row =
    at_and times row (λ x. is_earlier (last_filled x) (first_filled x)
    || any_below (length times) (λ near. is_nearest_before times near row
    && at_and times near (λ y. is_earlier (first_filled x) (last_filled y))))

-- a stop time is at a platform; an id of several rows is that of the earliest
unfoldable pub is_at_platform : FileTable → FileTable → ℕ → Bool
is_at_platform stops times row = filled_and (row_of stops StopId (field times row StopId)) (λ stop. stop_kind stops stop == platform_type)

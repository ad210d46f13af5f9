-- By how many seconds the runs of a trip are shifted against its stop times. (GTFS Schedule Reference:
-- frequencies.txt; both values of exact_times are read as exact departures, which is the profile's.)
use Rattle.std.specs.Prelude.{ℕ, ◌+◌, ◌-◌, ◌*◌, ◌/◌, ◌%◌, Bool, ◌&&◌, ◌==◌, nat_lt, if◌then◌else◌, List, [], ◌∷◌, map, filter, ℤ, pos, ◌+ℤ◌, ◌-ℤ◌, int_lt, int_le, unsigned_abs}
use Rattle.std.specs.List.{list_any, flat_map}
use Rattle.transit_base.specs.declared.numbers.TripId.{TripId}
use Rattle.feed_rows.specs.declared.rows.FrequencyRow.{FrequencyRow}
use Rattle.feed_rows.specs.FeedRows.{FeedRows}
use Rattle.feed_rows.specs.Calls.{first_departure}
use Rattle.plain_laws.specs.Plain.{int_same, picks_below}

-- the departure of run x of a frequency row from the first stop, counted from run 0, in seconds of the service day
abbrev pub run_departure : FrequencyRow → ℕ → ℕ
run_departure row x = row.start + x * row.headway

-- the row has the run: it departs before the end, and a headway of no seconds, which no sound feed has, gives no run
abbrev pub has_run : FrequencyRow → ℕ → Bool
has_run row x = nat_lt 0 row.headway && nat_lt (run_departure row x) row.end

-- the departures of the runs that a frequency row has; a run departs at least a second after the one before, so there
-- are no more runs than seconds between start and end
abbrev pub run_starts : FrequencyRow → List ℕ
run_starts row = picks_below (row.end - row.start) (has_run row) (run_departure row)

-- the number put into an ascending list, where it doesn't stand yet
abbrev pub with_number : ℤ → List ℤ → List ℤ
with_number z [] = z ∷ []
with_number z (y ∷ ys) = if int_lt z y then z ∷ y ∷ ys else if int_same z y then y ∷ ys else y ∷ with_number z ys

-- the numbers in ascending order, each once
abbrev pub ascending_of : List ℤ → List ℤ
ascending_of [] = []
ascending_of (z ∷ zs) = with_number z (ascending_of zs)

-- the frequency rows of a trip
abbrev pub trip_frequencies : FeedRows → TripId → List FrequencyRow
trip_frequencies feed trip = filter (λ f. f.trip.0 == trip.0) feed.frequencies

-- the trip has frequency rows
abbrev pub has_frequencies : FeedRows → TripId → Bool
has_frequencies feed trip = list_any (λ f. f.trip.0 == trip.0) feed.frequencies

-- the shifts of a trip: 0 alone without frequency rows, and else for each run of these the seconds by which it departs
-- later than the trip's own first departure; ascending, each once
unfoldable pub shifts_of : FeedRows → TripId → List ℤ
shifts_of feed trip =
    if has_frequencies feed trip
    then ascending_of (map (λ start. pos start -ℤ pos (first_departure feed trip)) (flat_map run_starts (trip_frequencies feed trip)))
    else pos 0 ∷ []

-- how many runs a frequency row has, by one division; as the two tests below this is what a body computes, and no rule
-- of its own: `ShiftLaws` proves that the three agree with the lists
abbrev pub run_count : FrequencyRow → ℕ
run_count row = (row.end - row.start + row.headway - 1) / row.headway

-- whether a run of the frequency row departs from the first stop at this second of the service day
unfoldable pub is_run_start : FrequencyRow → ℤ → Bool
is_run_start row z =
    nat_lt 0 row.headway
    && int_le (pos row.start) z
    && int_lt z (pos row.end)
    && (unsigned_abs z - row.start) % row.headway == 0

-- whether the number is a shift of the trip
unfoldable pub is_shift : FeedRows → TripId → ℤ → Bool
is_shift feed trip z =
    if has_frequencies feed trip
    then list_any (λ f. f.trip.0 == trip.0 && is_run_start f (z +ℤ pos (first_departure feed trip))) feed.frequencies
    else int_same z (pos 0)

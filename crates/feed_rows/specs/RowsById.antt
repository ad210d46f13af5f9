-- The rows that ids and other marks of their own name.
use Rattle.std.specs.Prelude.{ℕ, ◌==◌, Bool, List, length, Option, option_map, bytes_eq}
use Rattle.transit_base.specs.declared.StopId.{StopId}
use Rattle.transit_base.specs.declared.RiderId.{RiderId}
use Rattle.transit_base.specs.declared.TripId.{TripId}
use Rattle.plain_laws.specs.Plain.{at_and, find_below}
use Rattle.feed_rows.specs.FeedRows.{FeedRows}
use Rattle.feed_rows.specs.Calls.{calls_of}

-- stop i has this id
unfoldable pub has_stop_id : FeedRows → List ℕ → ℕ → Bool
has_stop_id feed id i = at_and feed.stops i (λ row. bytes_eq row.id id)

-- the first stop with this id
abbrev pub find_stop : FeedRows → List ℕ → Option StopId
find_stop feed id = option_map (λ i. record { 0 = i }) (find_below (length feed.stops) (has_stop_id feed id))

-- trip i has this id
unfoldable pub has_trip_id : FeedRows → List ℕ → ℕ → Bool
has_trip_id feed id i = at_and feed.trips i (λ row. bytes_eq row.id id)

-- the first trip with this id
abbrev pub find_trip : FeedRows → List ℕ → Option TripId
find_trip feed id = option_map (λ i. record { 0 = i }) (find_below (length feed.trips) (has_trip_id feed id))

-- the position of the trip's first call with this stop_sequence
abbrev pub call_position : FeedRows → TripId → ℕ → Option ℕ
call_position feed trip sequence =
    find_below (length (calls_of feed trip)) (λ i. at_and (calls_of feed trip) i (λ call. call.sequence == sequence))

-- rider category i has this id
unfoldable pub has_rider_id : FeedRows → List ℕ → ℕ → Bool
has_rider_id feed id i = at_and feed.riders i (λ row. bytes_eq row.id id)

-- the first rider category with this id
abbrev pub find_rider : FeedRows → List ℕ → Option RiderId
find_rider feed id = option_map (λ i. record { 0 = i }) (find_below (length feed.riders) (has_rider_id feed id))

-- rider category i is marked as default
unfoldable pub is_default_rider : FeedRows → ℕ → Bool
is_default_rider feed i = at_and feed.riders i (λ row. row.default)

-- The calls and the frequency rows of a sound feed, trip by trip.
use Rattle.std.proofs.Common.{◌≡◌, refl, sym, ◌∙◌, ap, ◌<◌, ◌≤◌, ◌==◌, ℕ, List, length, get_or, map, All, arith}
use Rattle.std.specs.Prelude.{Some, slice_get}
use Rattle.std.proofs.lemmas.List.Elements.{All-filter}
use Rattle.std.proofs.lemmas.Option.{slice_get-get_or, same_Some}
use Rattle.transit_base.specs.Limits.{most_time}
use Rattle.transit_base.specs.declared.numbers.TripId.{TripId}
use Rattle.feed_rows.specs.declared.rows.FrequencyRow.{FrequencyRow}
use Rattle.feed_rows.specs.declared.journeys.Call.{Call}
use Rattle.feed_rows.specs.declared.rows.RouteRow.{RouteRow}
use Rattle.feed_rows.specs.declared.rows.TripRow.{TripRow}
use Rattle.feed_rows.specs.FeedRows.{FeedRows}
use Rattle.feed_rows.specs.Rides.{trip_network}
use Rattle.feed_rows.specs.Calls.{calls_of}
use Rattle.feed_rows.specs.Shifts.{trip_frequencies}
use Rattle.feed_rows.specs.SoundFeed.{IsSoundFeed}
use Rattle.feed_rows.specs.SoundTimetable.{AreSoundFrequencies}
use Rattle.item_groups.specs.declared.groups.Grouped.{Grouped}
use Rattle.plain_laws.specs.Plain.{list_below}
use Rattle.item_groups.specs.Groups.{group_of, groups_below}
use Rattle.plain_laws.proofs.Laws.{list_any-filter, length-list_below, slice_get-list_below, list_below-same}
use Rattle.item_groups.proofs.GroupLaws.{group_of-map}
use Rattle.feed_laws.proofs.CallTimes.{calls_of_most}
use Rattle.feed_laws.proofs.SoundTrips.{sound_trip}
use Rattle.feed_trips.specs.Runs.{AreRunsOf, IsSoundRun}
use Rattle.feed_trips.specs.Tables.{trip_runs}

-- an item of a list that is made trip by trip
pub at_trip : {X : Type 0} (feed : FeedRows) (f : TripId → X) (made : List X) (trip : TripId) (x : X) → made ≡ list_below (length feed.trips) (λ t. f (record { 0 = t })) → trip.0 < length feed.trips
    → slice_get made trip.0 ≡ Some x → x ≡ f trip
at_trip feed f made trip x is lt got =
    same_Some x (f trip) (sym got ∙ ap (λ xs. slice_get xs trip.0) is ∙ slice_get-list_below (length feed.trips) (λ t. f (record { 0 = t })) trip.0 lt)

pub within_trips : {X : Type 0} (feed : FeedRows) (f : TripId → X) (made : List X) (trip : TripId) → made ≡ list_below (length feed.trips) (λ t. f (record { 0 = t })) → trip.0 < length feed.trips → trip.0 < length made
within_trips feed f made trip is lt = let long = ap length is ∙ length-list_below (length feed.trips) (λ t. f (record { 0 = t })) in omega arith

-- frequency rows with the numbers of their trips
abbrev pub numbered : List FrequencyRow → List (Grouped FrequencyRow)
numbered rows = map (λ (f : FrequencyRow). record { group = f.trip.0; item = f }) rows

-- they are grouped by trip
pub runs_are : (feed : FeedRows) → groups_below (length feed.trips) (numbered feed.frequencies) ≡ trip_runs feed
unfolding groups_below
runs_are feed =
    list_below-same (length feed.trips) (group_of (numbered feed.frequencies)) (λ t. trip_frequencies feed (record { 0 = t }))
    (λ t lt. group_of-map (λ (f : FrequencyRow). f.trip.0) feed.frequencies t)

-- what a test finds among the frequency rows of a trip
pub are_runs : (feed : FeedRows) (trip : TripId) → AreRunsOf feed trip (trip_frequencies feed trip)
are_runs feed trip p = list_any-filter p (λ (f : FrequencyRow). f.trip.0 == trip.0) feed.frequencies

-- their numbers are within their limits
pub runs_sound : (feed : FeedRows) (trip : TripId) → IsSoundFeed feed → All IsSoundRun (trip_frequencies feed trip)
runs_sound feed trip sound = All-filter (λ (f : FrequencyRow). f.trip.0 == trip.0) IsSoundRun feed.frequencies (λ k d lt. runs sound.frequencies k d lt)
  where
    runs : AreSoundFrequencies feed → (k : ℕ) (d : FrequencyRow) → k < length feed.frequencies → IsSoundRun (get_or feed.frequencies k d)
    runs all k d lt = record { start = all.starts k d lt; end = all.ends k d lt; some = (all.headways k d lt).0; headway = (all.headways k d lt).1 }

-- the fare network of a trip's route, by the rows of both
pub network_at : (feed : FeedRows) (trip : TripId) (trips : List TripRow) (routes : List RouteRow) (t : TripRow) (r : RouteRow) → trips ≡ feed.trips → routes ≡ feed.routes → trip.0 < length feed.trips → (get_or feed.trips trip.0 t).route.0 < length feed.routes
    → (get_or routes (get_or trips trip.0 t).route.0 r).network ≡ trip_network feed trip
network_at feed trip trips routes t r same too lt within =
    let row = slice_get-get_or feed.trips trip.0 t lt in
    let route = slice_get-get_or feed.routes (get_or feed.trips trip.0 t).route.0 r within in
    rw (same, too, row, route) refl

-- no time of a call is later than 167:59:59
pub calls_small : (feed : FeedRows) (trip : TripId) → IsSoundFeed feed → All (λ (c : Call). (c.arrival ≤ most_time) × (c.departure ≤ most_time)) (calls_of feed trip)
calls_small feed trip sound k d lt =
    let it = sound_trip feed trip sound in
    calls_of_most feed trip most_time k (get_or (calls_of feed trip) k d) it.ends it.times (slice_get-get_or (calls_of feed trip) k d lt)

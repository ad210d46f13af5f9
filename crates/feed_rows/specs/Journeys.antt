-- The journeys of a query. (Profile: a journey is rides, with a walk of at most one link before, between and after.)
use Rattle.std.specs.Prelude.{◌≡◌, ℕ, zero, suc, ◌+◌, ◌≤◌, ◌<◌, Bool, true, ◌==◌, if◌then◌else◌, List, length, slice_get, Option, Some, IsTrue, All, ℤ, pos, ◌+ℤ◌, ◌≤ℤ◌, int_le, option_map, option_and_then}
use Rattle.std.specs.List.{list_any}
use Rattle.transit_base.specs.declared.numbers.StopId.{StopId}
use Rattle.feed_rows.specs.declared.journeys.Query.{Query}
use Rattle.feed_rows.specs.declared.journeys.Ride.{Ride}
use Rattle.feed_rows.specs.declared.journeys.RideFacts.{RideFacts}
use Rattle.feed_rows.specs.declared.journeys.Journey.{Journey}
use Rattle.feed_rows.specs.FeedRows.{FeedRows}
use Rattle.feed_rows.specs.Rides.{is_ride, ride_facts}
use Rattle.feed_rows.specs.StopLinks.{link, stop_set}
use Rattle.plain_laws.specs.Plain.{filled_and, when}

-- a feed, and a query over it
pub record Asked : Type 0 where
  pub feed : FeedRows
  pub query : Query

abbrev pub asked : FeedRows → Query → Asked
asked feed query = record { feed = feed; query = query }

-- the stop is one of those that this stop stands for
abbrev pub stands_for : FeedRows → StopId → StopId → Bool
stands_for feed stop member = list_any (λ s. s.0 == member.0) (stop_set feed stop)

-- where and when ride i goes
abbrev pub facts_at : FeedRows → List Ride → ℕ → Option RideFacts
facts_at feed rides i = option_and_then (ride_facts feed) (slice_get rides i)

-- the seconds from a journey's first stop to where its first ride boards: a boarding stop of the origin is itself the
-- first stop, and any other is reached by a walk
abbrev pub access : FeedRows → Query → StopId → StopId → Option ℕ
access feed query first boarding =
    if stands_for feed query.from boarding then when (first.0 == boarding.0) 0 else link feed first boarding

-- the seconds from where a journey's last ride alights to its last stop: an alighting stop of the destination is itself
-- the last stop, and from any other one walks
abbrev pub egress : FeedRows → Query → StopId → StopId → Option ℕ
egress feed query alighting last =
    if stands_for feed query.to alighting then when (alighting.0 == last.0) 0 else link feed alighting last

-- the seconds of a journey without rides: none are spent on staying
abbrev pub direct : FeedRows → StopId → StopId → Option ℕ
direct feed first last = if first.0 == last.0 then Some 0 else link feed first last

-- the ride departs at or after the moment plus these seconds, which there are
abbrev pub is_caught : ℤ → Option ℕ → RideFacts → Bool
is_caught from seconds ride = filled_and seconds (λ s. int_le (from +ℤ pos s) ride.departure.0)

-- the first ride, if there is one, is caught from the first stop and the query's departure
abbrev pub catches_first : FeedRows → Query → Journey → Bool
catches_first feed query journey =
    if length journey.rides == 0 then true
    else filled_and (facts_at feed journey.rides 0) (λ ride.
    is_caught query.departure.0 (access feed query journey.first ride.from) ride)

-- ride i + 1 is caught from ride i
abbrev pub catches_next : FeedRows → List Ride → ℕ → Bool
catches_next feed rides i =
    filled_and (facts_at feed rides i) (λ before.
    filled_and (facts_at feed rides (i + 1)) (λ after.
    is_caught before.arrival.0 (link feed before.to after.from) after))

-- the arrival at the last stop, after so many rides
abbrev pub arrival_after : FeedRows → Query → Journey → ℕ → Option ℤ
arrival_after feed query journey zero =
    option_map (λ s. query.departure.0 +ℤ pos s) (direct feed journey.first journey.last)
arrival_after feed query journey (suc before) =
    option_and_then
    (λ ride. option_map (λ s. ride.arrival.0 +ℤ pos s) (egress feed query ride.to journey.last))
    (facts_at feed journey.rides before)

-- the final arrival of a journey; none where its end is not reached
abbrev pub final_arrival : FeedRows → Query → Journey → Option ℤ
final_arrival feed query journey = arrival_after feed query journey (length journey.rides)

-- the journey is one of the query, with this final arrival
pub record IsJourney (feed : FeedRows) (query : Query) (journey : Journey) (arrival : ℤ) : Type 0 where
  -- it starts and ends where the query says
  pub starts : IsTrue (stands_for feed query.from journey.first)
  pub ends : IsTrue (stands_for feed query.to journey.last)
  -- its rides are rides of the feed, and no more than the query's limit
  pub rides : All (λ ride. IsTrue (is_ride feed ride)) journey.rides
  pub few : length journey.rides ≤ query.rides
  -- each ride is caught, and the last stop is reached within the window
  pub begins : IsTrue (catches_first feed query journey)
  pub goes_on : (i : ℕ) → i + 1 < length journey.rides → IsTrue (catches_next feed journey.rides i)
  pub arrives : final_arrival feed query journey ≡ Some arrival
  pub in_time : arrival ≤ℤ (query.departure.0 +ℤ pos query.window)

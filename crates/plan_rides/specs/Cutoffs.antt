-- Cutoffs: by when a journey is to end, and the seconds that it takes from each stop to its end at least.
use Rattle.std.specs.Prelude.{◌≡◌, ℕ, Bool, true, false, List, Option, Some, None, slice_get, ℤ, pos, ◌-ℤ◌, ◌≤ℤ◌, int_le}
use Rattle.transit_base.specs.declared.moments.Secs.{Secs}
use Rattle.feed_rows.specs.declared.journeys.Query.{Query}
use Rattle.feed_rows.specs.declared.journeys.Ride.{Ride}
use Rattle.feed_rows.specs.declared.journeys.RideFacts.{RideFacts}
use Rattle.feed_rows.specs.FeedRows.{FeedRows}
use Rattle.feed_rows.specs.Rides.{ride_facts}
use Rattle.plan_rides.specs.declared.cutoffs.Cutoff.{Cutoff}
use Rattle.plan_rides.specs.InTime.{deadline}

-- the span is at most so many seconds; none isn't
unfoldable pub is_span : Option Secs → ℤ → Bool
is_span (Some span) secs = int_le (pos span.0) secs
is_span None secs = false

-- the same; any number of seconds is enough where no list says
unfoldable pub is_span_any : Option (Option Secs) → ℤ → Bool
is_span_any (Some span) secs = is_span span secs
is_span_any None secs = true

-- so many seconds are enough at the stop: its span is at most these; at a stop past the end of the list any number
-- is enough
abbrev pub is_enough : List (Option Secs) → ℕ → ℤ → Bool
is_enough spans stop secs = is_span_any (slice_get spans stop) secs

-- the spans of the stops, and the moment by which a journey is to end
pub record CutoffOf : Type 0 where
  pub spans : List (Option Secs)
  pub until : ℤ

abbrev pub cutoff_by : List (Option Secs) → ℤ → CutoffOf
cutoff_by spans until = record { spans = spans; until = until }

abbrev pub cutoff_of : Cutoff → CutoffOf
cutoff_of cutoff = cutoff_by cutoff.spans.now cutoff.until.0

-- from the moment on the seconds until then are enough at the stop
abbrev pub is_early : CutoffOf → ℕ → ℤ → Bool
is_early cutoff stop at = is_enough cutoff.spans stop (cutoff.until -ℤ at)

-- the ride goes so, departs no earlier than the query, arrives in time, and gets somewhere early enough
pub record IsEarlyRide (feed : FeedRows) (query : Query) (latest : CutoffOf) (ride : Ride)
    (facts : RideFacts) : Type 0 where
  pub is : ride_facts feed ride ≡ Some facts
  pub since : query.departure.0 ≤ℤ facts.departure.0
  pub until : facts.arrival.0 ≤ℤ deadline query
  pub early : is_early latest facts.to.0 facts.arrival.0 ≡ true

-- no ride that departs since the query, arrives in time and gets somewhere early enough departs too late
abbrev pub AreLastDepartures : FeedRows → Query → CutoffOf → CutoffOf → Type 0
AreLastDepartures feed query latest lasts =
    (ride : Ride) (facts : RideFacts) → ride_facts feed ride ≡ Some facts → query.departure.0 ≤ℤ facts.departure.0 →
    facts.arrival.0 ≤ℤ deadline query → is_early latest facts.to.0 facts.arrival.0 ≡ true →
    is_early lasts facts.from.0 facts.departure.0 ≡ true

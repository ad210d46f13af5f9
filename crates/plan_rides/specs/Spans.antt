-- The least seconds from stops to a journey's end, whatever the moment.
use Rattle.std.specs.Prelude.{◌≡◌, ℕ, ◌+◌, ◌<◌, ◌≤◌, Bool, true, false, List, [], ◌∷◌, ◌++◌, Option, Some, None, length, slice_get, unwrap_or, Contains, IsTrue, ℤ, pos, ◌-ℤ◌, ◌≤ℤ◌, int_le}
use Rattle.transit_base.specs.declared.moments.Secs.{Secs}
use Rattle.transit_base.specs.declared.numbers.StopId.{StopId}
use Rattle.transit_base.specs.declared.numbers.TripId.{TripId}
use Rattle.feed_rows.specs.declared.journeys.Call.{Call}
use Rattle.feed_rows.specs.declared.journeys.Query.{Query}
use Rattle.feed_rows.specs.declared.journeys.Ride.{Ride}
use Rattle.feed_rows.specs.declared.journeys.RideFacts.{RideFacts}
use Rattle.feed_rows.specs.FeedRows.{FeedRows}
use Rattle.feed_rows.specs.Journeys.{egress, stands_for}
use Rattle.feed_rows.specs.Rides.{ride_facts}
use Rattle.feed_rows.specs.JourneyStands.{Stand}
use Rattle.feed_walks.specs.OutOf.{out_of}
use Rattle.feed_walks.specs.declared.steps.Step.{Step}
use Rattle.plan_patterns.specs.declared.runs.Run.{Run}
use Rattle.plan_patterns.specs.Grouping.{PatternOf, runs_at}
use Rattle.plan_rides.specs.Cutoffs.{AreLastDepartures, CutoffOf, cutoff_by, is_early, is_enough, is_span}
use Rattle.plan_rides.specs.Departures.{run_by}
use Rattle.plan_rides.specs.InTime.{IsWithinWindow, deadline, next_in_time}
use Rattle.plan_rides.specs.Scopes.{IsInScope}
use Rattle.plan_rides.specs.declared.scope.Scope.{Scope}

-- ---- what the spans of stops are

-- so many seconds are enough from the stop after a ride, where a journey ends then without a further one, within
-- the window
abbrev pub IsEndSpan : FeedRows → Query → StopId → Option Secs → Type 0
IsEndSpan feed query stop span =
    (last : StopId) (seconds : ℕ) → IsTrue (stands_for feed query.to last) →
    egress feed query stop last ≡ Some seconds →
    seconds ≤ query.window → is_span span (pos seconds) ≡ true

-- so it is at each stop
abbrev pub AreEndSpans : FeedRows → Query → List (Option Secs) → Type 0
AreEndSpans feed query spans =
    (stop last : StopId) (seconds : ℕ) → IsTrue (stands_for feed query.to last) →
    egress feed query stop last ≡ Some seconds →
    seconds ≤ query.window → is_enough spans stop.0 (pos seconds) ≡ true

-- by whatever moment of the window a journey is to end: no ride that arrives early enough by the one spans departs
-- too late by the others
abbrev pub AreBoardSpans : FeedRows → Query → List (Option Secs) → List (Option Secs) → Type 0
AreBoardSpans feed query spans boards =
    (until : ℤ) → until ≤ℤ deadline query →
    AreLastDepartures feed query (cutoff_by spans until) (cutoff_by boards until)

-- what was enough is so by the new spans too, and so is what is enough behind one more ride, by whatever moment of
-- the window a journey is to end
pub record IsOneMoreSpan (feed : FeedRows) (query : Query) (spans new : List (Option Secs)) : Type 0 where
  pub still : (stop : ℕ) (secs : ℤ) → is_enough spans stop secs ≡ true → is_enough new stop secs ≡ true
  pub rides : (until : ℤ) → until ≤ℤ deadline query → (stand : Stand) (ride : Ride) (next : Stand) →
      stand.fresh ≡ false →
      IsWithinWindow query stand.at → next_in_time feed query stand ride ≡ Some next →
      is_early (cutoff_by spans until) next.stop.0 next.at ≡ true →
      is_early (cutoff_by new until) stand.stop.0 stand.at ≡ true

-- ---- by the number of further rides

-- by the number of further rides, the spans from each stop where one stands after a ride, and from where one boards
pub record SpanLists : Type 0 where
  pub stands : List (List (Option Secs))
  pub boards : List (List (Option Secs))

abbrev pub span_lists : List (List (Option Secs)) → List (List (Option Secs)) → SpanLists
span_lists stands boards = record { stands = stands; boards = boards }

abbrev pub no_spans : SpanLists
no_spans = record { stands = []; boards = [] }

-- with those for one ride more
abbrev pub with_spans : SpanLists → List (Option Secs) → List (Option Secs) → SpanLists
with_spans lists stands boards = record { stands = lists.stands ++ stands ∷ []; boards = lists.boards ++ boards ∷ [] }

-- those where so many rides may follow; the empty list past the end
abbrev pub stands_of : SpanLists → ℕ → List (Option Secs)
stands_of lists more = unwrap_or (slice_get lists.stands more) []

abbrev pub boards_of : SpanLists → ℕ → List (Option Secs)
boards_of lists more = unwrap_or (slice_get lists.boards more) []

-- the first are those to an end; for each number of further rides those from where one boards serve for the others,
-- and one ride more may follow by the next
pub record AreSpans (feed : FeedRows) (query : Query) (lists : SpanLists) : Type 0 where
  pub ends : AreEndSpans feed query (stands_of lists 0)
  pub boards : (more : ℕ) → AreBoardSpans feed query (stands_of lists more) (boards_of lists more)
  pub rides : (more : ℕ) → IsOneMoreSpan feed query (stands_of lists more) (stands_of lists (more + 1))

-- ---- for which queries they are

-- the query is of the scope, and its window is no longer than so many seconds
pub record FitsScope (scope : Scope) (window : ℕ) (query : Query) : Type 0 where
  pub inside : IsInScope scope query
  pub few : query.window ≤ window

-- they are those of each such query that goes to this stop, whenever it departs
abbrev pub AreSpansFor : FeedRows → Scope → StopId → ℕ → SpanLists → Type 0
AreSpansFor feed scope to window lists =
    (query : Query) → FitsScope scope window query → query.to ≡ to → AreSpans feed query lists

-- ---- how they are found

-- the time of day is no later than so many seconds of the day; none isn't
unfoldable pub is_end_by : Option ℕ → ℤ → Bool
is_end_by (Some end) until = int_le (pos end) until
is_end_by None until = false

-- a journey that alights at the k-th of these calls or at a later one ends no sooner than then, in seconds of the
-- trip's day
abbrev pub IsEndFrom : List (Option Secs) → List Call → ℕ → Option ℕ → Type 0
IsEndFrom spans calls k end =
    (to : ℕ) (call : Call) (until : ℤ) → k ≤ to → slice_get calls to ≡ Some call → call.drop_off ≡ true →
    is_enough spans call.stop.0 (until -ℤ pos call.arrival) ≡ true → is_end_by end until ≡ true

-- the new spans are at most those before, and at the call's stop, where riders may board, at most the seconds from
-- there until then, where these lie within the window
pub record PutsBoard (window : ℕ) (end : Option ℕ) (call : Call) (old new : List (Option Secs)) : Type 0 where
  pub many : length new ≡ length old
  pub still : (stop : ℕ) (secs : ℤ) → is_enough old stop secs ≡ true → is_enough new stop secs ≡ true
  pub here : (until : ℤ) → call.pickup ≡ true → is_end_by end until ≡ true → pos call.departure ≤ℤ until →
      (until -ℤ pos call.departure) ≤ℤ pos window → is_enough new call.stop.0 (until -ℤ pos call.departure) ≡ true

-- the ride goes so, gets somewhere early enough, and departs at most so many seconds before the journey is to end
pub record IsTimelyRide (feed : FeedRows) (window : ℕ) (latest : CutoffOf) (ride : Ride) (facts : RideFacts) :
    Type 0 where
  pub is : ride_facts feed ride ≡ Some facts
  pub early : is_early latest facts.to.0 facts.arrival.0 ≡ true
  pub few : (latest.until -ℤ facts.departure.0) ≤ℤ pos window

-- the new spans are at most those before; by whatever moment a journey is to end, no ride of this part that departs within
-- the window before it and arrives early enough departs too late by them
pub record AddsBoards (feed : FeedRows) (window : ℕ) (spans : List (Option Secs)) (Part : Ride → Type 0)
    (old new : List (Option Secs)) : Type 0 where
  pub many : length new ≡ length old
  pub still : (stop : ℕ) (secs : ℤ) → is_enough old stop secs ≡ true → is_enough new stop secs ≡ true
  pub all : (until : ℤ) (ride : Ride) (facts : RideFacts) →
      IsTimelyRide feed window (cutoff_by spans until) ride facts → Part ride →
      is_early (cutoff_by new until) facts.from.0 facts.departure.0 ≡ true

-- the ride is of this trip
abbrev pub IsOfTrip : TripId → Ride → Type 0
IsOfTrip trip ride = ride.trip ≡ trip

-- it boards at the k-th call or a later one
abbrev pub IsOfTripFrom : TripId → ℕ → Ride → Type 0
IsOfTripFrom trip k ride = IsOfTrip trip ride × (k ≤ ride.from)

-- it is of the trip of one of the first k of these runs
abbrev pub IsOfRuns : List Run → ℕ → Ride → Type 0
IsOfRuns runs k ride = (i : ℕ) × (i < k) × (run : Run) × (slice_get runs i ≡ Some run) × (ride.trip ≡ run.trip)

-- the run at this place is of the trip of the one before
pub record FollowsOwn (runs : List Run) (k : ℕ) : Type 0 where
  pub place : ℕ
  pub after : k ≡ place + 1
  pub before : Run
  pub before_is : slice_get runs place ≡ Some before
  pub run : Run
  pub run_is : slice_get runs k ≡ Some run
  pub same : before.trip ≡ run.trip

-- it is by a run of one of the first k of these patterns
abbrev pub IsOfPatterns : List PatternOf → ℕ → Ride → Type 0
IsOfPatterns patterns k ride = (i : ℕ) × (i < k) × Contains (runs_at patterns i) (run_by ride)

-- one has seconds enough to walk along one of the first n walks to where it leads and to go on from there
abbrev pub HasWalkSpans : ℕ → List (Option Secs) → List Step → ℕ → Option Secs → Type 0
HasWalkSpans window boards walks n span =
    (k : ℕ) (step : Step) (secs : ℤ) → k < n → slice_get walks k ≡ Some step → secs ≤ℤ pos window →
    is_span (unwrap_or (slice_get boards step.to.0) None) (secs -ℤ pos step.seconds.0) ≡ true → is_span span secs ≡ true

-- at the stop the new span is at most the one before, and each walk out of it with what follows
pub record IsSpanBefore (feed : FeedRows) (window : ℕ) (boards : List (Option Secs)) (stop : StopId)
    (before new : Option Secs) : Type 0 where
  pub own : (secs : ℤ) → is_span before secs ≡ true → is_span new secs ≡ true
  pub walks : HasWalkSpans window boards (out_of feed stop) (length (out_of feed stop)) new

-- so it is at each of the first n stops
abbrev pub AreSpansBefore : FeedRows → ℕ → List (Option Secs) → List (Option Secs) → ℕ → List (Option Secs) → Type 0
AreSpansBefore feed window spans boards n new =
    (stop : ℕ) → stop < n →
    IsSpanBefore feed window boards (record { 0 = stop }) (unwrap_or (slice_get spans stop) None)
    (unwrap_or (slice_get new stop) None)

-- so it is at each stop, and there are as many as before
pub record AreAllBefore (feed : FeedRows) (window : ℕ) (spans boards new : List (Option Secs)) : Type 0 where
  pub many : length new ≡ length spans
  pub all : AreSpansBefore feed window spans boards (length spans) new

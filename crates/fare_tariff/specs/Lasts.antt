-- With legs of which leg groups a journey can end.
use Rattle.std.specs.Prelude.{◌≡◌, ℕ, ◌+◌, Bool, true, List, Option, Some, None, Contains, slice_get}
use Rattle.transit_base.specs.declared.moments.Secs.{Secs}
use Rattle.transit_base.specs.declared.numbers.NetworkId.{NetworkId}
use Rattle.transit_base.specs.declared.numbers.StopId.{StopId}
use Rattle.feed_rows.specs.declared.fares.Triple.{Triple}
use Rattle.feed_rows.specs.declared.journeys.Query.{Query}
use Rattle.feed_rows.specs.declared.journeys.Ride.{Ride}
use Rattle.feed_rows.specs.declared.rows.LegRuleRow.{LegRuleRow}
use Rattle.feed_rows.specs.declared.rows.StopTimeRow.{StopTimeRow}
use Rattle.feed_rows.specs.declared.states.Move.{Move}
use Rattle.feed_rows.specs.FeedRows.{FeedRows}
use Rattle.feed_rows.specs.PartialJourneys.{LabelFacts}
use Rattle.feed_rows.specs.Rides.{trip_network}
use Rattle.fare_bounds.specs.Amounts.{place_of}
use Rattle.plan_rides.specs.InTime.{IsWithinWindow}
use Rattle.round_laws.specs.LabelSteps.{IsLabelEnd, IsLabelStep}

-- where a mark for the network stands: that for routes without one comes first
abbrev pub network_place : Option NetworkId → ℕ
network_place None = 0
network_place (Some network) = network.0 + 1

-- the place is marked
abbrev pub IsMarkedAt : List Bool → ℕ → Type 0
IsMarkedAt marks place = slice_get marks place ≡ Some true

-- what was marked still is
abbrev pub StayMarked : List Bool → List Bool → Type 0
StayMarked old new = (place : ℕ) → IsMarkedAt old place → IsMarkedAt new place

-- a journey may end at the stop without a further ride, by these seconds to the end of one
abbrev pub IsEnd : List (Option Secs) → StopId → Type 0
IsEnd ends stop = slice_get ends stop.0 ≡ Some None → ⊥

-- the networks of all trips are marked that call where a journey may end
abbrev pub AreLastNetworks : FeedRows → List (Option Secs) → List Bool → Type 0
AreLastNetworks feed ends marks =
    (row : StopTimeRow) → Contains feed.stop_times row → IsEnd ends row.stop →
    IsMarkedAt marks (network_place (trip_network feed row.trip))

-- the rule names no network, or one that is marked
abbrev pub IsOfMarked : List Bool → Option NetworkId → Type 0
IsOfMarked networks named = (network : NetworkId) → named ≡ Some network → IsMarkedAt networks (network.0 + 1)

-- the groups of all such leg rules are marked
abbrev pub AreLastGroups : FeedRows → List Bool → List Bool → Type 0
AreLastGroups feed networks lasts =
    (rule : LegRuleRow) → Contains feed.leg_rules rule → IsOfMarked networks rule.network →
    IsMarkedAt lasts (place_of rule.group)

-- the leg group of each move is marked with which a journey of the query ends
abbrev pub AreLastMoves : FeedRows → Query → List Bool → Type 0
AreLastMoves feed query lasts =
    (a b : LabelFacts) (ride : Ride) (move : Move) → IsWithinWindow query a.arrival →
    IsLabelStep feed query a ride move b →
    (last : StopId) (triple : Triple) → IsLabelEnd feed query b last triple →
    IsMarkedAt lasts (place_of move.state.group)

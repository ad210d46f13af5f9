-- Lines and journeys in parts.
use Rattle.std.proofs.Common.{◌≡◌, refl, sym, ◌∙◌, ap, ℕ, zero, suc, ◌+◌, ◌-◌, ◌<◌, List, [], ◌∷◌, ◌++◌, append_assoc, arith}
use Rattle.std.specs.Prelude.{Option, Some, None, option_map, slice_get, Bool, codes, decimal}
use Rattle.std.specs.Option.{option_map_or}
use Rattle.std.proofs.lemmas.Option.{same_Some, none-some}
use Rattle.feed_rows.specs.declared.journeys.Ride.{Ride}
use Rattle.feed_rows.specs.declared.journeys.Call.{Call}
use Rattle.feed_rows.specs.declared.rows.TransferRuleRow.{TransferRuleRow}
use Rattle.feed_rows.specs.declared.rows.TripRow.{TripRow}
use Rattle.feed_rows.specs.Calls.{calls_of}
use Rattle.feed_rows.specs.declared.fares.LegChoice.{LegChoice}
use Rattle.feed_rows.specs.declared.fares.ChangeChoice.{ChangeChoice}
use Rattle.feed_rows.specs.declared.journeys.Journey.{Journey}
use Rattle.feed_rows.specs.declared.journeys.RideFacts.{RideFacts}
use Rattle.feed_rows.specs.FeedRows.{FeedRows}
use Rattle.feed_rows.specs.Journeys.{facts_at}
use Rattle.feed_rows.specs.EntryText.{ride_line, ticket_fields, leg_line, change_fields, change_line, stop_before, last_lines, walk_lines}
use Rattle.feed_rows.specs.Lines.{fields_text, line}
use Rattle.ticket_explain.specs.LineParts.{head_text, ended, kind_text, leg_cost, leg_head, change_head, whole_ride, ride_between}

-- before a later ride the traveller stands at the end of the one before it
pub before_ride : (feed : FeedRows) (journey : Journey) (place : ℕ) → 0 < place → stop_before feed journey place ≡ option_map (λ (ride : RideFacts). ride.to) (facts_at feed journey.rides (place - 1))
before_ride feed journey zero some = absurd (omega arith)
before_ride feed journey (suc before) some = let same : suc before - 1 ≡ before = omega arith in rw same refl

-- after rides the last lines begin where the last of these ends
pub after_rides : (feed : FeedRows) (journey : Journey) (n : ℕ) → 0 < n → last_lines feed journey n ≡ option_map_or (λ (ride : RideFacts). walk_lines feed ride.to journey.last) (facts_at feed journey.rides (n - 1)) []
after_rides feed journey zero some = absurd (omega arith)
after_rides feed journey (suc before) some = let same : suc before - 1 ≡ before = omega arith in rw same refl

-- a head with the fields that end its line is the line of all fields
pub head_ended : (word : List ℕ) (front rest : List (List ℕ)) → head_text word front ++ fields_text rest ≡ line word (front ++ rest)
head_ended word [] rest = refl
head_ended word (field ∷ front) rest = head_ended (word ++ 9 ∷ field) front rest ∙ append_assoc word (9 ∷ field) (fields_text (front ++ rest))

-- the same, where there may be no such fields
pub head_ended_where : (word : List ℕ) (front : List (List ℕ)) (rest : Option (List (List ℕ))) → ended (head_text word front) rest ≡ option_map (λ fields. line word (front ++ fields)) rest
head_ended_where word front None = refl
head_ended_where word front (Some rest) = ap Some (head_ended word front rest)

-- the line of a leg is its front with its ticket
pub leg_line_of : (feed : FeedRows) (i : ℕ) (charged : Bool) (pick : LegChoice) → ended (leg_head i charged pick) (ticket_fields feed pick.product (leg_cost feed charged pick.product)) ≡ leg_line feed i charged pick
unfolding leg_head leg_cost kind_text leg_line
leg_line_of feed i charged pick =
    head_ended_where (codes "leg") (decimal (i + 1) ∷ kind_text charged ∷ decimal (pick.rule.0 + 1) ∷ []) (ticket_fields feed pick.product (leg_cost feed charged pick.product))

-- the line of a change is its front with its ticket, where the feed has its row
pub change_line_of : (feed : FeedRows) (i kind : ℕ) (pick : ChangeChoice) → option_map (λ (row : TransferRuleRow). row.kind) (slice_get feed.transfer_rules pick.rule.0) ≡ Some kind → ended (change_head i kind pick) (change_fields feed pick.product) ≡ change_line feed i pick
unfolding change_head change_line
change_line_of feed i kind pick is = step (slice_get feed.transfer_rules pick.rule.0) refl
  where
    step : (o : Option TransferRuleRow) → slice_get feed.transfer_rules pick.rule.0 ≡ o → ended (change_head i kind pick) (change_fields feed pick.product) ≡ change_line feed i pick
    step None none = absurd (none-some kind (rw none at is))
    step (Some row) got =
        let same : row.kind ≡ kind = same_Some _ _ (rw got at is) in
        rw (got, same) (head_ended_where (codes "change") (decimal (i + 1) ∷ decimal kind ∷ decimal (pick.rule.0 + 1) ∷ []) (change_fields feed pick.product))

pub change_line_none : (feed : FeedRows) (i : ℕ) (pick : ChangeChoice) → option_map (λ (row : TransferRuleRow). row.kind) (slice_get feed.transfer_rules pick.rule.0) ≡ None → None ≡ change_line feed i pick
unfolding change_line
change_line_none feed i pick none = step (slice_get feed.transfer_rules pick.rule.0) refl
  where
    step : (o : Option TransferRuleRow) → slice_get feed.transfer_rules pick.rule.0 ≡ o → None ≡ change_line feed i pick
    step None is = rw is refl
    step (Some row) got = absurd (none-some row.kind (sym none ∙ rw got refl))

-- the line of a ride whose trip and calls are known is that between the calls
pub ride_line_known : (feed : FeedRows) (ride : Ride) (facts : RideFacts) (row : TripRow) (boarding alighting : Call) →
    Some row ≡ slice_get feed.trips ride.trip.0 → Some boarding ≡ slice_get (calls_of feed ride.trip) ride.from → Some alighting ≡ slice_get (calls_of feed ride.trip) ride.to
    → ride_between feed ride facts row.id boarding alighting ≡ ride_line feed ride facts
unfolding ride_line ride_between whole_ride
ride_line_known feed ride facts row boarding alighting trip from to = rw (← trip, ← from, ← to) refl

-- without one of them there is none
pub ride_line_tripless : (feed : FeedRows) (ride : Ride) (facts : RideFacts) → None ≡ slice_get feed.trips ride.trip.0 → None ≡ ride_line feed ride facts
unfolding ride_line
ride_line_tripless feed ride facts none = rw (← none) refl

pub ride_line_unboarded : (feed : FeedRows) (ride : Ride) (facts : RideFacts) (row : TripRow) →
    Some row ≡ slice_get feed.trips ride.trip.0 → None ≡ slice_get (calls_of feed ride.trip) ride.from → None ≡ ride_line feed ride facts
unfolding ride_line
ride_line_unboarded feed ride facts row trip none = rw (← trip, ← none) refl

pub ride_line_unended : (feed : FeedRows) (ride : Ride) (facts : RideFacts) (row : TripRow) (boarding : Call) →
    Some row ≡ slice_get feed.trips ride.trip.0 → Some boarding ≡ slice_get (calls_of feed ride.trip) ride.from → None ≡ slice_get (calls_of feed ride.trip) ride.to
    → None ≡ ride_line feed ride facts
unfolding ride_line
ride_line_unended feed ride facts row boarding trip from none = rw (← trip, ← from, ← none) refl

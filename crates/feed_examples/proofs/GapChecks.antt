-- Worked examples of the pairs of stops without a fare and of the leg rules that no ride selects.
use Rattle.std.proofs.Common.{◌≡◌, refl, ℕ, true, List, [], ◌∷◌}
use Rattle.std.specs.Prelude.{Some, pos, codes}
use Rattle.transit_base.specs.declared.numbers.RuleId.{RuleId}
use Rattle.feed_rows.specs.declared.journeys.Buyer.{Buyer}
use Rattle.feed_rows.specs.declared.journeys.Pair.{Pair}
use Rattle.feed_rows.specs.FeedRows.{FeedRows}
use Rattle.feed_rows.specs.ServiceDays.{is_active}
use Rattle.feed_rows.specs.Calls.{call_at, calls_of}
use Rattle.feed_rows.specs.Shifts.{shifts_of}
use Rattle.feed_rows.specs.Rides.{is_ride, ride_facts}
use Rattle.feed_rows.specs.Legs.{stop_areas, holds_at, leg_facts}
use Rattle.feed_rows.specs.LegRules.{network_matches, area_matches, frame_matches, rule_matches, is_top_priority, is_selected_rule}
use Rattle.feed_rows.specs.FareChoices.{is_open}
use Rattle.feed_rows.specs.FareGaps.{has_option, idle_rules, some_ride, some_ride_of_run, uncovered_pairs}
use Rattle.feed_examples.specs.BaseFeed.{base, network_rule, ticket, no_category, of_category}

-- the pairs without a fare, and the idle rules, of a feed for a buyer from one day of June 2025 to another
abbrev gaps : FeedRows → Buyer → ℕ → ℕ → List Pair
gaps feed buyer first last = uncovered_pairs feed buyer (pos first) (pos last)

abbrev idle : FeedRows → ℕ → ℕ → List RuleId
idle feed first last = idle_rules feed (pos first) (pos last)

abbrev pair : ℕ → ℕ → Pair
pair from to = record { from = record { 0 = from }; to = record { 0 = to } }

abbrev rule : ℕ → RuleId
rule i = record { 0 = i }

-- on the day of the base feed each ride has a fare, and each rule is selected
base_day : gaps base no_category 20241 20241 ≡ []
unfolding uncovered_pairs some_ride some_ride_of_run has_option is_ride ride_facts calls_of call_at shifts_of is_active stop_areas holds_at leg_facts network_matches area_matches frame_matches rule_matches is_top_priority is_selected_rule is_open
base_day = refl

base_rules : idle base 20241 20241 ≡ []
unfolding idle_rules some_ride some_ride_of_run is_ride ride_facts calls_of call_at shifts_of is_active stop_areas holds_at leg_facts network_matches area_matches frame_matches rule_matches is_top_priority is_selected_rule
base_rules = refl

-- both ends of the range belong to it, and without rides each rule is idle
days_before : idle base 20240 20241 ≡ []
unfolding idle_rules some_ride some_ride_of_run is_ride ride_facts calls_of call_at shifts_of is_active stop_areas holds_at leg_facts network_matches area_matches frame_matches rule_matches is_top_priority is_selected_rule
days_before = refl

days_after : idle base 20242 20243 ≡ rule 0 ∷ rule 1 ∷ []
unfolding idle_rules some_ride some_ride_of_run is_ride ride_facts calls_of call_at shifts_of is_active stop_areas holds_at leg_facts network_matches area_matches frame_matches rule_matches is_top_priority is_selected_rule
days_after = refl

no_rides : gaps base no_category 20242 20242 ≡ []
unfolding uncovered_pairs some_ride some_ride_of_run has_option is_ride ride_facts calls_of call_at shifts_of is_active stop_areas holds_at leg_facts network_matches area_matches frame_matches rule_matches is_top_priority is_selected_rule is_open
no_rides = refl

-- two rules for buses, of which the first has priority, and none for trains
abbrev buses : FeedRows
buses = record base {
  leg_rules = record (network_rule 0 0 0) { priority = 1 } ∷ network_rule 1 0 1 ∷ [];
  transfer_rules = [];
  has_priority = true;
}

trains_unpaid : gaps buses no_category 20241 20241 ≡ pair 1 2 ∷ []
unfolding uncovered_pairs some_ride some_ride_of_run has_option is_ride ride_facts calls_of call_at shifts_of is_active stop_areas holds_at leg_facts network_matches area_matches frame_matches rule_matches is_top_priority is_selected_rule is_open
trains_unpaid = refl

lesser_idle : idle buses 20241 20241 ≡ rule 1 ∷ []
unfolding idle_rules some_ride some_ride_of_run is_ride ride_facts calls_of call_at shifts_of is_active stop_areas holds_at leg_facts network_matches area_matches frame_matches rule_matches is_top_priority is_selected_rule
lesser_idle = refl

-- a ticket for buses that is open to a rider category alone: others have no fare from A to B and from A to C, though the rule
-- for it is in use
abbrev for_some : FeedRows
for_some = record base { products = record (ticket 0 250) { rider = Some (record { 0 = 0 }) } ∷ ticket 1 400 ∷ [] }

closed : gaps for_some no_category 20241 20241 ≡ pair 0 1 ∷ pair 0 2 ∷ []
unfolding uncovered_pairs some_ride some_ride_of_run has_option is_ride ride_facts calls_of call_at shifts_of is_active stop_areas holds_at leg_facts network_matches area_matches frame_matches rule_matches is_top_priority is_selected_rule is_open
closed = refl

opened : gaps for_some (of_category 0) 20241 20241 ≡ []
unfolding uncovered_pairs some_ride some_ride_of_run has_option is_ride ride_facts calls_of call_at shifts_of is_active stop_areas holds_at leg_facts network_matches area_matches frame_matches rule_matches is_top_priority is_selected_rule is_open
opened = refl

closed_in_use : idle for_some 20241 20241 ≡ []
unfolding idle_rules some_ride some_ride_of_run is_ride ride_facts calls_of call_at shifts_of is_active stop_areas holds_at leg_facts network_matches area_matches frame_matches rule_matches is_top_priority is_selected_rule
closed_in_use = refl

-- a gap of one day is one, whichever of the days it is
unpaid_later : gaps buses no_category 20240 20241 ≡ pair 1 2 ∷ []
unfolding uncovered_pairs some_ride some_ride_of_run has_option is_ride ride_facts calls_of call_at shifts_of is_active stop_areas holds_at leg_facts network_matches area_matches frame_matches rule_matches is_top_priority is_selected_rule is_open
unpaid_later = refl

-- where the rule of priority has a ticket for a rider category alone, the other one, whose ticket is open, pays for nothing
abbrev first_closed : FeedRows
first_closed = record buses { products = record (ticket 0 250) { rider = Some (record { 0 = 0 }) } ∷ ticket 1 400 ∷ [] }

lesser_pays_not : gaps first_closed no_category 20241 20241 ≡ pair 0 1 ∷ pair 0 2 ∷ pair 1 2 ∷ []
unfolding uncovered_pairs some_ride some_ride_of_run has_option is_ride ride_facts calls_of call_at shifts_of is_active stop_areas holds_at leg_facts network_matches area_matches frame_matches rule_matches is_top_priority is_selected_rule is_open
lesser_pays_not = refl

-- the first trip departs at 8:00 and at 8:30, and buses have a rule from 8:30 on: the later run selects it, the earlier one has none
abbrev half_hourly : FeedRows
half_hourly = record base {
  frequencies = record { trip = record { 0 = 0 }; start = 28800; end = 32400; headway = 1800 } ∷ [];
  timeframes = record { frame = record { 0 = 0 }; service = record { 0 = 0 }; start = 30600; end = 86400 } ∷ [];
  frame_names = codes "late" ∷ [];
  leg_rules = record (network_rule 0 0 0) { from_frame = Some (record { 0 = 0 }) } ∷ network_rule 1 1 1 ∷ [];
}

later_run_selects : idle half_hourly 20241 20241 ≡ []
unfolding idle_rules some_ride some_ride_of_run is_ride ride_facts calls_of call_at shifts_of is_active stop_areas holds_at leg_facts network_matches area_matches frame_matches rule_matches is_top_priority is_selected_rule
later_run_selects = refl

earlier_run_unpaid : gaps half_hourly no_category 20241 20241 ≡ pair 0 1 ∷ pair 0 2 ∷ []
unfolding uncovered_pairs some_ride some_ride_of_run has_option is_ride ride_facts calls_of call_at shifts_of is_active stop_areas holds_at leg_facts network_matches area_matches frame_matches rule_matches is_top_priority is_selected_rule is_open
earlier_run_unpaid = refl

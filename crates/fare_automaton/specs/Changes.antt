-- Legs as changes see them, and as the program keeps them.
use Rattle.std.specs.Prelude.{Option, option_map, slice_get}
use Rattle.transit_base.specs.declared.numbers.LegGroupId.{LegGroupId}
use Rattle.feed_rows.specs.declared.fares.LegChoice.{LegChoice}
use Rattle.feed_rows.specs.declared.journeys.LegFacts.{LegFacts}
use Rattle.feed_rows.specs.FeedRows.{FeedRows}
use Rattle.feed_rows.specs.TransferRules.{FareLeg}
use Rattle.fare_automaton.specs.declared.changes.GroupedLeg.{GroupedLeg}
use Rattle.fare_automaton.specs.declared.changes.LegTimes.{LegTimes}

-- the moments of the leg
abbrev pub times_of : LegFacts → LegTimes
times_of leg = record { departure = leg.departure; arrival = leg.arrival }

-- a leg with these moments as changes see it, where its rule has this group
abbrev pub leg_by : LegTimes → Option LegGroupId → FareLeg
leg_by times group = record { group = group; departure = times.departure; arrival = times.arrival }

-- the same by the rule of the pick; none where there is no such rule
abbrev pub chosen_at : FeedRows → LegTimes → LegChoice → Option FareLeg
chosen_at feed times pick = option_map (λ rule. leg_by times rule.group) (slice_get feed.leg_rules pick.rule.0)

-- the leg as changes see it
abbrev pub leg_of : GroupedLeg → FareLeg
leg_of leg = record { group = leg.group; departure = leg.departure; arrival = leg.arrival }

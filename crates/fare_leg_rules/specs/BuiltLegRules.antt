-- What holds of the leg rules that were built from a feed.
use Rattle.std.specs.Prelude.{◌≡◌, ℕ}
use Rattle.transit_base.specs.declared.numbers.AreaId.{AreaId}
use Rattle.transit_base.specs.declared.numbers.NetworkId.{NetworkId}
use Rattle.feed_rows.specs.FeedRows.{FeedRows}
use Rattle.feed_rows.specs.LegRules.{is_listed_network, is_listed_area}
use Rattle.fare_leg_rules.specs.declared.LegRules.{LegRules}
use Rattle.number_marks.specs.Marks.{is_marked}
use Rattle.fare_leg_rules.specs.Places.{is_common, is_of, rules_at, HasRules}

-- the rules are those of this feed
pub record AreLegRulesOf (feed : FeedRows) (rules : LegRules) : Type 0 where
  pub rows : rules.rules.items ≡ feed.leg_rules
  pub common : HasRules feed.leg_rules is_common rules.common.items
  pub of_network : (network : ℕ) → HasRules feed.leg_rules (is_of network) (rules_at rules.by_network network)
  pub has_priority : rules.has_priority ≡ feed.has_priority
  pub networks : (network : NetworkId) → is_marked rules.networks.items network.0 ≡ is_listed_network feed network
  pub from_areas : (area : AreaId) → is_marked rules.from_areas.items area.0 ≡ is_listed_area feed (λ r. r.from_area) area
  pub to_areas : (area : AreaId) → is_marked rules.to_areas.items area.0 ≡ is_listed_area feed (λ r. r.to_area) area

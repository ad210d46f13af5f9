-- What is asked of the days of an audit, and what holds of one that was built.
use Rattle.std.specs.Prelude.{◌≤◌, ◌≤ℤ◌, ◌+ℤ◌, ℤ, pos, negsuc}
use Rattle.fare_leg_rules.specs.BuiltLegRules.{AreLegRulesOf}
use Rattle.fare_products.specs.BuiltProducts.{AreProductsOf}
use Rattle.fare_timeframes.specs.BuiltTimeframes.{AreTimeframesOf}
use Rattle.fare_audit.specs.declared.judge.Audit.TheInside.{Inside}
use Rattle.fare_audit.specs.Found.{AuditOf}

-- days from 1900 to 2999, of which the last is no earlier than the first, and at most 365 days later
abbrev pub AreAuditDays : ℤ → ℤ → Type 0
AreAuditDays first last = (negsuc 25_566 ≤ℤ first) × (last ≤ℤ pos 376_199) × (first ≤ℤ last) × (last ≤ℤ (first +ℤ pos 365))

-- the fields as one record
abbrev pub audit_inside : Inside → AuditOf
audit_inside s = record { feed = s.feed.now; buyer = s.buyer; first = s.first.0; count = s.count }

-- all was built from the feed, and the days lie within bounds
pub record IsBuilt (s : Inside) : Type 0 where
  pub low : negsuc 799_999 ≤ℤ s.first.0
  pub high : s.first.0 ≤ℤ pos 2_000_000
  pub few : s.count ≤ 366
  pub timeframes : AreTimeframesOf s.feed.now s.timeframes
  pub rules : AreLegRulesOf s.feed.now s.rules
  pub products : AreProductsOf s.feed.now s.products

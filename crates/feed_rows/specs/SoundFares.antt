-- What holds of the areas, timeframes, rider categories, media, products and fare rules of a feed. Row numbers are in
-- range, whole numbers of the files at most 2^31 - 1, times of day at most 24:00:00 and amounts at most 10^12.
use Rattle.std.specs.Prelude.{◌≡◌, ◌≢◌, ◌^◌, ◌<◌, ◌≤◌, ◌⊎◌, ◌↔◌, nat_abs, length, All, AllPairs, IsSome, IsNone, false}
use Rattle.std.specs.Option.{ForSome}
use Rattle.feed_rows.specs.Limits.{most_rows}
use Rattle.transit_base.specs.Limits.{day_seconds}
use Rattle.feed_rows.specs.FeedRows.{FeedRows}
use Rattle.feed_rows.specs.SoundNames.{IsIdText}

-- areas.txt
pub record AreSoundAreas (feed : FeedRows) : Type 0 where
  pub few : length feed.areas ≤ most_rows
  pub ids : All (λ a. IsIdText a.id) feed.areas
  pub no_doubles : AllPairs (λ a b. a.id ≢ b.id) feed.areas

-- stop_areas.txt
pub record AreSoundStopAreas (feed : FeedRows) : Type 0 where
  pub few : length feed.stop_areas ≤ most_rows
  pub areas : All (λ s. s.area.0 < length feed.areas) feed.stop_areas
  pub stops : All (λ s. s.stop.0 < length feed.stops) feed.stop_areas

-- timeframes.txt
pub record AreSoundTimeframes (feed : FeedRows) : Type 0 where
  pub few : length feed.timeframes ≤ most_rows
  pub frames : All (λ t. t.frame.0 < length feed.frame_names) feed.timeframes
  pub services : All (λ t. t.service.0 < length feed.service_names) feed.timeframes
  pub ordered : All (λ t. t.start < t.end) feed.timeframes
  pub ends : All (λ t. t.end ≤ day_seconds) feed.timeframes
  -- of two rows of one group and one service, one ends before the other starts
  pub apart : AllPairs (λ t u. t.frame.0 ≡ u.frame.0 → t.service.0 ≡ u.service.0 → (t.end ≤ u.start) ⊎ (u.end ≤ t.start)) feed.timeframes

-- rider_categories.txt
pub record AreSoundRiders (feed : FeedRows) : Type 0 where
  pub few : length feed.riders ≤ most_rows
  pub ids : All (λ r. IsIdText r.id) feed.riders
  pub no_doubles : AllPairs (λ r s. r.id ≢ s.id) feed.riders

-- fare_media.txt
pub record AreSoundMedia (feed : FeedRows) : Type 0 where
  pub few : length feed.media ≤ most_rows
  pub ids : All (λ m. IsIdText m.id) feed.media
  pub no_doubles : AllPairs (λ m n. m.id ≢ n.id) feed.media

-- fare_products.txt
pub record AreSoundProducts (feed : FeedRows) : Type 0 where
  pub few : length feed.products ≤ most_rows
  pub names : All (λ p. p.product.0 < length feed.product_names) feed.products
  pub riders : All (λ p. ForSome p.rider (λ r. r.0 < length feed.riders)) feed.products
  pub media : All (λ p. ForSome p.medium (λ m. m.0 < length feed.media)) feed.products
  -- no two rows are of one product, rider category and medium
  pub no_doubles : AllPairs (λ p q. p.product.0 ≡ q.product.0 → p.rider ≡ q.rider → p.medium ≢ q.medium) feed.products
  pub amounts : All (λ p. nat_abs p.amount.0 ≤ 10 ^ 12) feed.products

-- fare_leg_rules.txt
pub record AreSoundLegRules (feed : FeedRows) : Type 0 where
  pub few : length feed.leg_rules ≤ most_rows
  pub groups : All (λ r. ForSome r.group (λ g. g.0 < length feed.group_names)) feed.leg_rules
  pub networks : All (λ r. ForSome r.network (λ n. n.0 < length feed.network_names)) feed.leg_rules
  pub from_areas : All (λ r. ForSome r.from_area (λ a. a.0 < length feed.areas)) feed.leg_rules
  pub to_areas : All (λ r. ForSome r.to_area (λ a. a.0 < length feed.areas)) feed.leg_rules
  pub from_frames : All (λ r. ForSome r.from_frame (λ f. f.0 < length feed.frame_names)) feed.leg_rules
  pub to_frames : All (λ r. ForSome r.to_frame (λ f. f.0 < length feed.frame_names)) feed.leg_rules
  pub products : All (λ r. r.product.0 < length feed.product_names) feed.leg_rules
  pub priorities : All (λ r. r.priority ≤ 2_147_483_647) feed.leg_rules
  -- where the file lacks the column, each priority is 0
  pub unranked : feed.has_priority ≡ false → All (λ r. r.priority ≡ 0) feed.leg_rules

-- fare_transfer_rules.txt
pub record AreSoundTransferRules (feed : FeedRows) : Type 0 where
  pub few : length feed.transfer_rules ≤ most_rows
  pub froms : All (λ r. ForSome r.from (λ g. g.0 < length feed.group_names)) feed.transfer_rules
  pub tos : All (λ r. ForSome r.to (λ g. g.0 < length feed.group_names)) feed.transfer_rules
  pub products : All (λ r. ForSome r.product (λ p. p.0 < length feed.product_names)) feed.transfer_rules
  pub kinds : All (λ r. r.kind ≤ 2) feed.transfer_rules
  -- only a rule from a leg group to the same one, or from any to any, has a count
  pub counted : All (λ r. ForSome r.count (λ n. r.from ≡ r.to)) feed.transfer_rules
  pub counts : All (λ r. ForSome r.count (λ n. (1 ≤ n) × (n ≤ 2_147_483_647))) feed.transfer_rules
  pub limits : All (λ r. ForSome r.limit (λ l. (1 ≤ l.seconds) × (l.seconds ≤ 2_147_483_647))) feed.transfer_rules
  pub limit_kinds : All (λ r. ForSome r.limit (λ l. l.kind ≤ 3)) feed.transfer_rules

-- fare_leg_join_rules.txt
pub record AreSoundJoinRules (feed : FeedRows) : Type 0 where
  pub few : length feed.joins ≤ most_rows
  pub from_networks : All (λ j. j.from_network.0 < length feed.network_names) feed.joins
  pub to_networks : All (λ j. j.to_network.0 < length feed.network_names) feed.joins
  pub from_stops : All (λ j. ForSome j.from_stop (λ s. s.0 < length feed.stops)) feed.joins
  pub to_stops : All (λ j. ForSome j.to_stop (λ s. s.0 < length feed.stops)) feed.joins
  -- a row names both stops or neither
  pub both_stops : All (λ j. IsSome j.from_stop ↔ IsSome j.to_stop) feed.joins

-- the currency of fare_products.txt
pub record IsSoundCurrency (feed : FeedRows) : Type 0 where
  -- a feed has a currency exactly where it has a product
  pub known : IsSome feed.currency ↔ (1 ≤ length feed.products)
  -- three capital letters
  pub code : ForSome feed.currency (λ c. length c ≡ 3)
  pub letters : ForSome feed.currency (λ c. All (λ b. (65 ≤ b) × (b ≤ 90)) c)
  -- amounts have no, two or three decimals, and two where there is no currency
  pub decimals : (feed.decimals ≡ 0) ⊎ (feed.decimals ≡ 2) ⊎ (feed.decimals ≡ 3)
  pub no_currency : IsNone feed.currency → feed.decimals ≡ 2

-- Feeds in which a key stands twice, each of which has a fault; and lists that are too long.
use Rattle.std.proofs.Common.{◌≡◌, ◌≤◌, ◌⊎◌, refl, ap, ℕ, true, false, List, [], ◌∷◌, length, inl, inr, arith}
use Rattle.std.specs.Prelude.{Option, Some, None, pos, codes}
use Rattle.transit_base.specs.declared.numbers.LegGroupId.{LegGroupId}
use Rattle.feed_rows.specs.FeedRows.{FeedRows}
use Rattle.feed_rows.specs.SoundNames.{IsNameList}
use Rattle.feed_examples.specs.BaseFeed.{base, platform, trip, transfer_rule}
use Rattle.feed_examples.proofs.CornerRides.{frequency}
use Rattle.feed_examples.proofs.EdgeFeed.{calendar, added, timeframe, offer}
use Rattle.feed_examples.proofs.UnsoundFeeds.{IsFaulty}

-- two stops, routes or trips of one id
stop_twice : IsFaulty (record base { stops = platform (codes "A") ∷ platform (codes "B") ∷ platform (codes "A") ∷ [] })
stop_twice sound = sound.stops.no_doubles 0 2 (platform []) (omega arith) (omega arith) refl

route_twice : IsFaulty (record base {
  routes = record { id = codes "R"; network = None } ∷ record { id = codes "R"; network = None } ∷ [];
})
route_twice sound = sound.routes.no_doubles 0 1 (record { id = []; network = None }) (omega arith) (omega arith) refl

trip_twice : IsFaulty (record base { trips = trip (codes "T") 0 ∷ trip (codes "T") 1 ∷ [] })
trip_twice sound = sound.trips.no_doubles 0 1 (trip [] 0) (omega arith) (omega arith) refl

-- two calendar rows of one service, and two exceptions of one service and one day, though of two types
calendar_twice : IsFaulty (record base { services = calendar 0 (pos 0) (pos 0) ∷ calendar 0 (pos 1) (pos 2) ∷ [] })
calendar_twice sound =
    sound.services.no_doubles 0 1 (calendar 0 (pos 0) (pos 0)) (omega arith) (omega arith) refl

exception_twice : IsFaulty (record base {
  exceptions = added 0 (pos 5) ∷ record (added 0 (pos 5)) { added = false } ∷ [];
})
exception_twice sound = sound.exceptions.no_doubles 0 1 (added 0 (pos 0)) (omega arith) (omega arith) refl refl

-- two frequency rows of one trip and one start
frequency_twice : IsFaulty (record base { frequencies = frequency 0 100 200 10 ∷ frequency 0 100 300 20 ∷ [] })
frequency_twice sound = sound.frequencies.no_doubles 0 1 (frequency 0 0 0 0) (omega arith) (omega arith) refl refl

-- two areas, rider categories or media of one id
area_twice : IsFaulty (record base { areas = record { id = codes "z" } ∷ record { id = codes "z" } ∷ [] })
area_twice sound = sound.areas.no_doubles 0 1 (record { id = [] }) (omega arith) (omega arith) refl

rider_twice : IsFaulty (record base {
  riders = record { id = codes "adult"; default = true } ∷ record { id = codes "adult"; default = false } ∷ [];
})
rider_twice sound = sound.riders.no_doubles 0 1 (record { id = []; default = false }) (omega arith) (omega arith) refl

medium_twice : IsFaulty (record base { media = record { id = codes "card" } ∷ record { id = codes "card" } ∷ [] })
medium_twice sound = sound.media.no_doubles 0 1 (record { id = [] }) (omega arith) (omega arith) refl

-- two rows of one product for the same riders and the same medium, or for no category and no medium
product_twice : IsFaulty (record base { products = offer 0 None None (pos 1) ∷ offer 0 None None (pos 2) ∷ [] })
product_twice sound =
    sound.products.no_doubles 0 1 (offer 0 None None (pos 0)) (omega arith) (omega arith) refl refl refl

-- timeframes of one group and one service that overlap, where neither begins first and where the later one stands first
frames_overlap : IsFaulty (record base {
  frame_names = codes "peak" ∷ [];
  timeframes = timeframe 0 0 100 200 ∷ timeframe 0 0 199 300 ∷ [];
})
frames_overlap sound = apart (sound.timeframes.apart 0 1 (timeframe 0 0 0 0) (omega arith) (omega arith) refl refl)
  where
    apart : (200 ≤ 199) ⊎ (300 ≤ 100) → ⊥
    apart (inl before) = omega (arith, before)
    apart (inr behind) = omega (arith, behind)

frames_overlap_behind : IsFaulty (record base {
  frame_names = codes "peak" ∷ [];
  timeframes = timeframe 0 0 199 300 ∷ timeframe 0 0 100 200 ∷ [];
})
frames_overlap_behind sound =
    apart (sound.timeframes.apart 0 1 (timeframe 0 0 0 0) (omega arith) (omega arith) refl refl)
  where
    apart : (300 ≤ 100) ⊎ (200 ≤ 199) → ⊥
    apart (inl before) = omega (arith, before)
    apart (inr behind) = omega (arith, behind)

-- a count between two groups, and to a group from any
count_between_groups : IsFaulty (record base {
  transfer_rules = record (transfer_rule 0 1 0 None) { count = Some 1 } ∷ [];
})
count_between_groups sound =
    let same = sound.transfer_rules.counted 0 (transfer_rule 0 0 0 None) (omega arith) 1 refl in
    let no : 0 ≡ 1 = ap group_of same in
    omega (arith, no)
  where
    group_of : Option LegGroupId → ℕ
    group_of None = 9
    group_of (Some g) = g.0

count_from_any : IsFaulty (record base {
  transfer_rules = record (transfer_rule 0 1 0 None) { from = None; count = Some 1 } ∷ [];
})
count_from_any sound =
    let same = sound.transfer_rules.counted 0 (transfer_rule 0 0 0 None) (omega arith) 1 refl in
    let no : 9 ≡ 1 = ap group_of same in
    omega (arith, no)
  where
    group_of : Option LegGroupId → ℕ
    group_of None = 9
    group_of (Some g) = g.0

-- products without a currency
no_currency : IsFaulty (record base { currency = None })
no_currency sound = absurd (let no : false ≡ true = sound.currency.known.1 (omega arith) in cc)

-- a row more than four million, and a name more than sixteen million
too_many_stops : (feed : FeedRows) → length feed.stops ≡ 4_000_001 → IsFaulty feed
too_many_stops feed many sound = let few = sound.stops.few in omega (arith, many, few)

too_many_names : (names : List (List ℕ)) → length names ≡ 16_000_001 → IsNameList names → ⊥
too_many_names names many are = let few = are.few in omega (arith, many, few)

-- The areas of stops, from the rows that name them.
use Rattle.std.proofs.Common.{◌≡◌, refl, sym, ◌∙◌, ap, subst, ℕ, ◌<◌, ◌≤◌, ◌⊎◌, inl, inr, Bool, true, false, ◌&&◌, ◌||◌, ◌==◌, if◌then◌else◌, List, [], length, map, filter, All, Contains, Option, Some, None, IsPermutation, arith}
use Rattle.std.specs.Prelude.{slice_get, unwrap_or, option_and_then}
use Rattle.std.specs.Option.{option_map_or}
use Rattle.std.specs.List.{list_any, dedup}
use Rattle.std.specs.List.Sorted.{IsSorted}
use Rattle.std.specs.Ordering.{nat_cmp, eq_by_cmp}
use Rattle.std.specs.declared.cmp.Ordering.{Ordering}
use Rattle.std.specs.declared.cmp.Ordering.TheVariants.{Less}
use Rattle.std.proofs.lemmas.Bool.{cases_lt, and_parts}
use Rattle.std.proofs.lemmas.Bool.Decides.{nat_tests}
use Rattle.std.proofs.lemmas.Cmp.{nat_cmp_total, nat_eq_equiv, on_total, on_equiv}
use Rattle.std.proofs.lemmas.List.Elements.{All-contains}
use Rattle.std.proofs.lemmas.List.Kept.{IsStrictlySortedBy-dedup, Contains-dedup, Contains-from_dedup}
use Rattle.std.proofs.lemmas.List.Sorted.{Contains-permutation, IsPermutation-sym}
use Rattle.std.proofs.lemmas.Map.Keys.{Less-from_sorted}
use Rattle.std.proofs.lemmas.Option.{slice_get_past}
use Rattle.transit_base.specs.declared.numbers.AreaId.{AreaId}
use Rattle.transit_base.specs.declared.numbers.StopId.{StopId}
use Rattle.feed_rows.specs.declared.rows.StopAreaRow.{StopAreaRow}
use Rattle.feed_rows.specs.declared.rows.StopRow.{StopRow}
use Rattle.feed_rows.specs.declared.rows.RouteRow.{RouteRow}
use Rattle.feed_rows.specs.FeedRows.{FeedRows}
use Rattle.feed_rows.specs.Legs.{is_in_area, own_areas, has_own_areas, stop_areas}
use Rattle.feed_rows.specs.SoundFares.{AreSoundStopAreas}
use Rattle.feed_rows.specs.SoundFeed.{IsSoundFeed}
use Rattle.feed_rows.specs.StopLinks.{is_platform, is_station, parent_of}
use Rattle.item_groups.specs.declared.groups.Grouped.{Grouped}
use Rattle.plain_laws.specs.Plain.{list_below}
use Rattle.item_groups.specs.Groups.{group_of, groups_below}
use Rattle.plain_laws.proofs.Laws.{any_passes, list_any_tells, list_any-map, list_any-filter, none_of_both, number_equal, map-tells, All-from, All-slice_get, All-list_below, length-list_below, slice_get-list_below, list_below-same, picks_below-same, picks_below-none, Contains-picks_below, AllPairs-picks_below, picks_from_ascending}
use Rattle.item_groups.proofs.GroupLaws.{group_of-tells, groups_below-at, groups_below-past}
use Rattle.fare_areas.specs.AreaRows.{by_stop, areas_at, DoRise, area_of, ordered, own_table, source_of, source_at}
use Rattle.fare_areas.specs.AreaTables.{AreaTable}
use Rattle.fare_areas.specs.BuiltAreas.{AreAreasOf}

-- areas by their numbers
abbrev pub area_cmp : AreaId → AreaId → Ordering
area_cmp a b = nat_cmp a.0 b.0

abbrev pub area_eq : AreaId → AreaId → Bool
area_eq a b = a.0 == b.0

ties : (a b : AreaId) → area_eq a b ≡ eq_by_cmp area_cmp a b
ties a b = sym (number_equal a.0 b.0)

same_area : (a b : AreaId) → area_eq a b ≡ true → a ≡ b
same_area a b e = let n : a.0 ≡ b.0 = grind (arith, nat_tests, e) in ap area_of n

less : (a b : AreaId) → area_cmp a b ≡ Less → a.0 < b.0
less a b e = grind (arith, nat_tests, e)

-- areas that are sorted and from which doubles are taken
pub ordered_from_sorted : (areas sorted : List AreaId) (most : ℕ) → IsPermutation areas sorted → IsSorted area_cmp sorted → All (λ a. a.0 < most) areas → dedup area_eq sorted ≡ ordered most areas
ordered_from_sorted areas sorted most moved up within =
    picks_from_ascending (λ a. a.0) most (λ i. list_any (λ a. a.0 == i) areas) area_of (dedup area_eq sorted) (λ i. refl) rises
    (λ a at.
    let was = Contains-permutation sorted areas a (IsPermutation-sym areas sorted moved) (Contains-from_dedup area_eq sorted a at) in
    let own : (a.0 == a.0) ≡ true = grind (arith, nat_tests) in
    record { number = a.0; within = All-contains (λ b. b.0 < most) areas a within was; passes = any_passes (λ b. b.0 == a.0) areas a was own; is = refl })
    (λ i lt here.
    let found = list_any_tells (λ b. b.0 == i) areas here in
    let is : found.0 ≡ area_of i = same_area found.0 (area_of i) found.2 in
    subst (Contains (dedup area_eq sorted)) is
    (Contains-dedup (on_equiv (λ b. b.0) nat_eq_equiv) same_area sorted found.0 (Contains-permutation areas sorted found.0 moved found.1)))
  where
    rises : DoRise (dedup area_eq sorted)
    rises i j d lt to =
        let strict = IsStrictlySortedBy-dedup (on_total (λ (b : AreaId). b.0) nat_cmp_total) {E = area_eq} ties sorted up in
        less _ _ (Less-from_sorted area_cmp (dedup area_eq sorted) i j d strict lt to)

module _ (feed : FeedRows) (sound : AreSoundStopAreas feed) where
  -- a row of the stop's group
  row_of : (stop : ℕ) (a : AreaId) → Contains (group_of (map by_stop feed.stop_areas) stop) a → (row : StopAreaRow) × Contains feed.stop_areas row × (by_stop row ≡ record { group = stop; item = a })
  row_of stop a at = map-tells by_stop feed.stop_areas (record { group = stop; item = a }) (group_of-tells (map by_stop feed.stop_areas) stop a at)

  -- the areas of a group are areas of the feed
  group_within : (stop : ℕ) → All (λ a. a.0 < length feed.areas) (group_of (map by_stop feed.stop_areas) stop)
  group_within stop = All-from (λ a. a.0 < length feed.areas) _ (λ a at.
      let row = row_of stop a at in
      let is : row.0.area ≡ a = ap (λ (m : Grouped AreaId). m.item) row.2 in
      subst (λ (b : AreaId). b.0 < length feed.areas) is (All-contains (λ s. s.area.0 < length feed.areas) feed.stop_areas row.0 sound.areas row.1))

  -- a group has an area where a row puts the stop into it
  group_has : (stop i : ℕ) → list_any (λ a. a.0 == i) (group_of (map by_stop feed.stop_areas) stop) ≡ is_in_area feed (record { 0 = stop }) i
  group_has stop i =
      list_any-map (λ (a : AreaId). a.0 == i) (λ (m : Grouped AreaId). m.item) (filter (λ m. m.group == stop) (map by_stop feed.stop_areas))
      ∙ list_any-filter (λ (m : Grouped AreaId). m.item.0 == i) (λ m. m.group == stop) (map by_stop feed.stop_areas)
      ∙ list_any-map (λ (m : Grouped AreaId). (m.group == stop) && (m.item.0 == i)) by_stop feed.stop_areas

  -- the areas of each stop's own rows, from the rows in groups
  pub own_from_groups : (rows : List StopAreaRow) (groups own : List (List AreaId)) (n : ℕ) → rows ≡ feed.stop_areas → n ≡ length feed.stops → groups ≡ groups_below n (map by_stop rows)
      → ((most : ℕ) → ((stop : ℕ) → All (λ a. a.0 < most) (areas_at groups stop)) → own ≡ list_below n (λ stop. ordered most (areas_at groups stop))) → own ≡ own_table feed
  own_from_groups rows groups own n same count are made =
      made (length feed.areas) (λ stop. within stop (cases_lt stop n))
      ∙ list_below-same n _ _ (λ stop lt. picks_below-same (length feed.areas) _ _ area_of (λ i to. ap (list_any (λ a. a.0 == i)) (group stop lt) ∙ group_has stop i))
      ∙ ap (λ k. list_below k (λ stop. own_areas feed (record { 0 = stop }))) count
    where
      group : (stop : ℕ) → stop < n → areas_at groups stop ≡ group_of (map by_stop feed.stop_areas) stop
      group stop lt = rw (are, same) (groups_below-at n (map by_stop feed.stop_areas) stop lt)

      within : (stop : ℕ) → (stop < n) ⊎ (n ≤ stop) → All (λ a. a.0 < length feed.areas) (areas_at groups stop)
      within stop (inl lt) = rw (group stop lt) (group_within stop)
      within stop (inr past) = rw (are, groups_below-past n (map by_stop rows) stop past) (λ k d no. absurd (omega arith))

  -- a stop without rows of its own has no areas of its own
  own_none : (stop : StopId) → has_own_areas feed stop ≡ false → own_areas feed stop ≡ []
  own_none stop none = picks_below-none (length feed.areas) (is_in_area feed stop) area_of (λ i lt. none_of_both (λ row. row.stop.0 == stop.0) (λ row. row.area.0 == i) feed.stop_areas none)

  -- and one that has rows has some
  own_some : (stop : StopId) → has_own_areas feed stop ≡ true → (length (own_areas feed stop) == 0) ≡ false
  own_some stop some =
      let found = list_any_tells (λ row. row.stop.0 == stop.0) feed.stop_areas some in
      let own : (found.0.area.0 == found.0.area.0) ≡ true = grind (arith, nat_tests) in
      let both : ((found.0.stop.0 == stop.0) && (found.0.area.0 == found.0.area.0)) ≡ true = rw (found.2, own) refl in
      let here = any_passes (λ row. (row.stop.0 == stop.0) && (row.area.0 == found.0.area.0)) feed.stop_areas found.0 found.1 both in
      let at = Contains-picks_below (length feed.areas) (is_in_area feed stop) area_of found.0.area.0 (All-contains (λ s. s.area.0 < length feed.areas) feed.stop_areas found.0 sound.areas found.1) here in
      let lt = at.1 in
      grind (arith, nat_tests, lt)

  -- the rows of a stop that isn't there
  own_past : (stop : StopId) → length feed.stops ≤ stop.0 → own_areas feed stop ≡ []
  own_past stop past = picks_below-none (length feed.areas) (is_in_area feed stop) area_of (λ i lt. step i (is_in_area feed stop i) refl)
    where
      step : (i : ℕ) (b : Bool) → is_in_area feed stop i ≡ b → b ≡ false
      step i false e = refl
      step i true e =
          let found = list_any_tells (λ row. (row.stop.0 == stop.0) && (row.area.0 == i)) feed.stop_areas e in
          let is : (found.0.stop.0 == stop.0) ≡ true = (and_parts (found.0.stop.0 == stop.0) (found.0.area.0 == i) found.2).0 in
          let lt = All-contains (λ s. s.stop.0 < length feed.stops) feed.stop_areas found.0 sound.stops found.1 in
          absurd (let same : found.0.stop.0 ≡ stop.0 = grind (arith, nat_tests, is) in omega arith)

  -- each stop's own areas, by its number
  pub own_at : (stop : StopId) → areas_at (own_table feed) stop.0 ≡ own_areas feed stop
  own_at stop = step (cases_lt stop.0 (length feed.stops))
    where
      step : (stop.0 < length feed.stops) ⊎ (length feed.stops ≤ stop.0) → areas_at (own_table feed) stop.0 ≡ own_areas feed stop
      step (inl lt) = rw (slice_get-list_below (length feed.stops) (λ s. own_areas feed (record { 0 = s })) stop.0 lt) refl
      step (inr past) =
          let long = length-list_below (length feed.stops) (λ s. own_areas feed (record { 0 = s })) in
          rw (slice_get_past (own_table feed) stop.0 (omega arith), own_past stop past) refl

  -- whose rows tell the areas of a stop
  source_is : (own : List (List AreaId)) (stop : StopId) → areas_at own stop.0 ≡ own_areas feed stop → source_at own feed.stops stop.0 ≡ source_of feed stop
  source_is own stop are = step (slice_get feed.stops stop.0) refl
    where
      step : (o : Option StopRow) → slice_get feed.stops stop.0 ≡ o → source_at own feed.stops stop.0 ≡ source_of feed stop
      step None got = rw got refl
      step (Some row) got = rw (got, are) (kind (row.kind == 0) (row.kind == 1) (has_own_areas feed stop) refl)
        where
          kind : (platform station has : Bool) → has_own_areas feed stop ≡ has
              → (if platform && (length (own_areas feed stop) == 0) then row.parent else if platform || station then Some stop else None)
              ≡ (if platform then (if has then Some stop else row.parent) else if station then Some stop else None)
          kind true station true e = rw (own_some stop e) refl
          kind true station false e = rw (own_none stop e) refl
          kind false true has e = refl
          kind false false has e = refl

  pub sources_at : (own : List (List AreaId)) (sources : List (Option StopId)) → own ≡ own_table feed → sources ≡ list_below (length feed.stops) (source_at own feed.stops)
      → (stop : StopId) → option_and_then (λ source. source) (slice_get sources stop.0) ≡ source_of feed stop
  sources_at own sources is are stop = rw are (step (cases_lt stop.0 (length feed.stops)))
    where
      here : source_at own feed.stops stop.0 ≡ source_of feed stop
      here = source_is own stop (ap (λ t. areas_at t stop.0) is ∙ own_at stop)

      step : (stop.0 < length feed.stops) ⊎ (length feed.stops ≤ stop.0) → option_and_then (λ source. source) (slice_get (list_below (length feed.stops) (source_at own feed.stops)) stop.0) ≡ source_of feed stop
      step (inl lt) = rw (slice_get-list_below (length feed.stops) (source_at own feed.stops) stop.0 lt) here
      step (inr past) =
          let long = length-list_below (length feed.stops) (source_at own feed.stops) in
          let none = slice_get_past feed.stops stop.0 past in
          rw (slice_get_past (list_below (length feed.stops) (source_at own feed.stops)) stop.0 (omega arith)) (sym (sym here ∙ rw none refl))

-- the own areas of each stop rise
pub own_rises : (feed : FeedRows) (own : List (List AreaId)) → own ≡ own_table feed → All DoRise own
own_rises feed own is = rw is (All-list_below DoRise (length feed.stops) _ (λ stop lt. AllPairs-picks_below (λ a b. a.0 < b.0) (length feed.areas) _ area_of (λ i j less to. less)))

pub rises_at : (own : List (List AreaId)) (stop : ℕ) → All DoRise own → DoRise (areas_at own stop)
rises_at own stop rises = step (slice_get own stop) refl
  where
    step : (o : Option (List AreaId)) → slice_get own stop ≡ o → DoRise (unwrap_or o [])
    step None got = λ i j d lt to. absurd (omega arith)
    step (Some areas) got = All-slice_get DoRise own stop areas got rises

-- the areas of a stop are the own ones of the stop whose rows tell them
pub areas_from_source : (feed : FeedRows) (stop : StopId) → stop_areas feed stop ≡ option_map_or (own_areas feed) (source_of feed stop) []
unfolding stop_areas
areas_from_source feed stop = step (is_platform feed stop) (has_own_areas feed stop) (is_station feed stop)
  where
    step : (platform has station : Bool)
        → (if platform then (if has then own_areas feed stop else option_map_or (own_areas feed) (parent_of feed stop) []) else if station then own_areas feed stop else [])
        ≡ option_map_or (own_areas feed) (if platform then (if has then Some stop else parent_of feed stop) else if station then Some stop else None) []
    step true true station = refl
    step true false station = refl
    step false has true = refl
    step false has false = refl

-- the areas of a stop, where the stop whose rows tell them is known
pub areas_by_source : (feed : FeedRows) (areas : AreaTable) (stop source : StopId) → AreAreasOf feed areas → Some source ≡ option_and_then (λ s. s) (slice_get areas.sources stop.0) → areas_at areas.own source.0 ≡ stop_areas feed stop
areas_by_source feed areas stop source are is = are.own source ∙ ap (λ o. option_map_or (own_areas feed) o []) (is ∙ are.sources stop) ∙ sym (areas_from_source feed stop)

pub areas_without_source : (feed : FeedRows) (areas : AreaTable) (stop : StopId) → AreAreasOf feed areas → None ≡ option_and_then (λ s. s) (slice_get areas.sources stop.0) → [] ≡ stop_areas feed stop
areas_without_source feed areas stop are is = ap (λ o. option_map_or (own_areas feed) o []) (is ∙ are.sources stop) ∙ sym (areas_from_source feed stop)

-- the areas of a feed, from what each step of the building made
pub built : (feed inside : FeedRows) (stops : List StopRow) (routes : List RouteRow) (areas : AreaTable) → inside ≡ feed → IsSoundFeed inside → stops ≡ inside.stops → routes ≡ inside.routes
    → areas.own ≡ own_table feed → areas.sources ≡ list_below (length stops) (source_at areas.own stops) → areas.networks ≡ map (λ row. row.network) routes → AreAreasOf feed areas
built feed inside stops routes areas view sound same_stops same_routes own sources networks =
    let sound_rows : AreSoundStopAreas feed = subst AreSoundStopAreas view sound.stop_areas in
    let stops_are : stops ≡ feed.stops = same_stops ∙ ap (λ (f : FeedRows). f.stops) view in
    record {
      own = λ stop. ap (λ t. areas_at t stop.0) own ∙ own_at feed sound_rows stop;
      sources = sources_at feed sound_rows areas.own areas.sources own (sources ∙ ap (λ rows. list_below (length rows) (source_at areas.own rows)) stops_are);
      networks = networks ∙ ap (map (λ (row : RouteRow). row.network)) (same_routes ∙ ap (λ (f : FeedRows). f.routes) view);
    }

-- Laws of the platforms that stops stand for.
use Rattle.std.proofs.Common.{◌≡◌, refl, sym, ◌∙◌, ap, ℕ, zero, suc, ◌<◌, ◌≤◌, ◌⊎◌, inl, inr, ⊎_elim, true, false, List, [], ◌∷◌, ◌++◌, length, get_or, arith}
use Rattle.std.specs.Prelude.{◌==◌, ◌&&◌, if◌then◌else◌, Option, Some, None, slice_get, unwrap_or}
use Rattle.std.specs.Option.{option_map_or}
use Rattle.std.proofs.lemmas.Bool.{cases_lt, cases_Bool}
use Rattle.std.proofs.lemmas.Bool.Decides.{nat_tests}
use Rattle.std.proofs.lemmas.Option.{same_Some, slice_get_within, none-some, slice_get_read, slice_get-get_or, slice_get_past}
use Rattle.transit_base.specs.declared.numbers.StopId.{StopId}
use Rattle.feed_rows.specs.declared.rows.StopRow.{StopRow}
use Rattle.item_groups.specs.declared.groups.Grouped.{Grouped}
use Rattle.feed_rows.specs.FeedRows.{FeedRows}
use Rattle.feed_rows.specs.SoundTimetable.{AreSoundStops}
use Rattle.plain_laws.specs.Plain.{joined_below, list_below, at_and, filled_and, ids_where}
use Rattle.item_groups.specs.Groups.{group_of, groups_below}
use Rattle.feed_rows.specs.StopLinks.{is_member, stop_set}
use Rattle.feed_rows.specs.StopSets.{stop_sets, row_sets, row_sets_at, own_set, station_set}
use Rattle.feed_laws.proofs.FeedReadings.{parent_kind}
use Rattle.plain_laws.proofs.Laws.{list_below-same, length-list_below, slice_get-list_below, joined_below-same, one_where, joined_below-picks, joined_below-none, joined_below-one}

module _ (feed : FeedRows) (sound : AreSoundStops feed) (i : ℕ) (s : StopRow) (got : slice_get feed.stops i ≡ Some s) where
  -- the row at the place of another is that row
  same_row : (r : ℕ) (t : StopRow) → slice_get feed.stops r ≡ Some t → r ≡ i → t ≡ s
  same_row r t there same = same_Some t s (sym there ∙ ap (slice_get feed.stops) same ∙ got)

  -- no platform's station is a stop of another kind
  pub station_set-none : (r : ℕ) (t : StopRow) → slice_get feed.stops r ≡ Some t → (s.kind ≡ 1 → ⊥) → station_set t.parent r i ≡ []
  station_set-none r t there apart = step t.parent refl
    where
      step : (parent : Option StopId) → t.parent ≡ parent → station_set parent r i ≡ []
      step None named = refl
      step (Some p) named = ⊎_elim (λ (hit : (p.0 == i) ≡ true). absurd (apart (parent_kind feed r t s p sound there named (at hit)))) (λ (miss : (p.0 == i) ≡ false). rw miss refl) (cases_Bool (p.0 == i))
        where
          at : (p.0 == i) ≡ true → slice_get feed.stops p.0 ≡ Some s
          at hit = let same : p.0 ≡ i = grind (arith, nat_tests, hit) in ap (slice_get feed.stops) same ∙ got

  -- no platform is a stop of another kind
  pub own_set-none : (r : ℕ) (t : StopRow) → slice_get feed.stops r ≡ Some t → (t.kind == 0) ≡ true → (s.kind ≡ 0 → ⊥) → own_set r i ≡ []
  own_set-none r t there flat apart = ⊎_elim (λ (hit : (r == i) ≡ true). absurd (apart (at hit))) (λ (miss : (r == i) ≡ false). rw miss refl) (cases_Bool (r == i))
    where
      at : (r == i) ≡ true → s.kind ≡ 0
      at hit =
          let same : r ≡ i = grind (arith, nat_tests, hit) in
          let one = same_row r t there same in
          let zeroth : t.kind ≡ 0 = grind (arith, nat_tests, flat) in
          cc

  -- a platform's set is itself
  pub platform_set : s.kind ≡ 0 → joined_below (length feed.stops) (λ r. row_sets_at feed.stops r i) ≡ (record { 0 = i }) ∷ []
  unfolding row_sets_at
  platform_set flat = joined_below-one (length feed.stops) i (λ r. row_sets_at feed.stops r i) (slice_get_within feed.stops i s got) others ∙ here
    where
      here : row_sets_at feed.stops i i ≡ (record { 0 = i }) ∷ []
      here = let own : (i == i) ≡ true = grind (arith, nat_tests) in rw (got, flat, own, station_set-none i s got (λ e. omega arith)) refl

      others : (k : ℕ) → k < length feed.stops → (k ≡ i → ⊥) → row_sets_at feed.stops k i ≡ []
      others k lt apart = step (slice_get feed.stops k) refl
        where
          step : (o : Option StopRow) → slice_get feed.stops k ≡ o → option_map_or (λ row. row_sets row k i) o [] ≡ []
          step None there = refl
          step (Some t) there = ⊎_elim (λ (hit : (t.kind == 0) ≡ true). let other : (k == i) ≡ false = grind (arith, nat_tests, apart) in rw (hit, other, station_set-none k t there (λ e. omega arith)) refl) (λ (miss : (t.kind == 0) ≡ false). rw miss refl) (cases_Bool (t.kind == 0))

  -- a station's set is its platforms
  pub platforms_of_station : s.kind ≡ 1 → joined_below (length feed.stops) (λ r. row_sets_at feed.stops r i) ≡ ids_where (λ k. record { 0 = k }) (is_member (record { 0 = i })) feed.stops
  unfolding row_sets_at
  platforms_of_station one =
      joined_below-same (length feed.stops) (λ r. row_sets_at feed.stops r i) (λ r. one_where (at_and feed.stops r (is_member (record { 0 = i }))) (record { 0 = r })) (λ r lt. each r) ∙ joined_below-picks (length feed.stops) (λ r. at_and feed.stops r (is_member (record { 0 = i }))) (λ r. record { 0 = r })
    where
      each : (r : ℕ) → row_sets_at feed.stops r i ≡ one_where (at_and feed.stops r (is_member (record { 0 = i }))) (record { 0 = r })
      each r = step (slice_get feed.stops r) refl
        where
          step : (o : Option StopRow) → slice_get feed.stops r ≡ o → option_map_or (λ row. row_sets row r i) o [] ≡ one_where (filled_and o (is_member (record { 0 = i }))) (record { 0 = r })
          step None there = refl
          step (Some t) there = ⊎_elim (λ (hit : (t.kind == 0) ≡ true). rw (hit, own_set-none r t there hit (λ e. omega arith)) (by_parent t.parent)) (λ (miss : (t.kind == 0) ≡ false). rw miss refl) (cases_Bool (t.kind == 0))
            where
              by_parent : (parent : Option StopId) → [] ++ station_set parent r i ≡ one_where (true && filled_and parent (λ p. p.0 == i)) (record { 0 = r })
              by_parent None = refl
              by_parent (Some p) = refl

  -- no platform belongs to a stop of another kind
  pub set_of_other : 2 ≤ s.kind → joined_below (length feed.stops) (λ r. row_sets_at feed.stops r i) ≡ []
  unfolding row_sets_at
  set_of_other kind = joined_below-none (length feed.stops) (λ r. row_sets_at feed.stops r i) (λ r lt. each r)
    where
      each : (r : ℕ) → row_sets_at feed.stops r i ≡ []
      each r = step (slice_get feed.stops r) refl
        where
          step : (o : Option StopRow) → slice_get feed.stops r ≡ o → option_map_or (λ row. row_sets row r i) o [] ≡ []
          step None there = refl
          step (Some t) there = ⊎_elim (λ (hit : (t.kind == 0) ≡ true). rw (hit, own_set-none r t there hit (λ e. omega arith), station_set-none r t there (λ e. omega arith)) refl) (λ (miss : (t.kind == 0) ≡ false). rw miss refl) (cases_Bool (t.kind == 0))

-- the row that stands at a place
pub row_sets_at-here : (stops : List StopRow) (r i : ℕ) (row : StopRow) → r < length stops → row ≡ get_or stops r row → row_sets_at stops r i ≡ row_sets row r i
unfolding row_sets_at
row_sets_at-here stops r i row lt is = rw (slice_get_read stops (length stops) r row refl lt is) refl

-- what is gathered row by row is each stop's set
pub joined_below-set : (feed : FeedRows) → AreSoundStops feed → (i : ℕ) → i < length feed.stops → joined_below (length feed.stops) (λ r. row_sets_at feed.stops r i) ≡ stop_set feed (record { 0 = i })
unfolding stop_set
joined_below-set feed sound i lt = step (slice_get feed.stops i) refl
  where
    kinds : (s : StopRow) → slice_get feed.stops i ≡ Some s → (s.kind ≡ 0) ⊎ ((s.kind ≡ 1) ⊎ (2 ≤ s.kind)) → joined_below (length feed.stops) (λ r. row_sets_at feed.stops r i) ≡ (if s.kind == 0 then (record { 0 = i }) ∷ [] else if s.kind == 1 then ids_where (λ k. record { 0 = k }) (is_member (record { 0 = i })) feed.stops else [])
    kinds s got (inl flat) = let first : (s.kind == 0) ≡ true = grind (arith, nat_tests, flat) in rw first (platform_set feed sound i s got flat)
    kinds s got (inr (inl one)) =
        let first : (s.kind == 0) ≡ false = grind (arith, nat_tests, one) in
        let second : (s.kind == 1) ≡ true = grind (arith, nat_tests, one) in
        rw (first, second) (platforms_of_station feed sound i s got one)
    kinds s got (inr (inr more)) =
        let first : (s.kind == 0) ≡ false = grind (arith, nat_tests, more) in
        let second : (s.kind == 1) ≡ false = grind (arith, nat_tests, more) in
        rw (first, second) (set_of_other feed sound i s got more)

    split : (k : ℕ) → (k ≡ 0) ⊎ ((k ≡ 1) ⊎ (2 ≤ k))
    split zero = inl refl
    split (suc zero) = inr (inl refl)
    split (suc (suc k)) = inr (inr (omega arith))

    step : (o : Option StopRow) → slice_get feed.stops i ≡ o → joined_below (length feed.stops) (λ r. row_sets_at feed.stops r i) ≡ (if filled_and o (λ row. row.kind == 0) then (record { 0 = i }) ∷ [] else if filled_and o (λ row. row.kind == 1) then ids_where (λ k. record { 0 = k }) (is_member (record { 0 = i })) feed.stops else [])
    step None got = absurd (none-some _ (sym got ∙ slice_get-get_or feed.stops i (record { id = []; kind = 0; parent = None }) lt))
    step (Some s) got = kinds s got (split s.kind)

-- so the groups are the sets
pub stop_sets-from_members : (feed : FeedRows) (stops : List StopRow) (members : List (Grouped StopId)) (n : ℕ) → AreSoundStops feed → stops ≡ feed.stops → n ≡ length stops → ((i : ℕ) → group_of members i ≡ joined_below (length stops) (λ r. row_sets_at stops r i)) → groups_below n members ≡ stop_sets feed
unfolding groups_below stop_sets
stop_sets-from_members feed stops members n sound same long are =
    rw (long, same) (list_below-same (length feed.stops) (group_of members) (λ i. stop_set feed (record { 0 = i })) (λ i lt. gathered i ∙ joined_below-set feed sound i lt))
  where
    gathered : (i : ℕ) → group_of members i ≡ joined_below (length feed.stops) (λ r. row_sets_at feed.stops r i)
    gathered i = let e = are i in rw same at e

-- a number that is no stop's stands for no platform
pub stop_set-past : (feed : FeedRows) (stop : StopId) → length feed.stops ≤ stop.0 → stop_set feed stop ≡ []
unfolding stop_set
stop_set-past feed stop past = rw (slice_get_past feed.stops stop.0 past) refl

-- the set of a stop; none is there for a number that is no stop's
pub stop_sets-at : (feed : FeedRows) (stop : StopId) → unwrap_or (slice_get (stop_sets feed) stop.0) [] ≡ stop_set feed stop
unfolding stop_sets
stop_sets-at feed stop = ⊎_elim inside outside (cases_lt stop.0 (length feed.stops))
  where
    inside : stop.0 < length feed.stops → unwrap_or (slice_get (list_below (length feed.stops) (λ i. stop_set feed (record { 0 = i }))) stop.0) [] ≡ stop_set feed stop
    inside lt = rw (slice_get-list_below (length feed.stops) (λ i. stop_set feed (record { 0 = i })) stop.0 lt) refl

    outside : length feed.stops ≤ stop.0 → unwrap_or (slice_get (list_below (length feed.stops) (λ i. stop_set feed (record { 0 = i }))) stop.0) [] ≡ stop_set feed stop
    outside past =
        let long = length-list_below (length feed.stops) (λ i. stop_set feed (record { 0 = i })) in
        rw (slice_get_past (list_below (length feed.stops) (λ i. stop_set feed (record { 0 = i }))) stop.0 (omega arith)) (sym (stop_set-past feed stop past))

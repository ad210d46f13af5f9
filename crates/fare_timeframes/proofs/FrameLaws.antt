-- The rows of timeframe groups, and which of them hold.
use Rattle.std.proofs.Common.{◌≡◌, refl, sym, ◌∙◌, ap, ℕ, ◌<◌, ◌≤◌, ◌⊎◌, inl, inr, ⊎_elim, Bool, true, false, ◌&&◌, ◌==◌, List, [], length, get_or, take, map, filter, IsPermutation, ℤ, arith}
use Rattle.std.specs.Prelude.{nat_le, nat_lt}
use Rattle.std.specs.List.{list_any}
use Rattle.std.specs.List.Sorted.{IsNonDecreasingBy}
use Rattle.std.specs.Ordering.{nat_cmp}
use Rattle.std.specs.declared.cmp.Ordering.TheVariants.{Less}
use Rattle.std.proofs.lemmas.Bool.{cases_lt}
use Rattle.std.proofs.lemmas.Bool.Decides.{nat_tests}
use Rattle.std.proofs.lemmas.List.{length-take-le, get_or-take, get_or_default}
use Rattle.std.proofs.lemmas.List.Folds.{list_any_none}
use Rattle.std.proofs.lemmas.List.Sorted.{list_any-IsPermutation}
use Rattle.transit_base.specs.declared.numbers.AreaId.{AreaId}
use Rattle.transit_base.specs.declared.numbers.FrameId.{FrameId}
use Rattle.transit_base.specs.Moments.{civil_day, time_of_day}
use Rattle.feed_rows.specs.declared.rows.TimeframeRow.{TimeframeRow}
use Rattle.feed_rows.specs.FeedRows.{FeedRows}
use Rattle.feed_rows.specs.Legs.{is_within, holds_at}
use Rattle.feed_rows.specs.ServiceDays.{is_active}
use Rattle.feed_rows.specs.SoundFares.{AreSoundTimeframes}
use Rattle.item_groups.specs.declared.groups.Grouped.{Grouped}
use Rattle.plain_laws.specs.Plain.{IsPastLast}
use Rattle.item_groups.specs.Groups.{group_of, groups_below}
use Rattle.plain_laws.proofs.Laws.{list_any-map, list_any-filter, list_any_same}
use Rattle.item_groups.proofs.GroupLaws.{group_rises, groups_below-at, groups_below-past}
use Rattle.fare_areas.specs.AreaRows.{DoRise}
use Rattle.fare_timeframes.specs.declared.Timeframes.{Timeframes}
use Rattle.fare_timeframes.specs.BuiltTimeframes.{AreTimeframesOf}
use Rattle.fare_timeframes.specs.FrameRows.{by_frame, rows_at, lasts_on, AreByStart}

-- the rows in groups, from members that were sorted by start
pub grouped_by_start : (rows : List TimeframeRow) (sorted : List (Grouped TimeframeRow)) (groups : List (List TimeframeRow)) (n : ℕ)
    → IsPermutation (map by_frame rows) sorted → IsNonDecreasingBy (λ (m : Grouped TimeframeRow). m.item.start) sorted → groups ≡ groups_below n sorted → AreByStart rows n groups
grouped_by_start rows sorted groups n moved rises are =
    record {
      rises = λ frame. ⊎_elim
          (λ (lt : frame < n). rw (group frame lt) (group_rises (λ (row : TimeframeRow). row.start) sorted frame rises))
          (λ (past : n ≤ frame). rw (none frame past) (λ a b d le lt. absurd (omega arith)))
          (cases_lt frame n);
      has = λ frame lt test.
          ap (list_any test) (group frame lt)
          ∙ list_any-map test (λ (m : Grouped TimeframeRow). m.item) (filter (λ m. m.group == frame) sorted)
          ∙ list_any-filter (λ (m : Grouped TimeframeRow). test m.item) (λ m. m.group == frame) sorted
          ∙ sym (list_any-IsPermutation (λ (m : Grouped TimeframeRow). (m.group == frame) && test m.item) (map by_frame rows) sorted moved)
          ∙ list_any-map (λ (m : Grouped TimeframeRow). (m.group == frame) && test m.item) by_frame rows;
      none = none;
    }
  where
    group : (frame : ℕ) → frame < n → rows_at groups frame ≡ group_of sorted frame
    group frame lt = rw are (groups_below-at n sorted frame lt)

    none : (frame : ℕ) → n ≤ frame → rows_at groups frame ≡ []
    none frame past = rw are (groups_below-past n sorted frame past)

-- a group has what the rows of the feed with its number have
pub group_has : (feed : FeedRows) (rows : List TimeframeRow) (groups : List (List TimeframeRow)) (n : ℕ) → AreSoundTimeframes feed → rows ≡ feed.timeframes → n ≡ length feed.frame_names → AreByStart rows n groups
    → (frame : ℕ) (test : TimeframeRow → Bool) → list_any test (rows_at groups frame) ≡ list_any (λ row. (row.frame.0 == frame) && test row) feed.timeframes
group_has feed rows groups n sound same count are frame test = step (cases_lt frame n)
  where
    none : n ≤ frame → (k : ℕ) (d : TimeframeRow) → k < length feed.timeframes → ((get_or feed.timeframes k d).frame.0 == frame) && test (get_or feed.timeframes k d) ≡ false
    none past k d lt =
        let less = sound.frames k d lt in
        let other : ((get_or feed.timeframes k d).frame.0 == frame) ≡ false = grind (arith, nat_tests, less, past, count) in
        rw other refl

    step : (frame < n) ⊎ (n ≤ frame) → list_any test (rows_at groups frame) ≡ list_any (λ row. (row.frame.0 == frame) && test row) feed.timeframes
    step (inl lt) = are.has frame lt test ∙ ap (list_any (λ row. (row.frame.0 == frame) && test row)) same
    step (inr past) = rw (are.none frame past) (sym (list_any_none (λ row. (row.frame.0 == frame) && test row) feed.timeframes (none past)))

-- a group holds where one of those of its rows that start by the time lasts on
pub holds_from_rows : (feed : FeedRows) (timeframes : Timeframes) → AreTimeframesOf feed timeframes → (frame : FrameId) (moment : ℤ)
    → list_any (lasts_on feed (civil_day moment) (time_of_day moment)) (filter (λ row. nat_le row.start (time_of_day moment)) (rows_at timeframes.rows frame.0)) ≡ holds_at feed frame moment
unfolding holds_at
holds_from_rows feed timeframes are frame moment =
    list_any-filter (lasts_on feed day time) (λ row. nat_le row.start time) (rows_at timeframes.rows frame.0)
    ∙ are.has frame.0 (λ row. nat_le row.start time && lasts_on feed day time row)
    ∙ list_any_same (λ row. (row.frame.0 == frame.0) && (nat_le row.start time && lasts_on feed day time row)) (λ row. (row.frame.0 == frame.0) && is_within feed day time row) feed.timeframes
    (λ row. ap (λ b. (row.frame.0 == frame.0) && b) (turned (nat_le row.start time) (is_active feed row.service day) (nat_lt time row.end)))
  where
    day : ℤ
    day = civil_day moment

    time : ℕ
    time = time_of_day moment

    turned : (starts active lasts : Bool) → (starts && (active && lasts)) ≡ (active && starts && lasts)
    turned true true lasts = refl
    turned true false lasts = refl
    turned false true lasts = refl
    turned false false lasts = refl

-- the next area is greater than the last one before it
pub past_last : (areas : List AreaId) (i : ℕ) (d : AreaId) → DoRise areas → i < length areas → IsPastLast (λ a b. nat_cmp a.0 b.0) (take i areas) (get_or areas i d)
past_last areas i d rises lt k e is =
    let long = length-take-le i areas (omega arith) in
    let before = get_or-take i areas k e (omega arith) in
    let less = rises k i d (omega arith) lt in
    let one : nat_cmp (get_or areas k d).0 (get_or areas i d).0 ≡ Less = grind (arith, nat_tests, less) in
    rw (before, get_or_default areas k e d (omega arith)) one

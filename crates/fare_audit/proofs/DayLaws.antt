-- Days that are alike, and what holds at a moment of either.
use Rattle.std.proofs.Common.{◌≡◌, refl, sym, ◌∙◌, ap, subst, ℕ, ◌+◌, ◌-◌, ◌<◌, ◌≤◌, ◌⊎◌, ⊎_elim, Bool, true, false, ◌&&◌, ◌==◌, List, [], ◌∷◌, ◌++◌, length, All, Contains, ℤ, pos, ◌+ℤ◌, ◌≤ℤ◌, ◌<ℤ◌, arith}
use Rattle.std.specs.Prelude.{slice_get, unwrap_or, Some, unsigned_abs}
use Rattle.std.proofs.lemmas.Bool.{cases_lt, false≢true}
use Rattle.std.proofs.lemmas.Option.{same_Some, slice_get_within}
use Rattle.std.proofs.lemmas.List.{length_push}
use Rattle.std.proofs.lemmas.Int.{ints}
use Rattle.std.proofs.lemmas.List.Elements.{All-contains, All-push, Contains-append_left, Contains-push, Contains-push_cases}
use Rattle.transit_base.specs.Moments.{civil_day, moment_at, time_of_day}
use Rattle.transit_base.specs.declared.numbers.ServiceId.{ServiceId}
use Rattle.transit_base.specs.declared.moments.Moment.{Moment}
use Rattle.feed_rows.specs.declared.rows.TimeframeRow.{TimeframeRow}
use Rattle.feed_rows.specs.FeedRows.{FeedRows}
use Rattle.feed_rows.specs.Legs.{frames_at, holds_at, is_within}
use Rattle.feed_rows.specs.ServiceDays.{is_active}
use Rattle.feed_laws.proofs.MomentLaws.{civil_day-moment_at, time_of_day-moment_at}
use Rattle.fare_timeframes.proofs.CutLaws.{any_of_members}
use Rattle.plain_laws.proofs.Laws.{All-from, picks_below-same, slice_get-new_item, slice_get-old_item}
use Rattle.fare_audit.specs.declared.days.Reach.{Reach}
use Rattle.fare_audit.specs.declared.days.Reach.TheVariants.{OneDay, TwoDays, Longer}
use Rattle.fare_audit.specs.Days.{AreActiveDays, AreAlike, AreDaysBelow, AreDaysLike, AreKinds, ArePicked, HaveSameServices, IsWithin, days_at}

module _ (feed : FeedRows) where
  -- the service of the row is active on both days or on neither
  abbrev pub same_service : ℤ → ℤ → TimeframeRow → Type 0
  same_service a b row = is_active feed row.service a ≡ is_active feed row.service b

  pub same_itself : (a : ℤ) → HaveSameServices feed a a
  same_itself a = All-from (same_service a a) feed.timeframes (λ row at. itself (is_active feed row.service a))
    where
      itself : (b : Bool) → b ≡ b
      itself b = refl

  -- days with the services of a third have the same
  pub same_by_third : (a b m : ℤ) → HaveSameServices feed a m → HaveSameServices feed b m → HaveSameServices feed a b
  same_by_third a b m one other =
      All-from (same_service a b) feed.timeframes (λ row at.
      let x : is_active feed row.service a ≡ is_active feed row.service m = All-contains (same_service a m) feed.timeframes row one at in
      let y : is_active feed row.service b ≡ is_active feed row.service m = All-contains (same_service b m) feed.timeframes row other at in
      x ∙ sym y)

  pub alike_itself : (reach : Reach) (a : ℤ) → AreAlike feed reach a a
  alike_itself OneDay a = same_itself a
  alike_itself TwoDays a = (same_itself a, same_itself (a +ℤ pos 1))
  alike_itself Longer a = refl

  -- the same timeframe groups hold at a time of day of days with the same services
  frames_of_day : (a b : ℤ) (seconds : ℕ) → seconds < 86_400 → HaveSameServices feed a b →
      frames_at feed (record { 0 = moment_at a (pos seconds) }) ≡ frames_at feed (record { 0 = moment_at b (pos seconds) })
  unfolding holds_at
  frames_of_day a b seconds lt same = picks_below-same (length feed.frame_names) (held (record { 0 = moment_at a (pos seconds) })) (held (record { 0 = moment_at b (pos seconds) })) (λ i. record { 0 = i }) (λ i within.
      rw (civil_day-moment_at a seconds lt, time_of_day-moment_at a seconds lt, civil_day-moment_at b seconds lt, time_of_day-moment_at b seconds lt)
      (any_of_members (λ row. (row.frame.0 == i) && is_within feed a seconds row) (λ row. (row.frame.0 == i) && is_within feed b seconds row) feed.timeframes (λ row at. rw (All-contains (same_service a b) feed.timeframes row same at) refl)))
    where
      held : Moment → ℕ → Bool
      held at i = holds_at feed (record { 0 = i }) at.0

  -- a second of the next day is one day and so many seconds less
  next_day : (a : ℤ) (m n : ℕ) → m ≡ 86_400 + n → moment_at a (pos m) ≡ moment_at (a +ℤ pos 1) (pos n)
  next_day a m n e = omega (arith, ints, e)

  whole : (z : ℤ) → pos 0 ≤ℤ z → pos (unsigned_abs z) ≡ z
  whole z h = grind (arith, ints, h)

  of_number : (a b z : ℤ) (seconds : ℕ) → pos seconds ≡ z →
      frames_at feed (record { 0 = moment_at a (pos seconds) }) ≡ frames_at feed (record { 0 = moment_at b (pos seconds) }) →
      frames_at feed (record { 0 = moment_at a z }) ≡ frames_at feed (record { 0 = moment_at b z })
  of_number a b z seconds e same =
      let P : ℤ → Type 0 = λ y. frames_at feed (record { 0 = moment_at a y }) ≡ frames_at feed (record { 0 = moment_at b y }) in
      subst P e same

  lower : (z : ℤ) (n most : ℕ) → pos n ≡ z → z <ℤ pos most → n < most
  lower z n most e high = omega (arith, ints, e, high)

  below : (z : ℤ) (most : ℕ) → pos 0 ≤ℤ z → z <ℤ pos most → unsigned_abs z < most
  below z most low high = lower z (unsigned_abs z) most (whole z low) high

  -- the same timeframe groups hold at the moments of a run on days that are alike
  pub frames_alike : (reach : Reach) (a b z : ℤ) → AreAlike feed reach a b → IsWithin reach z →
      frames_at feed (record { 0 = moment_at a z }) ≡ frames_at feed (record { 0 = moment_at b z })
  frames_alike OneDay a b z same within =
      of_number a b z (unsigned_abs z) (whole z within.0) (frames_of_day a b (unsigned_abs z) (below z 86_400 within.0 within.1) same)
  frames_alike TwoDays a b z same within =
      let s = unsigned_abs z in
      let short = below z 172_800 within.0 within.1 in
      of_number a b z s (whole z within.0) (⊎_elim
      (λ (lt : s < 86_400). frames_of_day a b s lt same.0)
      (λ (past : 86_400 ≤ s).
      let e : s ≡ 86_400 + (s - 86_400) = omega (arith, past) in
      rw (next_day a s (s - 86_400) e, next_day b s (s - 86_400) e)
      (frames_of_day (a +ℤ pos 1) (b +ℤ pos 1) (s - 86_400) (omega (arith, short, past)) same.1))
      (cases_lt s 86_400))
  frames_alike Longer a b z same within = ap (λ (d : ℤ). frames_at feed (record { 0 = moment_at d z })) same

module _ (feed : FeedRows) (first : ℤ) where
  -- one day more is picked
  pub picked_more : (reach : Reach) (days picked : List ℕ) (day : ℕ) → ArePicked feed first reach days picked →
      ArePicked feed first reach (days ++ day ∷ []) (picked ++ day ∷ [])
  picked_more reach days picked day were =
      record {
        among = λ n at. ⊎_elim
            (λ (old : Contains picked n). Contains-append_left days _ n (were.among n old))
            (λ (new : day ≡ n). subst (Contains (days ++ day ∷ [])) new (Contains-push days day))
            (Contains-push_cases picked day n at);
        covers = λ n at. ⊎_elim
            (λ (old : Contains days n). let by = were.covers n old in (by.0, Contains-append_left picked _ by.0 by.1, by.2))
            (λ (new : day ≡ n). (day, Contains-push picked day, let P : ℕ → Type 0 = λ m. AreAlike feed reach (first +ℤ pos day) (first +ℤ pos m) in subst P new (alike_itself feed reach (first +ℤ pos day))))
            (Contains-push_cases days day n at);
      }

  -- one day more is alike to one that was picked
  pub picked_before : (reach : Reach) (days picked : List ℕ) (day : ℕ) → ArePicked feed first reach days picked →
      (k : ℕ) × Contains picked k × AreAlike feed reach (first +ℤ pos k) (first +ℤ pos day) → ArePicked feed first reach (days ++ day ∷ []) picked
  picked_before reach days picked day were like =
      record {
        among = λ n at. Contains-append_left days _ n (were.among n at);
        covers = λ n at. ⊎_elim
            (λ (old : Contains days n). were.covers n old)
            (λ (new : day ≡ n). let P : ℕ → Type 0 = λ m. (k : ℕ) × Contains picked k × AreAlike feed reach (first +ℤ pos k) (first +ℤ pos m) in subst P new like)
            (Contains-push_cases days day n at);
      }

  -- the day is one of so many, and the service is active on it
  abbrev is_day : ServiceId → ℕ → ℕ → Type 0
  is_day service count n = (n < count) × (is_active feed service (first +ℤ pos n) ≡ true)

  -- what is picked of the active days serves for them
  pub like_from_picked : (count : ℕ) (service : ServiceId) (reach : Reach) (days picked : List ℕ) →
      AreActiveDays feed first count service days → ArePicked feed first reach days picked → AreDaysLike feed first count service reach picked
  like_from_picked count service reach days picked active are =
      record {
        within = All-from (is_day service count) picked (λ n at. All-contains (is_day service count) days n active.within (are.among n at));
        covers = λ n lt on. are.covers n (active.has n lt on);
      }

  -- and so do they all
  pub like_from_all : (count : ℕ) (service : ServiceId) (days : List ℕ) → AreActiveDays feed first count service days →
      AreDaysLike feed first count service Longer days
  like_from_all count service days active =
      record {
        within = active.within;
        covers = λ n lt on. (n, active.has n lt on, refl);
      }

-- one service more
pub days_more : (feed : FeedRows) (first : ℤ) (count : ℕ) (reach : Reach) (n m : ℕ) (groups new : List (List ℕ)) (days : List ℕ) →
    AreDaysBelow feed first count reach n groups → length groups ≡ n → AreDaysLike feed first count (record { 0 = n }) reach days → new ≡ groups ++ days ∷ [] → m ≡ n + 1 →
    AreDaysBelow feed first count reach m new
days_more feed first count reach n m groups new days were many are e next = λ service lt. ⊎_elim
    (λ (old : service < n). subst (AreDaysLike feed first count (record { 0 = service }) reach)
    (ap (λ o. unwrap_or o []) (slice_get-old_item groups new days service e (omega (arith, many, old)))) (were service old))
    (λ (past : n ≤ service).
    let same : service ≡ n = omega (arith, lt, past, next) in
    let here : days ≡ days_at new service = sym (ap (days_at new) same ∙ ap (λ o. unwrap_or o []) (slice_get-new_item groups new days n many e)) in
    let P : ℕ → Type 0 = λ s. AreDaysLike feed first count (record { 0 = s }) reach days in
    subst (AreDaysLike feed first count (record { 0 = service }) reach) here (subst P (sym same) are))
    (cases_lt service n)

-- one day more has its kind
pub kinds_more : (feed : FeedRows) (first : ℤ) (kinds new : List ℕ) (n kind : ℕ) → AreKinds feed first kinds → length kinds ≡ n → new ≡ kinds ++ kind ∷ [] →
    HaveSameServices feed (first +ℤ pos n) (first +ℤ pos kind) → AreKinds feed first new
kinds_more feed first kinds new n kind were many e same = λ m k at. ⊎_elim
    (λ (old : m < n). were m k (slice_get-old_item kinds new kind m e (omega (arith, many, old)) ∙ at))
    (λ (past : n ≤ m).
    let within = slice_get_within new m k at in
    let long : length new ≡ length kinds + 1 = ap length e ∙ length_push kinds kind in
    let here : m ≡ n = omega (arith, past, within, long, many) in
    let is : kind ≡ k = same_Some _ _ (sym (slice_get-new_item kinds new kind n many e) ∙ sym (ap (slice_get new) here) ∙ at) in
    let P : ℕ → ℕ → Type 0 = λ a b. HaveSameServices feed (first +ℤ pos a) (first +ℤ pos b) in
    subst (P m) is (subst (λ a. P a kind) (sym here) same))
    (cases_lt m n)

-- the day is one of so many, and the service is active on it
abbrev is_day_of : FeedRows → ℤ → ServiceId → ℕ → ℕ → Type 0
is_day_of feed first service count m = (m < count) × (is_active feed service (first +ℤ pos m) ≡ true)

-- one day more on which the service is active
pub active_more : (feed : FeedRows) (first : ℤ) (service : ServiceId) (n : ℕ) (days : List ℕ) → AreActiveDays feed first n service days →
    is_active feed service (first +ℤ pos n) ≡ true → AreActiveDays feed first (n + 1) service (days ++ n ∷ [])
active_more feed first service n days were on =
    record {
      within = All-push (is_day_of feed first service (n + 1)) days n (All-from (is_day_of feed first service (n + 1)) days (λ m at. more m (All-contains (is_day_of feed first service n) days m were.within at))) (omega arith, on);
      has = λ m lt is. ⊎_elim
          (λ (old : m < n). Contains-append_left days _ m (were.has m old is))
          (λ (past : n ≤ m). let here : n ≡ m = omega (arith, lt, past) in subst (Contains (days ++ n ∷ [])) here (Contains-push days n))
          (cases_lt m n);
    }
  where
    more : (m : ℕ) → is_day_of feed first service n m → is_day_of feed first service (n + 1) m
    more m w = let lt = w.0 in (omega (arith, lt), w.1)

-- or isn't
pub active_less : (feed : FeedRows) (first : ℤ) (service : ServiceId) (n : ℕ) (days : List ℕ) → AreActiveDays feed first n service days →
    is_active feed service (first +ℤ pos n) ≡ false → AreActiveDays feed first (n + 1) service days
active_less feed first service n days were off =
    record {
      within = All-from (is_day_of feed first service (n + 1)) days (λ m at. more m (All-contains (is_day_of feed first service n) days m were.within at));
      has = λ m lt is. ⊎_elim
          (λ (old : m < n). were.has m old is)
          (λ (past : n ≤ m). let here : m ≡ n = omega (arith, lt, past) in absurd (false≢true (sym off ∙ ap (λ (k : ℕ). is_active feed service (first +ℤ pos k)) (sym here) ∙ is)))
          (cases_lt m n);
    }
  where
    more : (m : ℕ) → is_day_of feed first service n m → is_day_of feed first service (n + 1) m
    more m w = let lt = w.0 in (omega (arith, lt), w.1)

-- days of one kind have the same services
pub kinds_same : (feed : FeedRows) (first : ℤ) (kinds : List ℕ) (a b k : ℕ) → AreKinds feed first kinds → slice_get kinds a ≡ Some k → slice_get kinds b ≡ Some k →
    HaveSameServices feed (first +ℤ pos a) (first +ℤ pos b)
kinds_same feed first kinds a b k are at on = same_by_third feed _ _ _ (are a k at) (are b k on)

-- the next day is the same by either way of counting
pub alike_two : (feed : FeedRows) (first : ℤ) (a b : ℕ) → HaveSameServices feed (first +ℤ pos a) (first +ℤ pos b) →
    HaveSameServices feed (first +ℤ pos (a + 1)) (first +ℤ pos (b + 1)) → AreAlike feed TwoDays (first +ℤ pos a) (first +ℤ pos b)
alike_two feed first a b one two =
    let P : ℤ → ℤ → Type 0 = HaveSameServices feed in
    (one, subst (λ x. P x (first +ℤ pos b +ℤ pos 1)) (next first a) (subst (P (first +ℤ pos (a + 1))) (next first b) two))
  where
    next : (f : ℤ) (n : ℕ) → f +ℤ pos (n + 1) ≡ f +ℤ pos n +ℤ pos 1
    next f n = omega (arith, ints)

-- no days
pub active_none : (feed : FeedRows) (first : ℤ) (service : ServiceId) → AreActiveDays feed first 0 service []
active_none feed first service = record { within = λ k d lt. absurd (omega (arith, lt)); has = λ n lt on. absurd (omega (arith, lt)) }

pub picked_none : (feed : FeedRows) (first : ℤ) (reach : Reach) → ArePicked feed first reach [] []
picked_none feed first reach = record { among = λ n at. at; covers = λ n at. let none = at.1 in absurd (omega (arith, none)) }

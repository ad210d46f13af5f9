-- The rows of the calendar files, in groups and in order.
use Rattle.std.proofs.Common.{◌≡◌, refl, sym, ◌∙◌, ap, subst, ℕ, ◌<◌, ◌≤◌, ◌⊎◌, inl, inr, ⊎_elim, Bool, true, false, ◌==◌, ◌&&◌, not, List, length, get_or, map, filter, Some, ℤ, arith}
use Rattle.std.specs.Prelude.{Contains, slice_get}
use Rattle.std.specs.List.{list_any}
use Rattle.std.specs.List.Sorted.{IsPermutation}
use Rattle.std.specs.Cmp.{IsTotalOrder}
use Rattle.std.specs.Ordering.{nat_cmp, int_cmp, ordering_then}
use Rattle.std.specs.declared.cmp.Ordering.TheVariants.{Less, Equal, Greater}
use Rattle.std.proofs.lemmas.Bool.{cases_lt, and_parts, and_from}
use Rattle.std.proofs.lemmas.Bool.Decides.{nat_tests}
use Rattle.std.proofs.lemmas.Cmp.{nat_cmp_total, int_cmp_total, on_total, then_total}
use Rattle.std.proofs.lemmas.Int.{ints}
use Rattle.std.proofs.lemmas.Option.{same_Some, slice_get-get_or}
use Rattle.std.proofs.lemmas.List.Elements.{Contains-get_or}
use Rattle.std.proofs.lemmas.List.Folds.{list_any_none}
use Rattle.transit_base.specs.declared.numbers.ServiceId.{ServiceId}
use Rattle.feed_rows.specs.declared.rows.ServiceRow.{ServiceRow}
use Rattle.feed_rows.specs.declared.rows.ExceptionRow.{ExceptionRow}
use Rattle.item_groups.specs.declared.groups.Grouped.{Grouped}
use Rattle.feed_rows.specs.FeedRows.{FeedRows}
use Rattle.plain_laws.specs.Plain.{int_same}
use Rattle.item_groups.specs.Groups.{group_of, groups_below}
use Rattle.feed_rows.specs.ServiceDays.{covers, is_covered, is_added, is_removed, is_active}
use Rattle.feed_rows.specs.SoundTimetable.{AreSoundServices, AreSoundExceptions}
use Rattle.feed_laws.proofs.FeedReadings.{same_exception}
use Rattle.plain_laws.proofs.Laws.{list_any-map, list_any-filter, list_any_tells, int_same-true, any_passes, none_of_both}
use Rattle.item_groups.proofs.GroupLaws.{groups_below-at, groups_below-past}
use Rattle.feed_rows.specs.SoundFeed.{IsSoundFeed}
use Rattle.feed_calendar.specs.declared.Calendar.{Calendar}
use Rattle.feed_calendar.specs.BuiltCalendar.{IsCalendarOf}
use Rattle.feed_calendar.specs.CalendarRows.{by_service, rows_of_service, is_on, AreInOrder}

-- a test of some row of a group, where the rows are grouped by service
group_any : (rows : List ServiceRow) (i : ℕ) (test : ServiceRow → Bool) → list_any test (group_of (map by_service rows) i) ≡ list_any (λ row. (row.service.0 == i) && test row) rows
group_any rows i test =
    list_any-map test (λ (m : Grouped ServiceRow). m.item) (filter (λ m. m.group == i) (map by_service rows))
    ∙ list_any-filter (λ (m : Grouped ServiceRow). test m.item) (λ m. m.group == i) (map by_service rows)
    ∙ list_any-map (λ (m : Grouped ServiceRow). (m.group == i) && test m.item) by_service rows

-- the rows in groups tell whether a service is covered
pub covered_by_groups : (feed : FeedRows) (groups : List (List ServiceRow)) (rows : List ServiceRow) (n : ℕ) → AreSoundServices feed → rows ≡ feed.services → n ≡ length feed.service_names → groups ≡ groups_below n (map by_service rows)
    → (service : ServiceId) (day : ℤ) → list_any (λ row. covers row day) (rows_of_service groups service.0) ≡ is_covered feed service day
covered_by_groups feed groups rows n sound same count are service day = rw (are, same) (step (cases_lt service.0 n))
  where
    test : ServiceRow → Bool
    test row = covers row day

    none : n ≤ service.0 → (k : ℕ) (d : ServiceRow) → k < length feed.services → ((get_or feed.services k d).service.0 == service.0) && covers (get_or feed.services k d) day ≡ false
    none past k d lt =
        let less = sound.names k d lt in
        let other : ((get_or feed.services k d).service.0 == service.0) ≡ false = grind (arith, nat_tests, less, past, count) in
        rw other refl

    step : (service.0 < n) ⊎ (n ≤ service.0) → list_any (λ row. covers row day) (rows_of_service (groups_below n (map by_service feed.services)) service.0) ≡ is_covered feed service day
    step (inl lt) = rw (groups_below-at n (map by_service feed.services) service.0 lt) (group_any feed.services service.0 (λ row. covers row day))
    step (inr past) = rw (groups_below-past n (map by_service feed.services) service.0 past) (sym (list_any_none (λ row. (row.service.0 == service.0) && covers row day) feed.services (none past)))

-- where the key of an exception is that of a service and a day, and where it isn't
on_from_equal : (service : ServiceId) (day : ℤ) (row : ExceptionRow) → ordering_then (nat_cmp row.service.0 service.0) (int_cmp row.day.0 day) ≡ Equal → is_on service day row ≡ true
on_from_equal service day row e = grind (arith, nat_tests, ints, e)

off_from_less : (service : ServiceId) (day : ℤ) (row : ExceptionRow) → ordering_then (nat_cmp row.service.0 service.0) (int_cmp row.day.0 day) ≡ Less → is_on service day row ≡ false
off_from_less service day row e = grind (arith, nat_tests, ints, e)

off_from_greater : (service : ServiceId) (day : ℤ) (row : ExceptionRow) → ordering_then (nat_cmp row.service.0 service.0) (int_cmp row.day.0 day) ≡ Greater → is_on service day row ≡ false
off_from_greater service day row e = grind (arith, nat_tests, ints, e)

-- the order of the keys
pub key_order : IsTotalOrder (λ (x : ℕ × ℤ) y. ordering_then (nat_cmp x.0 y.0) (int_cmp x.1 y.1))
key_order = then_total (on_total (λ (x : ℕ × ℤ). x.0) nat_cmp_total) (on_total (λ (x : ℕ × ℤ). x.1) int_cmp_total)

-- an exception with this key is of the service, on the day
pub found_on : (service : ServiceId) (day : ℤ) (rows : List ExceptionRow) (place : ℕ) (d : ExceptionRow) → place < length rows
    → ((e : ExceptionRow) → ordering_then (nat_cmp (get_or rows place e).service.0 service.0) (int_cmp (get_or rows place e).day.0 day) ≡ Equal)
    → Contains rows (get_or rows place d) × (is_on service day (get_or rows place d) ≡ true)
found_on service day rows place d lt equal = (Contains-get_or rows place d lt, on_from_equal service day (get_or rows place d) (equal d))

-- no exception is of the service on the day, where those before a place have lesser keys, and the others greater ones
pub none_on : (service : ServiceId) (day : ℤ) (rows : List ExceptionRow) (place : ℕ)
    → ((k : ℕ) (d : ExceptionRow) → k < length rows → k < place → ordering_then (nat_cmp (get_or rows k d).service.0 service.0) (int_cmp (get_or rows k d).day.0 day) ≡ Less)
    → ((k : ℕ) (d : ExceptionRow) → place ≤ k → k < length rows → ordering_then (nat_cmp (get_or rows k d).service.0 service.0) (int_cmp (get_or rows k d).day.0 day) ≡ Greater)
    → list_any (is_on service day) rows ≡ false
none_on service day rows place before after = list_any_none (is_on service day) rows each
  where
    each : (k : ℕ) (d : ExceptionRow) → k < length rows → is_on service day (get_or rows k d) ≡ false
    each k d lt = ⊎_elim
        (λ (below : k < place). off_from_less service day (get_or rows k d) (before k d lt below))
        (λ (past : place ≤ k). off_from_greater service day (get_or rows k d) (after k d past lt))
        (cases_lt k place)

-- what it is to be of a service, on a day
on_tells : (service : ServiceId) (day : ℤ) (row : ExceptionRow) → is_on service day row ≡ true → (row.service.0 ≡ service.0) × (row.day.0 ≡ day)
on_tells service day row e = let parts = and_parts (row.service.0 == service.0) (int_same row.day.0 day) e in (grind (arith, nat_tests, parts.0), int_same-true row.day.0 day parts.1)

-- the place of an exception
place_of : (rows : List ExceptionRow) (row : ExceptionRow) (at : Contains rows row) → slice_get rows at.0 ≡ Some row
place_of rows row at = slice_get-get_or rows at.0 row at.1 ∙ ap Some at.2

-- two exceptions of a service on a day are one
one_exception : (feed : FeedRows) (service : ServiceId) (day : ℤ) (row other : ExceptionRow) → AreSoundExceptions feed → Contains feed.exceptions row → is_on service day row ≡ true → Contains feed.exceptions other → is_on service day other ≡ true → other ≡ row
one_exception feed service day row other sound at on at_other on_other =
    let one = on_tells service day row on in
    let two = on_tells service day other on_other in
    let place : at.0 ≡ at_other.0 = same_exception feed at.0 at_other.0 row other sound (place_of feed.exceptions row at) (place_of feed.exceptions other at_other) (one.0 ∙ sym two.0) (one.1 ∙ sym two.1) in
    same_Some other row (sym (place_of feed.exceptions other at_other) ∙ ap (slice_get feed.exceptions) (sym place) ∙ place_of feed.exceptions row at)

-- an exception of the service on the day tells whether it is active
pub active_by_exception : (feed : FeedRows) (service : ServiceId) (day : ℤ) (row : ExceptionRow) → AreSoundExceptions feed → Contains feed.exceptions row → is_on service day row ≡ true → row.added ≡ is_active feed service day
unfolding is_active
active_by_exception feed service day row sound at on = step row.added refl
  where
    added_true : row.added ≡ true → is_added feed service day ≡ true
    added_true e = any_passes (λ x. is_on service day x && x.added) feed.exceptions row at (and_from _ _ on e)

    removed_true : row.added ≡ false → is_removed feed service day ≡ true
    removed_true e = any_passes (λ x. is_on service day x && not x.added) feed.exceptions row at (and_from _ _ on (ap not e))

    added_false : row.added ≡ false → (b : Bool) → is_added feed service day ≡ b → b ≡ false
    added_false e false is = refl
    added_false e true is =
        let found = list_any_tells (λ (x : ExceptionRow). is_on service day x && x.added) feed.exceptions is in
        let parts = and_parts _ _ found.2 in
        let same = one_exception feed service day row found.0 sound at on found.1 parts.0 in
        sym parts.1 ∙ ap (λ (x : ExceptionRow). x.added) same ∙ e

    step : (b : Bool) → row.added ≡ b → row.added ≡ is_active feed service day
    step true e = e ∙ rw (added_true e) refl
    step false e = e ∙ rw (added_false e (is_added feed service day) refl, removed_true e) (last (is_covered feed service day))
      where
        last : (b : Bool) → false ≡ (b && false)
        last true = refl
        last false = refl

-- without one the calendar rows tell
pub active_by_rows : (feed : FeedRows) (service : ServiceId) (day : ℤ) → list_any (is_on service day) feed.exceptions ≡ false → is_covered feed service day ≡ is_active feed service day
unfolding is_active
active_by_rows feed service day none =
    let added : is_added feed service day ≡ false = none_of_both (is_on service day) (λ x. x.added) feed.exceptions none in
    let removed : is_removed feed service day ≡ false = none_of_both (is_on service day) (λ x. not x.added) feed.exceptions none in
    rw (added, removed) (last (is_covered feed service day))
  where
    last : (b : Bool) → b ≡ (b && true)
    last true = refl
    last false = refl

-- the calendar, from what each step of the building made
pub built : (feed inside : FeedRows) (names : List (List ℕ)) (services : List ServiceRow) (exceptions : List ExceptionRow) (calendar : Calendar) → inside ≡ feed → IsSoundFeed inside → names ≡ inside.service_names → services ≡ inside.services → exceptions ≡ inside.exceptions
    → calendar.rows ≡ groups_below (length names) (map by_service services) → IsPermutation exceptions calendar.exceptions.items → AreInOrder calendar.exceptions.items → IsCalendarOf feed calendar
built feed inside names services exceptions calendar view sound same_names same_services same_exceptions grouped moved sorted =
    subst (λ f. IsCalendarOf f calendar) view
    (record {
      rows = covered_by_groups inside calendar.rows services (length names) sound.services same_services (ap length same_names) grouped;
      exceptions = subst (λ rows. IsPermutation rows calendar.exceptions.items) same_exceptions moved;
      in_order = sorted;
      sound = sound.exceptions;
    })

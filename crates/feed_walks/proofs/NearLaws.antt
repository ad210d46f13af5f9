-- A walk leads to a platform of a stop that its own platform, or the station of that, leads to.
use Rattle.std.proofs.Common.{◌≡◌, refl, sym, ◌∙◌, ap, subst, ℕ, ◌<◌, ◌⊎◌, inl, inr, ⊎_elim, Bool, true, false, List, [], ◌∷◌, ◌++◌, length, get_or, Contains, Option, Some, None, ◌+◌, ◌-◌, ◌≤◌, arith}
use Rattle.std.specs.Prelude.{◌==◌, ◌&&◌, if◌then◌else◌, find, not, slice_get}
use Rattle.std.specs.Option.{ForSome, option_map_or, option_or}
use Rattle.std.proofs.lemmas.Bool.{cases_Bool, cases_lt}
use Rattle.std.proofs.lemmas.Bool.Decides.{nat_tests}
use Rattle.std.proofs.lemmas.List.{get_or_default}
use Rattle.std.proofs.lemmas.List.Elements.{Contains-append_left, Contains-append_right}
use Rattle.std.proofs.lemmas.Option.{get_or_from_slice_get, same_Some, none-some, slice_get-get_or, slice_get_within}
use mathlib.Core.Bool.{true≢false}
use Rattle.transit_base.specs.declared.numbers.StopId.{StopId}
use Rattle.feed_rows.specs.declared.rows.LinkRow.{LinkRow}
use Rattle.feed_rows.specs.Codes.{platform_type}
use Rattle.feed_rows.specs.FeedRows.{FeedRows}
use Rattle.feed_rows.specs.SoundTimetable.{AreSoundStops}
use Rattle.feed_rows.specs.StopLinks.{is_platform, parent_of, stop_set, row_between, governing_row, same_station, unruled_link, link_by, link}
use Rattle.feed_rows.specs.StopSets.{stop_sets, own_set, row_sets_at}
use Rattle.plain_laws.specs.Plain.{filled_and}
use Rattle.plain_laws.proofs.Laws.{filled_and-true, All-slice_get, Contains-cons_first, Contains-joined_below, none_either, find-tells}
use Rattle.feed_laws.proofs.StopSetLaws.{joined_below-set, stop_sets-at}
use Rattle.feed_walks.specs.Rules.{group_at, AreRules}
use Rattle.feed_walks.proofs.OrderLaws.{same_stop}
use Rattle.feed_walks.specs.Near.{IsInOrder, DoesNotLead, leads_to, Reaches, AreReached, AreNear}

pub platform_within : (feed : FeedRows) (a : StopId) → is_platform feed a ≡ true → a.0 < length feed.stops
platform_within feed a platform = let row = filled_and-true (slice_get feed.stops a.0) (λ s. s.kind == platform_type) platform in slice_get_within feed.stops a.0 row.value row.is

-- a platform stands for itself
in_own_set : (feed : FeedRows) (a : StopId) → is_platform feed a ≡ true → Contains (stop_set feed a) a
unfolding stop_set
in_own_set feed a platform = rw platform (Contains-cons_first a [])

-- and belongs to its station's set
record IsInStation (feed : FeedRows) (a station : StopId) : Type 0 where
  within : station.0 < length feed.stops
  member : Contains (stop_set feed station) a

in_station_set : (feed : FeedRows) (a station : StopId) → AreSoundStops feed → is_platform feed a ≡ true → parent_of feed a ≡ Some station → IsInStation feed a station
unfolding row_sets_at
in_station_set feed a station sound platform parent =
    let row = filled_and-true (slice_get feed.stops a.0) (λ s. s.kind == platform_type) platform in
    let there = row.is in
    let named : row.value.parent ≡ Some station = let p = parent in rw there at p in
    let within : station.0 < length feed.stops = All-slice_get (λ s. ForSome s.parent (λ p. p.0 < length feed.stops)) feed.stops a.0 row.value there sound.parents station named in
    let own : (station.0 == station.0) ≡ true = grind (arith, nat_tests) in
    record {
      within = within;
      member = subst (λ xs. Contains xs a) (joined_below-set feed sound station.0 within)
          (Contains-joined_below (length feed.stops) (λ r. row_sets_at feed.stops r station.0) a.0 a (platform_within feed a platform)
          (rw (there, row.passes, named, own) (Contains-append_right (own_set a.0 station.0) (a ∷ []) a (Contains-cons_first a []))));
    }

-- a walk has both ends at platforms
pub record IsWalk (feed : FeedRows) (a b : StopId) (seconds : ℕ) : Type 0 where
  pub from : is_platform feed a ≡ true
  pub to : is_platform feed b ≡ true
  pub by : link_by feed a b (governing_row feed a b) ≡ Some seconds

pub link-tells : (feed : FeedRows) (a b : StopId) (seconds : ℕ) → link feed a b ≡ Some seconds → IsWalk feed a b seconds
unfolding link
link-tells feed a b seconds e = step (is_platform feed a) refl (is_platform feed b) refl e
  where
    step : (p : Bool) → is_platform feed a ≡ p → (q : Bool) → is_platform feed b ≡ q → (if p && q then link_by feed a b (governing_row feed a b) else None) ≡ Some seconds → IsWalk feed a b seconds
    step true pa true pb by = record { from = pa; to = pb; by = by }
    step true pa false pb fails = absurd (none-some seconds fails)
    step false pa q pb fails = absurd (none-some seconds fails)

-- the platform, or its station
pub record IsHome (feed : FeedRows) (a home : StopId) : Type 0 where
  pub of : (home ≡ a) ⊎ (parent_of feed a ≡ Some home)
  pub within : home.0 < length feed.stops

own_home : (feed : FeedRows) (a home : StopId) → is_platform feed a ≡ true → Some a ≡ Some home → IsHome feed a home
own_home feed a home platform named =
    let same = same_Some a home named in
    record { of = inl (sym same); within = subst (λ (s : StopId). s.0 < length feed.stops) same (platform_within feed a platform) }

-- the platform is reached from the other, or from its station, through a stop that this leads to
pub record IsReached (feed : FeedRows) (a b : StopId) : Type 0 where
  pub home : StopId
  pub via : StopId
  pub of : IsHome feed a home
  pub leads : leads_to feed home via ≡ true
  pub member : Contains (stop_set feed via) b

module _ (feed : FeedRows) (a b : StopId) where
  -- by the row of a pair, or by none where the two are one
  by_row : (x y : Option StopId) (row : LinkRow) → ((home : StopId) → x ≡ Some home → IsHome feed a home) → ((via : StopId) → y ≡ Some via → Contains (stop_set feed via) b) → row.forbidden ≡ false → row_between feed x y ≡ Some row → IsReached feed a b
  by_row None y row homes vias allowed found = absurd (none-some row found)
  by_row (Some x) None row homes vias allowed found = absurd (none-some row found)
  by_row (Some x) (Some y) row homes vias allowed found = record { home = x; via = y; of = homes x refl; leads = rw (found, allowed) refl; member = vias y refl }

  by_none : (x y : Option StopId) → ((home : StopId) → x ≡ Some home → IsHome feed a home) → ((via : StopId) → y ≡ Some via → Contains (stop_set feed via) b) → row_between feed x y ≡ None → filled_and x (λ p. filled_and y (λ q. p.0 == q.0)) ≡ true → IsReached feed a b
  by_none None y homes vias none one = absurd (cc)
  by_none (Some x) None homes vias none one = absurd (cc)
  by_none (Some x) (Some y) homes vias none one = record { home = x; via = y; of = homes x refl; leads = rw none one; member = vias y refl }

-- what is found first is found in the one place or in the others
either : {X C : Type 0} (o p : Option X) (x : X) → option_or o p ≡ Some x → (o ≡ Some x → C) → (p ≡ Some x → C) → C
either None p x e here later = later e
either (Some y) p x e here later = here e

-- a walk reaches its platform
pub walk_reaches : (feed : FeedRows) (a b : StopId) (seconds : ℕ) → AreSoundStops feed → link feed a b ≡ Some seconds → IsReached feed a b
walk_reaches feed a b seconds sound linked = governed (governing_row feed a b) refl walk.by
  where
    walk : IsWalk feed a b seconds
    walk = link-tells feed a b seconds linked

    from_a : (home : StopId) → Some a ≡ Some home → IsHome feed a home
    from_a home named = own_home feed a home walk.from named

    from_station : (home : StopId) → parent_of feed a ≡ Some home → IsHome feed a home
    from_station home named = let its = in_station_set feed a home sound walk.from named in record { of = inr named; within = its.within }

    to_b : (via : StopId) → Some b ≡ Some via → Contains (stop_set feed via) b
    to_b via named = subst (λ s. Contains (stop_set feed s) b) (same_Some b via named) (in_own_set feed b walk.to)

    to_station : (via : StopId) → parent_of feed b ≡ Some via → Contains (stop_set feed via) b
    to_station via named = let its = in_station_set feed b via sound walk.to named in its.member

    ruled : (row : LinkRow) → row.forbidden ≡ false → governing_row feed a b ≡ Some row → IsReached feed a b
    ruled row allowed is =
        either (row_between feed (Some a) (Some b)) _ row is (by_row feed a b (Some a) (Some b) row from_a to_b allowed) (λ second.
        either (row_between feed (Some a) (parent_of feed b)) _ row second (by_row feed a b (Some a) (parent_of feed b) row from_a to_station allowed) (λ third.
        either (row_between feed (parent_of feed a) (Some b)) _ row third (by_row feed a b (parent_of feed a) (Some b) row from_station to_b allowed)
        (by_row feed a b (parent_of feed a) (parent_of feed b) row from_station to_station allowed)))

    unruled : governing_row feed a b ≡ None → unruled_link feed a b ≡ Some seconds → IsReached feed a b
    unruled none e =
        let first = none_either (row_between feed (Some a) (Some b)) _ none in
        let second = none_either (row_between feed (Some a) (parent_of feed b)) _ first.1 in
        let third = none_either (row_between feed (parent_of feed a) (Some b)) _ second.1 in
        ⊎_elim
        (λ (one : (a.0 == b.0) ≡ true). by_none feed a b (Some a) (Some b) from_a to_b first.0 one)
        (λ (other : (a.0 == b.0) ≡ false). ⊎_elim
        (λ (one : same_station feed a b ≡ true). by_none feed a b (parent_of feed a) (parent_of feed b) from_station to_station third.1 one)
        (λ (apart : same_station feed a b ≡ false). absurd (none-some seconds (rw (other, apart) at e)))
        (cases_Bool (same_station feed a b)))
        (cases_Bool (a.0 == b.0))

    governed : (o : Option LinkRow) → governing_row feed a b ≡ o → link_by feed a b o ≡ Some seconds → IsReached feed a b
    governed None is e = unruled is e
    governed (Some row) is e = ⊎_elim
        (λ (barred : row.forbidden ≡ true). absurd (none-some seconds (rw barred at e)))
        (λ (allowed : row.forbidden ≡ false). ruled row allowed is)
        (cases_Bool row.forbidden)

-- so the platforms that a platform and its station reach, in order, are those near it
pub near_reached : (feed : FeedRows) (reached : List (List StopId)) (a : StopId) (station : Option StopId) (found near : List StopId) → AreSoundStops feed → AreReached feed reached → parent_of feed a ≡ station → found ≡ group_at reached a.0 ++ option_map_or (λ s. group_at reached s.0) station [] → IsInOrder found near → AreNear feed a near
near_reached feed reached a station found near sound are parent is by =
    record {
      ascends = by.ascends;
      there = λ b seconds linked.
          let at = walk_reaches feed a b seconds sound linked in
          by.keeps b (rw is (of station parent at.home b at.of.of (are at.home.0 at.of.within at.via b at.leads at.member)));
    }
  where
    of : (o : Option StopId) → parent_of feed a ≡ o → (home b : StopId) → (home ≡ a) ⊎ (parent_of feed a ≡ Some home) → Contains (group_at reached home.0) b → Contains (group_at reached a.0 ++ option_map_or (λ s. group_at reached s.0) o []) b
    of o e home b (inl own) at = Contains-append_left (group_at reached a.0) (option_map_or (λ s. group_at reached s.0) o []) b (subst (λ (s : StopId). Contains (group_at reached s.0) b) own at)
    of None e home b (inr its) at = absurd (none-some home (sym e ∙ its))
    of (Some s) e home b (inr its) at = Contains-append_right (group_at reached a.0) (group_at reached s.0) b (subst (λ (s : StopId). Contains (group_at reached s.0) b) (same_Some home s (sym its ∙ e)) at)

-- there are none near a stop that is no platform
pub near_none : (feed : FeedRows) (a : StopId) → is_platform feed a ≡ false → AreNear feed a []
near_none feed a fails =
    record {
      ascends = λ i j d lt within. absurd (omega arith);
      there = λ b seconds linked. let walk = link-tells feed a b seconds linked in let gone = sym fails ∙ walk.from in absurd (cc);
    }

-- a row where there is none
abbrev no_link : LinkRow
no_link = record { from = record { 0 = 0 }; to = record { 0 = 0 }; forbidden = false; seconds = 0 }

cases_not : (b : Bool) → not b ≡ true → b ≡ false
cases_not true passes = absurd (cc)
cases_not false passes = refl

-- the platforms of the stop that the row at a place leads to
abbrev pub set_of : List (List StopId) → List LinkRow → ℕ → List StopId
set_of sets rows k = group_at sets (get_or rows k no_link).to.0

-- of the first rows, each that leads to a stop has the platforms of that among those that are reached
abbrev pub AreTaken : List (List StopId) → List LinkRow → ℕ → List StopId → Type 0
AreTaken sets rows n reached =
    (k : ℕ) (to : StopId) → k < n → (DoesNotLead rows k → ⊥) → Contains (set_of sets rows k) to → Contains reached to

pub taken_more : (sets : List (List StopId)) (rows : List LinkRow) (n : ℕ) (d : LinkRow) (old new : List StopId) →
    n < length rows → AreTaken sets rows n old → new ≡ old ++ group_at sets (get_or rows n d).to.0 →
    AreTaken sets rows (n + 1) new
taken_more sets rows n d old new inside before grown k to lt leads at = ⊎_elim
    (λ (earlier : k < n). rw is (Contains-append_left old (set_of sets rows n) to (before k to earlier leads at)))
    (λ (past : n ≤ k). let here : k ≡ n = omega arith in
    rw is (Contains-append_right old (set_of sets rows n) to (subst (λ i. Contains (set_of sets rows i) to) here at)))
    (cases_lt k n)
  where
    is : new ≡ old ++ set_of sets rows n
    is = grown ∙ ap (λ (r : LinkRow). old ++ group_at sets r.to.0) (get_or_default rows n d no_link inside)

pub taken_past : (sets : List (List StopId)) (rows : List LinkRow) (n : ℕ) (old : List StopId) → AreTaken sets rows n old →
    DoesNotLead rows n → AreTaken sets rows (n + 1) old
taken_past sets rows n old before not_led k to lt leads at = ⊎_elim
    (λ (earlier : k < n). before k to earlier leads at)
    (λ (past : n ≤ k). let here : k ≡ n = omega arith in
    absurd (leads (subst (DoesNotLead rows) (sym here) not_led)))
    (cases_lt k n)

pub taken_kept : (sets : List (List StopId)) (rows : List LinkRow) (n : ℕ) (old more new : List StopId) →
    AreTaken sets rows n old → new ≡ old ++ more → AreTaken sets rows n new
taken_kept sets rows n old more new before is k to lt leads at =
    rw is (Contains-append_left old more to (before k to lt leads at))

-- so the platforms of all that a stop leads to are reached, by its rows that lead, and those of itself where no row says
-- otherwise
group_reach : (feed : FeedRows) (rules : List (List LinkRow)) (sets : List (List StopId)) (from : StopId)
    (reached : List StopId) (n : ℕ) → AreRules feed.links rules → sets ≡ stop_sets feed → length (group_at rules from.0) ≤ n →
    AreTaken sets (group_at rules from.0) n reached →
    (find (λ row. row.to.0 == from.0) (group_at rules from.0) ≡ None → (to : StopId) → Contains (group_at sets from.0) to → Contains reached to) →
    Reaches feed from reached
group_reach feed rules sets from reached n are made all taken own via to led member =
    step (row_between feed (Some from) (Some via)) refl led
  where
    rows : List LinkRow
    rows = group_at rules from.0

    there : Contains (group_at sets via.0) to
    there = rw (made, stop_sets-at feed via) member

    step : (o : Option LinkRow) → row_between feed (Some from) (Some via) ≡ o →
        option_map_or (λ row. not row.forbidden) o (from.0 == via.0) ≡ true → Contains reached to
    step None none one =
        let is = same_stop from via one in
        own (are.first from.0 from.0 ∙ subst (λ s. row_between feed (Some from) (Some s) ≡ None) (sym is) none) to
        (subst (λ (s : StopId). Contains (group_at sets s.0) to) (sym is) there)
    step (Some row) found allowed =
        let is = find-tells (λ (r : LinkRow). r.to.0 == via.0) rows row (are.first from.0 via.0 ∙ found) in
        let inside = slice_get_within rows is.at row is.got in
        let here = get_or_from_slice_get rows is.at row no_link is.got in
        let target = same_stop row.to via is.passes in
        taken is.at to (omega (arith, inside, all))
        (λ not_led. governs is.at inside row is.got allowed is.passes is.earlier not_led)
        (rw (here, target) there)
      where
        governs : (at : ℕ) → at < length rows → (r : LinkRow) → slice_get rows at ≡ Some r → not r.forbidden ≡ true →
            (r.to.0 == via.0) ≡ true →
            ((k : ℕ) (y : LinkRow) → k < at → slice_get rows k ≡ Some y → (y.to.0 == via.0) ≡ false) → DoesNotLead rows at → ⊥
        governs at inside r got free passes earlier not_led =
            let here = get_or_from_slice_get rows at r no_link got in
            let allowed : (get_or rows at no_link).forbidden ≡ false = rw here (cases_not r.forbidden free) in
            let later = not_led.first no_link allowed in
            let again = not_led.again no_link allowed in
            let before = slice_get-get_or rows (at - 1) no_link (omega (arith, inside)) in
            let other = earlier (at - 1) (get_or rows (at - 1) no_link) (omega (arith, later)) before in
            let same = rw here at again in
            let miss = rw same at other in
            absurd (true≢false (sym passes ∙ miss))

pub taken_reach : (feed : FeedRows) (rules : List (List LinkRow)) (sets : List (List StopId)) (from : StopId)
    (rows : List LinkRow) (reached : List StopId) (n : ℕ) → AreRules feed.links rules → sets ≡ stop_sets feed →
    rows ≡ group_at rules from.0 → length rows ≤ n → AreTaken sets rows n reached →
    (find (λ row. row.to.0 == from.0) rows ≡ None → (to : StopId) → Contains (group_at sets from.0) to → Contains reached to) →
    Reaches feed from reached
taken_reach feed rules sets from rows reached n are made is all taken own =
    group_reach feed rules sets from reached n are made (subst (λ rs. length rs ≤ n) is all)
    (subst (λ rs. AreTaken sets rs n reached) is taken)
    (λ none. own (ap (find (λ row. row.to.0 == from.0)) is ∙ none))

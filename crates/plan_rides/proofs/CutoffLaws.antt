-- What is early enough by a cutoff.
use Rattle.std.proofs.Common.{◌≡◌, refl, sym, ◌∙◌, ap, subst, ℕ, ◌<◌, ◌≤◌, ⊎_elim, true, false, List, length, get_or, arith, ℤ, pos, ◌+ℤ◌, ◌-ℤ◌, ◌≤ℤ◌, ◌<ℤ◌}
use Rattle.std.specs.Prelude.{Option, Some, None, slice_get, unwrap_or, map, int_le}
use Rattle.std.specs.List.{AllWithin}
use Rattle.std.specs.List.Sorted.{IsPartitionedBy}
use Rattle.std.proofs.lemmas.Int.{ints}
use Rattle.std.proofs.lemmas.Bool.{cases_lt}
use Rattle.std.proofs.lemmas.List.{get_or-map, length-map}
use Rattle.std.proofs.lemmas.Option.{slice_get_past, slice_get-get_or}
use Rattle.transit_base.specs.declared.moments.Secs.{Secs}
use Rattle.transit_base.specs.declared.numbers.StopId.{StopId}
use Rattle.feed_rows.specs.declared.journeys.Query.{Query}
use Rattle.feed_rows.specs.declared.journeys.Ride.{Ride}
use Rattle.feed_rows.specs.FeedRows.{FeedRows}
use Rattle.feed_rows.specs.JourneyStands.{Stand}
use Rattle.plain_laws.proofs.Laws.{int_le-true, le-int_le}
use Rattle.plan_patterns.specs.declared.pattern.Boarding.{Boarding}
use Rattle.plan_patterns.specs.declared.runs.Run.{Run}
use Rattle.plan_patterns.specs.Columns.{AreInOrder}
use Rattle.plan_rides.specs.declared.departures.Departure.{Departure}
use Rattle.plan_rides.specs.Cutoffs.{AreLastDepartures, CutoffOf, cutoff_by, is_early, is_enough, is_span, is_span_any}
use Rattle.plan_rides.specs.Departures.{departure_at, IsFirstLate}
use Rattle.plan_rides.specs.InTime.{deadline, IsWithinWindow}
use Rattle.plan_rides.proofs.CaughtLaws.{IsCaughtRide}
use Rattle.plan_rides.proofs.DepartureLaws.{no_boarding}

-- what is no later than what is no later
pub onward : (x y z : ℤ) → x ≤ℤ y → y ≤ℤ z → x ≤ℤ z
onward x y z p q = omega (arith, ints)

-- ---- spans

-- where so many seconds are enough, more are
pub span_more : (span : Option Secs) (a b : ℤ) → a ≤ℤ b → is_span span a ≡ true → is_span span b ≡ true
unfolding is_span
span_more (Some span) a b le is = le-int_le (pos span.0) b (onward (pos span.0) a b (int_le-true (pos span.0) a is) le)
span_more None a b le is = absurd (let no : false ≡ true = is in cc)

-- no number is enough where there is none
pub no_span : (span : Option Secs) (secs : ℤ) → span ≡ None → is_span span secs ≡ false
unfolding is_span
no_span span secs none = ap (λ o. is_span o secs) none

-- the span from a moment on ends by a later one where so many seconds are enough until then
pub ends_in_time : (span : Option Secs) (s : Secs) (at until end : ℤ) → span ≡ Some s → end ≡ at +ℤ pos s.0 →
    int_le end until ≡ is_span span (until -ℤ at)
unfolding is_span
ends_in_time span s at until end is ends =
    same_test s.0 at until end ends ∙ sym (ap (λ o. is_span o (until -ℤ at)) is)
  where
    same_test : (n : ℕ) (a u z : ℤ) → z ≡ a +ℤ pos n → int_le z u ≡ int_le (pos n) (u -ℤ a)
    same_test n a u z e = grind (arith, ints)

-- it doesn't where it ends later
pub ends_past : (span : Option Secs) (s : Secs) (at until : ℤ) → span ≡ Some s → until <ℤ (at +ℤ pos s.0) →
    is_span span (until -ℤ at) ≡ false
unfolding is_span
ends_past span s at until is late = ap (λ o. is_span o (until -ℤ at)) is ∙ fails s.0 at until late
  where
    fails : (n : ℕ) (a u : ℤ) → u <ℤ (a +ℤ pos n) → int_le (pos n) (u -ℤ a) ≡ false
    fails n a u lt = grind (arith, ints)

pub enough_more : (spans : List (Option Secs)) (stop : ℕ) (a b : ℤ) → a ≤ℤ b → is_enough spans stop a ≡ true →
    is_enough spans stop b ≡ true
unfolding is_span_any
enough_more spans stop a b le is = more (slice_get spans stop) is
  where
    more : (o : Option (Option Secs)) → is_span_any o a ≡ true → is_span_any o b ≡ true
    more None is = refl
    more (Some span) is = span_more span a b le is

-- at a stop of the list they are enough where its span is at most these
pub enough_at : (spans : List (Option Secs)) (stop : ℕ) (secs : ℤ) → stop < length spans →
    is_enough spans stop secs ≡ is_span (unwrap_or (slice_get spans stop) None) secs
unfolding is_span_any
enough_at spans stop secs lt =
    ap (λ o. is_span_any o secs) (slice_get-get_or spans stop None lt)
    ∙ sym (ap (λ o. is_span (unwrap_or o None) secs) (slice_get-get_or spans stop None lt))

-- past the last stop any number is
pub enough_past : (spans : List (Option Secs)) (stop : ℕ) (secs : ℤ) → length spans ≤ stop →
    is_enough spans stop secs ≡ true
unfolding is_span_any
enough_past spans stop secs past = ap (λ o. is_span_any o secs) (slice_get_past spans stop past)

-- fewer than none are never enough at a stop of the list
pub enough_some : (spans : List (Option Secs)) (stop : ℕ) (secs : ℤ) → stop < length spans →
    is_enough spans stop secs ≡ true →
    pos 0 ≤ℤ secs
unfolding is_span
enough_some spans stop secs lt is = some (unwrap_or (slice_get spans stop) None) (sym (enough_at spans stop secs lt)
    ∙ is)
  where
    some : (span : Option Secs) → is_span span secs ≡ true → pos 0 ≤ℤ secs
    some (Some span) is = let le = int_le-true (pos span.0) secs is in omega (arith, ints, le)
    some None is = absurd (let no : false ≡ true = is in cc)

-- ---- what is early enough

-- whoever is earlier is early enough too
pub earlier_early : (cutoff : CutoffOf) (stop : ℕ) (x y : ℤ) → x ≤ℤ y → is_early cutoff stop y ≡ true →
    is_early cutoff stop x ≡ true
earlier_early cutoff stop x y le is = enough_more cutoff.spans stop (cutoff.until -ℤ y) (cutoff.until -ℤ x)
    (omega (arith, ints)) is

-- and so is who may be later
pub later_early : (spans : List (Option Secs)) (stop : ℕ) (at a b : ℤ) → a ≤ℤ b →
    is_early (cutoff_by spans a) stop at ≡ true →
    is_early (cutoff_by spans b) stop at ≡ true
later_early spans stop at a b le is = enough_more spans stop (a -ℤ at) (b -ℤ at) (omega (arith, ints)) is

-- any moment is early enough where no list says
pub early_any : (cutoff : CutoffOf) (stop : ℕ) (at : ℤ) → length cutoff.spans ≡ 0 → is_early cutoff stop at ≡ true
early_any cutoff stop at none = enough_past cutoff.spans stop (cutoff.until -ℤ at) (omega (arith, none))

-- and no ride is too late then
pub any_last : (feed : FeedRows) (query : Query) (latest lasts : CutoffOf) → length lasts.spans ≡ 0 →
    AreLastDepartures feed query latest lasts
any_last feed query latest lasts none ride facts is since until early = early_any lasts facts.from.0
    facts.departure.0 none

-- since when a ride that is caught departs, until when it arrives, and that it gets there early enough
pub caught_parts : (feed : FeedRows) (query : Query) (latest : CutoffOf) (stand : Stand) (ride : Ride) (next : Stand) →
    IsWithinWindow query stand.at → is_early latest next.stop.0 next.at ≡ true →
    (c : IsCaughtRide feed query stand ride next) →
    (query.departure.0 ≤ℤ c.facts.departure.0) × (c.facts.arrival.0 ≤ℤ deadline query)
    × (is_early latest c.facts.to.0 c.facts.arrival.0 ≡ true)
caught_parts feed query latest stand ride next within early c = (
  behind_way query.departure.0 stand.at c.facts.departure.0 c.way within.since c.catches,
  subst (λ (s : Stand). s.at ≤ℤ deadline query) (sym c.ends) c.in_time,
  subst (λ (s : Stand). is_early latest s.stop.0 s.at ≡ true) (sym c.ends) early,
)
  where
    behind_way : (from at departs : ℤ) (way : ℕ) → from ≤ℤ at → (at +ℤ pos way) ≤ℤ departs → from ≤ℤ departs
    behind_way from at departs way a b = omega (arith, ints)

-- ---- departures that are too late

-- what stands in the order of its moments is parted by what is early enough
pub parted_early : (listed : List Boarding) (lasts : CutoffOf) (stop : ℕ) → AreInOrder listed →
    IsPartitionedBy (λ (b : Boarding). is_early lasts stop b.at.0) listed
parted_early listed lasts stop rises i j d le lt after = ⊎_elim
    (λ (earlier : i < j). earlier_early lasts stop (get_or listed i d).at.0 (get_or listed j d).at.0
    (rises i j d earlier lt) after)
    (λ (later : j ≤ i). let same : j ≡ i = omega (arith, le, later) in subst
    (λ k. is_early lasts stop (get_or listed k d).at.0 ≡ true) same after)
    (cases_lt i j)

-- where boardings from one on are too late, the departures by them are
pub late_boardings : (feed : FeedRows) (at : StopId) (position : ℕ) (runs : List Run) (listed : List Boarding)
    (lasts : CutoffOf) (stop n : ℕ) → n ≤ length listed →
    AllWithin (λ (b : Boarding). is_early lasts stop b.at.0 ≡ false) listed n (length listed) →
    IsFirstLate (map (departure_at feed at position runs) listed) lasts stop n
late_boardings feed at position runs listed lasts stop n within late =
    let make = departure_at feed at position runs in
    let long = length-map listed make in
    record {
      within = subst (λ m. n ≤ m) (sym long) within;
      late = λ k d low lt.
          let below = subst (λ m. k < m) long lt in
          subst (λ (x : Departure). is_early lasts stop x.at.0 ≡ false)
          (sym (get_or-map make listed k no_boarding d below))
          (late k no_boarding low below);
    }

-- How a search goes on, and what it has when it is through.
use Rattle.std.proofs.Common.{◌≡◌, refl, sym, ◌∙◌, ap, subst, ℕ, ◌+◌, ◌-◌, ◌<◌, ◌≤◌, ◌⊎◌, inl, inr, ⊎_elim, true, List, [], ◌∷◌, ◌++◌, length, get_or, append_assoc, arith, ℤ, pos, ◌+ℤ◌, ◌≤ℤ◌}
use Rattle.std.specs.Prelude.{Option, Some, None, slice_get, option_map, All, Contains, IsTrue, int_le}
use Rattle.std.proofs.lemmas.Int.{ints}
use Rattle.std.proofs.lemmas.Bool.{cases_lt}
use Rattle.std.proofs.lemmas.Bool.Decides.{nat_tests}
use Rattle.std.proofs.lemmas.Option.{same_Some, none-some, slice_get-get_or, cond_some}
use Rattle.std.proofs.lemmas.List.{get_or_default, append-nil}
use Rattle.std.proofs.lemmas.List.Elements.{All-weaker, All-nil, All-contains}
use Rattle.transit_base.specs.Limits.{most_time}
use Rattle.feed_rows.specs.declared.journeys.Buyer.{Buyer}
use Rattle.feed_rows.specs.declared.fares.Triple.{Triple}
use Rattle.feed_rows.specs.Legs.{leg_facts, legs_of}
use Rattle.feed_rows.specs.PriceTexts.{IsLeastPrice, IsUncovered}
use Rattle.transit_base.specs.declared.moments.Moment.{Moment}
use Rattle.transit_base.specs.declared.numbers.StopId.{StopId}
use Rattle.feed_rows.specs.declared.journeys.Query.{Query}
use Rattle.feed_rows.specs.declared.journeys.LegFacts.{LegFacts}
use Rattle.feed_rows.specs.declared.journeys.Ride.{Ride}
use Rattle.feed_rows.specs.declared.fares.Entry.{Entry}
use Rattle.feed_rows.specs.FeedRows.{FeedRows}
use Rattle.feed_rows.specs.SoundFeed.{IsSoundFeed}
use Rattle.feed_rows.specs.JourneyEntries.{rides_price, IsEntry, IsExactAnswer, CoversOffers}
use Rattle.feed_rows.specs.Journeys.{stands_for}
use Rattle.feed_rows.specs.JourneyStands.{Stand, first_stand, stand_at_end, next_stand, way_to, way_out, end_arrival}
use Rattle.feed_rows.specs.ParetoTriples.{at_most, is_before}
use Rattle.feed_rows.specs.StopLinks.{stop_set}
use Rattle.plain_laws.specs.Plain.{after}
use Rattle.feed_laws.proofs.ExactLaws.{exact_of_front, covers_offers}
use Rattle.fare_price.specs.declared.Priced.{Priced}
use Rattle.fare_automaton.specs.Terms.{terms}
use Rattle.fare_price.specs.Prices.{IsLeastOrNone}
use Rattle.feed_laws.proofs.ChoiceLaws.{legs_of-push}
use Rattle.feed_laws.proofs.JourneyLaws.{taken_of_next, journey_of_after, after_of_journey}
use Rattle.feed_laws.proofs.LeastPriceLaws.{least_price_of_rides, uncovered_rides}
use Rattle.feed_laws.proofs.ParetoLaws.{at_most-trans}
use Rattle.feed_laws.proofs.RideLaws.{ride_facts_timed}
use Rattle.feed_laws.proofs.SoundTrips.{sound_trip}
use Rattle.plain_laws.proofs.AddsLaws.{adds_more, adds_none, adds_same}
use Rattle.plain_laws.proofs.Laws.{chain_gives, after-push, collect_below_tells, filled_and-true}
use Rattle.pareto_front.specs.Fronts.{CoversAll, IsFront}
use Rattle.plan_rides.specs.declared.caught.CaughtRide.{CaughtRide}
use Rattle.plan_rides.specs.InTime.{next_in_time, if_in_time, deadline, IsRight, IsWithinWindow, HasCaught}
use Rattle.plan_plain.specs.Paths.{Taken, no_ride, with_ride}
use Rattle.plan_rides.specs.InTime.{arrival_in_time}
use Rattle.plan_rides.specs.Boarding.{IsAmong, MayRide}
use Rattle.plan_rides.proofs.ArrivalLaws.{arrives_in_time}
use Rattle.plan_rides.proofs.MarkLaws.{stands_for_member, member_of_stands_for, among_more}
use Rattle.plan_plain.specs.declared.search.End.{End}
use Rattle.plan_plain.specs.Searches.{covers_entry, AddsEnd, HasRides, IsBest, IsCheapest, IsEarliest, IsEarliestEnd, IsEndIn, GoesOn, Gains, StartsAt, IsSearched, StartsAmong, CoversWays}

-- one step in time is a step
pub step_of_timed : (feed : FeedRows) (query : Query) (s : Stand) (r : Ride) (m : Stand) → next_in_time feed query s r ≡ Some m → next_stand feed query s r ≡ Some m
unfolding next_in_time
step_of_timed feed query s r m e =
    let timed = chain_gives (if_in_time query) (next_stand feed query s r) m e in
    let late = cond_some (int_le timed.value.at (deadline query)) timed.value m timed.gives in
    timed.is ∙ ap Some late.1

-- steps in time are steps
pub after_of_timed : (feed : FeedRows) (query : Query) (s : Stand) (rs : List Ride) (q : Stand) → after (next_in_time feed query) s rs ≡ Some q → after (next_stand feed query) s rs ≡ Some q
after_of_timed feed query s [] q e = e
after_of_timed feed query s (r ∷ rs) q e =
    let first = chain_gives (λ m. after (next_in_time feed query) m rs) (next_in_time feed query s r) q e in
    let step = step_of_timed feed query s r first.value first.is in
    let rest = after_of_timed feed query first.value rs q first.gives in
    rw step rest

-- time doesn't run back along a ride
pub step_later : (feed : FeedRows) (query : Query) (s : Stand) (r : Ride) (m : Stand) → IsSoundFeed feed → next_stand feed query s r ≡ Some m → s.at ≤ℤ m.at
step_later feed query s r m sound e =
    let t = taken_of_next feed query s r m e in
    let timed = ride_facts_timed feed r t.facts most_time (sound_trip feed r.trip sound) t.is in
    let way = filled_and-true (way_to feed query s t.facts.from) (λ (w : ℕ). int_le (s.at +ℤ pos w) t.facts.departure.0) t.caught in
    subst (λ (q : Stand). s.at ≤ℤ q.at) t.stands (onward s.at t.facts.departure.0 t.facts.arrival.0 way.value (from_test _ _ way.passes) timed.forward)
  where
    from_test : (x y : ℤ) → int_le x y ≡ true → x ≤ℤ y
    from_test x y h = grind (arith, ints)

    onward : (at departs arrives : ℤ) (way : ℕ) → (at +ℤ pos way) ≤ℤ departs → departs ≤ℤ arrives → at ≤ℤ arrives
    onward at departs arrives way a b = omega (arith, ints)

-- nor along rides
pub after_later : (feed : FeedRows) (query : Query) (s : Stand) (rs : List Ride) (q : Stand) → IsSoundFeed feed → after (next_stand feed query) s rs ≡ Some q → s.at ≤ℤ q.at
after_later feed query s [] q sound e = subst (λ (p : Stand). s.at ≤ℤ p.at) (same_Some _ _ e) (same_moment s.at)
  where
    same_moment : (z : ℤ) → z ≤ℤ z
    same_moment z = omega (arith, ints)
after_later feed query s (r ∷ rs) q sound e =
    let first = chain_gives (λ m. after (next_stand feed query) m rs) (next_stand feed query s r) q e in
    let step = step_later feed query s r first.value sound first.is in
    let rest = after_later feed query first.value rs q sound first.gives in
    both s.at first.value.at q.at step rest
  where
    both : (a b c : ℤ) → a ≤ℤ b → b ≤ℤ c → a ≤ℤ c
    both a b c x y = omega (arith, ints)

-- so steps that end in time are steps in time
pub timed_of_after : (feed : FeedRows) (query : Query) (s : Stand) (rs : List Ride) (q : Stand) → IsSoundFeed feed → after (next_stand feed query) s rs ≡ Some q → q.at ≤ℤ deadline query →
    after (next_in_time feed query) s rs ≡ Some q
unfolding next_in_time
timed_of_after feed query s [] q sound e until = e
timed_of_after feed query s (r ∷ rs) q sound e until =
    let first = chain_gives (λ m. after (next_stand feed query) m rs) (next_stand feed query s r) q e in
    let later = after_later feed query first.value rs q sound first.gives in
    let early : int_le first.value.at (deadline query) ≡ true = by first.value.at q.at (deadline query) later until in
    let rest = timed_of_after feed query first.value rs q sound first.gives until in
    rw (first.is, early) rest
  where
    by : (a b c : ℤ) → a ≤ℤ b → b ≤ℤ c → int_le a c ≡ true
    by a b c x y = grind (arith, ints)

-- what is covered covers what it is at most
pub covers-upward : (xs : List Entry) (a b : Entry) → covers_entry xs a → at_most a.triple b.triple ≡ true → covers_entry xs b
covers-upward [] a b h le = h
covers-upward (x ∷ xs) a b h le =
    let rest = covers-upward xs a b in
    let step = at_most-trans x.triple a.triple b.triple in
    grind (arith, rest, step)

-- where a journey ends in time, its last ride does
pub ends_in_time : (feed : FeedRows) (query : Query) (stand : Stand) (last : StopId) (arrival : ℤ) → end_arrival feed query stand last ≡ Some arrival → arrival ≤ℤ deadline query → stand.at ≤ℤ deadline query
unfolding end_arrival
ends_in_time feed query stand last arrival e until = step (way_out feed query stand last) refl e
  where
    before : (at arrival limit : ℤ) (s : ℕ) → (at +ℤ pos s) ≡ arrival → arrival ≤ℤ limit → at ≤ℤ limit
    before at arrival limit s is until = omega (arith, ints)

    step : (o : Option ℕ) → way_out feed query stand last ≡ o → option_map (λ s. stand.at +ℤ pos s) (way_out feed query stand last) ≡ Some arrival → stand.at ≤ℤ deadline query
    step None none is = let bad = rw none at is in absurd (none-some arrival bad)
    step (Some s) some is = before stand.at arrival (deadline query) s (same_Some _ _ (rw some at is)) until

-- an entry that is at most each of a part, offered
pub gains_offer : (feed : FeedRows) (query : Query) (Part : Entry → Type 0) (item : Entry) (old new : List Entry) → IsEntry feed query item → ((e : Entry) → Part e → at_most item.triple e.triple ≡ true) →
    covers_entry new item → CoversAll (λ (a : Entry) (b : Entry). at_most a.triple b.triple) old new → All (λ x. Contains old x ⊎ (x ≡ item)) new → Gains feed query Part old new
gains_offer feed query Part item old new is least covered still from = record {
  still = still.still;
  right = λ h. All-weaker (λ x. Contains old x ⊎ (x ≡ item)) (IsEntry feed query) (λ x. ⊎_elim (λ in_old. All-contains (IsEntry feed query) old x h in_old) (λ same. subst (IsEntry feed query) (sym same) is)) new from;
  all = λ e part. covers-upward new item e covered (least e part);
}

-- an end at a stop of a part is one of a greater part
end_in_more : (feed : FeedRows) (query : Query) (stand : Stand) (Part Whole : StopId → Type 0) (end : Option End) →
    ((last : StopId) → Part last → Whole last) → IsEndIn feed query stand Part end → IsEndIn feed query stand Whole end
end_in_more feed query stand Part Whole None more is = absurd is
end_in_more feed query stand Part Whole (Some end) more is = (more end.last is.0, is.1)

-- one more last stop
pub earliest_more : (feed : FeedRows) (query : Query) (stand : Stand) (lasts : List StopId) (k : ℕ) (d : StopId)
    (old new : Option End) → k < length lasts → IsEarliest feed query stand (IsAmong lasts k) old →
    AddsEnd feed query stand (get_or lasts k d) old new → IsEarliest feed query stand (IsAmong lasts (k + 1)) new
earliest_more feed query stand lasts k d old new lt before adds = record {
  least = λ last at among is. ⊎_elim
      (λ lower. adds.still at (before.least last at lower is))
      (λ same. adds.all at (subst (λ (s : StopId). arrival_in_time feed query stand s ≡ Some at) same is))
      (among_more lasts k d last lt among);
  from = ⊎_elim
      (λ (same : new ≡ old). ⊎_elim
      (λ (none : old ≡ None). inl (same ∙ none))
      (λ (is : IsEndIn feed query stand (IsAmong lasts k) old). inr (subst
      (IsEndIn feed query stand (IsAmong lasts (k + 1))) (sym same)
      (end_in_more feed query stand (IsAmong lasts k) (IsAmong lasts (k + 1)) old
      (λ last among. let below = among.1 in (among.0, omega (arith, below), among.2)) is)))
      before.from)
      (λ (is : IsEndIn feed query stand (λ (stop : StopId). stop ≡ get_or lasts k d) new).
      inr (end_in_more feed query stand (λ (stop : StopId). stop ≡ get_or lasts k d) (IsAmong lasts (k + 1)) new
      (λ last at. (k, omega arith, slice_get-get_or lasts k d lt ∙ ap Some (sym at))) is))
      adds.right;
}

-- all last stops
pub earliest_end : (feed : FeedRows) (query : Query) (stand : Stand) (lasts : List StopId) (k : ℕ) (end : Option End) →
    lasts ≡ stop_set feed query.to → length lasts ≤ k →
    IsEarliest feed query stand (IsAmong lasts k) end → IsEarliestEnd feed query stand end
earliest_end feed query stand lasts k end same all before = record {
  least = λ last at stands is.
      let member = member_of_stands_for feed query.to last stands in
      let long = ap length same in
      let lt = member.1 in
      before.least last at (member.0, omega arith, ap (λ stops. slice_get stops member.0) same ∙ member.2) is;
  from = ⊎_elim inl
      (λ is. inr (end_in_more feed query stand (IsAmong lasts k) (λ (last : StopId). IsTrue
      (stands_for feed query.to last)) end
      (λ last among. stands_for_member feed query.to last among.0 (ap (λ stops. slice_get stops among.0) (sym same)
      ∙ among.2)) is))
      before.from;
}

-- one more first stop
pub gains_first : (feed : FeedRows) (query : Query) (firsts : List StopId) (k : ℕ) (d : StopId) (old mid new : List Entry) → k < length firsts →
    Gains feed query (StartsAmong feed query firsts k) old mid → Gains feed query (StartsAt feed query (get_or firsts k d)) mid new → Gains feed query (StartsAmong feed query firsts (k + 1)) old new
gains_first feed query firsts k d old mid new lt before here =
    adds_more (λ a b h. b (a h)) before here
    (λ e starts. ⊎_elim (λ lower. inl (record { right = starts.right; among = lower })) (λ at. inr (record { right = starts.right; starts = at })) (among_more firsts k d e.journey.first lt starts.among))

-- the entries of a first stop go on from there
pub gains_start : (feed : FeedRows) (query : Query) (first : StopId) (old new : List Entry) → IsSoundFeed feed →
    Gains feed query (GoesOn feed query first [] (first_stand query first) query.rides) old new → Gains feed query (StartsAt feed query first) old new
gains_start feed query first old new sound gains =
    adds_same gains
    (λ e starts.
    let course = after_of_journey feed query e.journey e.triple.arrival.0 starts.right.journey in
    let until = ends_in_time feed query course.stand e.journey.last e.triple.arrival.0 course.arrives starts.right.journey.in_time in
    let goes = timed_of_after feed query (first_stand query e.journey.first) e.journey.rides course.stand sound course.stands until in
    record {
      rest = e.journey.rides;
      end = course.stand;
      few = starts.right.journey.few;
      goes = subst (λ f. after (next_in_time feed query) (first_stand query f) e.journey.rides ≡ Some course.stand) starts.starts goes;
      has = record { right = starts.right; starts = starts.starts; goes = refl };
    })

-- the entries from all first stops are all
pub gains_entries : (feed : FeedRows) (query : Query) (firsts : List StopId) (k : ℕ) (old new : List Entry) → firsts ≡ stop_set feed query.from → length firsts ≤ k →
    Gains feed query (StartsAmong feed query firsts k) old new → Gains feed query (IsEntry feed query) old new
gains_entries feed query firsts k old new same all gains =
    adds_same gains
    (λ e right.
    let member = member_of_stands_for feed query.from e.journey.first right.journey.starts in
    let long = ap length same in
    let lt = member.1 in
    record { right = right; among = (member.0, omega arith, ap (λ stops. slice_get stops member.0) same ∙ member.2) })

-- a front that covers all entries is an exact answer
pub exact_of_gains : (feed : FeedRows) (query : Query) (none entries : List Entry) → none ≡ [] →
    Gains feed query (IsEntry feed query) none entries → IsFront (λ (a : Entry) (b : Entry). at_most a.triple b.triple) (λ (a : Entry) (b : Entry). is_before a.triple b.triple) entries →
    IsExactAnswer feed query entries × CoversOffers feed query entries
exact_of_gains feed query none entries empty gains front = (
  exact_of_front feed query entries (gains.right (subst (All (IsEntry feed query)) (sym empty) (All-nil (IsEntry feed query)))) (λ i j d lt within. (front i j d lt within).earlier) (λ i j d lt within. (front i j d lt within).dearer) gains.all,
  covers_offers feed query entries gains.all,
)

-- an entry with the rides of a path arrives when one gets to its last stop from where the path leads
pub entry_arrival : (feed : FeedRows) (query : Query) (first : StopId) (stand : Stand) (taken : Taken) (e : Entry) →
    IsSearched feed query first stand taken → HasRides feed query first taken.rides e →
    arrival_in_time feed query stand e.journey.last ≡ Some e.triple.arrival.0
unfolding arrival_in_time
entry_arrival feed query first stand taken e searched has =
    let course = after_of_journey feed query e.journey e.triple.arrival.0 has.right.journey in
    let from : after (next_stand feed query) (first_stand query first) e.journey.rides ≡ Some course.stand =
    subst (λ f. after (next_stand feed query)
    (first_stand query f) e.journey.rides ≡ Some course.stand) has.starts course.stands in
    let along : after (next_stand feed query) (first_stand query first) taken.rides ≡ Some course.stand =
    subst (λ rs. after (next_stand feed query) (first_stand query first) rs ≡ Some course.stand) has.goes from in
    let same : course.stand ≡ stand =
    same_Some _ _ (sym along ∙ after_of_timed feed query (first_stand query first) taken.rides stand searched.goes) in
    let arrives : end_arrival feed query stand e.journey.last ≡ Some e.triple.arrival.0 =
    subst (λ s. end_arrival feed query s e.journey.last ≡ Some e.triple.arrival.0) same course.arrives in
    let in_time : int_le e.triple.arrival.0 (deadline query) ≡ true = to_test _ _ has.right.journey.in_time in
    rw (arrives, in_time) refl
  where
    to_test : (x y : ℤ) → x ≤ℤ y → int_le x y ≡ true
    to_test x y h = grind (arith, ints)

-- so where one gets to no last stop in time, no entry has the rides
pub none_late : (feed : FeedRows) (query : Query) (first : StopId) (stand : Stand) (taken : Taken) →
    IsSearched feed query first stand taken → IsEarliestEnd feed query stand None →
    IsBest feed query first taken.rides None
none_late feed query first stand taken searched none e has =
    none.least e.journey.last e.triple.arrival.0 has.right.journey.ends
    (entry_arrival feed query first stand taken e searched has)

-- the price of an entry's rides
entry_price : (feed : FeedRows) (query : Query) (first : StopId) (rides : List Ride) (e : Entry) →
    HasRides feed query first rides e → rides_price feed rides e.choice query.buyer ≡ Some e.triple.price.0
entry_price feed query first rides e has =
    subst (λ rs. rides_price feed rs e.choice query.buyer ≡ Some e.triple.price.0) has.goes has.right.price

-- where no choice pays the rides, no entry has them
pub none_uncovered : (feed : FeedRows) (query : Query) (first : StopId) (rides : List Ride) →
    IsUncovered feed rides query.buyer → IsBest feed query first rides None
none_uncovered feed query first rides uncovered e has =
    none-some e.triple.price.0 (sym (uncovered e.choice) ∙ entry_price feed query first rides e has)

-- what is of least price for the legs of rides is so for the rides
pub cheapest_of_legs : (feed : FeedRows) (rides : List Ride) (legs : List LegFacts) (buyer : Buyer)
    (priced : Option Priced) → legs_of feed rides ≡ Some legs → IsLeastOrNone feed legs buyer priced →
    IsCheapest feed rides buyer priced
cheapest_of_legs feed rides legs buyer None are uncovered = uncovered_rides feed rides legs buyer are uncovered
cheapest_of_legs feed rides legs buyer (Some priced) are least =
    least_price_of_rides feed rides legs buyer are priced.choice priced.sum.0 least

-- there are as many legs as rides
pub count_of_legs : (feed : FeedRows) (rides : List Ride) (legs : List LegFacts) → legs_of feed rides ≡ Some legs →
    length legs ≡ length rides
unfolding legs_of
count_of_legs feed rides legs are = (collect_below_tells (length rides) _ legs are).length_is

-- the entry of the earliest end and of a choice of least price is the best
pub best_is : (feed : FeedRows) (query : Query) (stand : Stand) (taken : Taken) (entry : Entry) (end : End) →
    IsSearched feed query entry.journey.first stand taken → IsEarliestEnd feed query stand (Some end) →
    length taken.rides ≤ query.rides → entry.journey.last ≡ end.last → entry.triple.arrival ≡ end.arrival →
    entry.triple.rides ≡ length taken.rides → entry.journey.rides ≡ taken.rides →
    IsLeastPrice feed taken.rides query.buyer entry.choice entry.triple.price.0 →
    IsBest feed query entry.journey.first taken.rides (Some entry)
best_is feed query stand taken entry end searched earliest few last_is arrival_is count rides price =
    let first = entry.journey.first in
    let here = end_is end earliest.from in
    let arrives : arrival_in_time feed query stand entry.journey.last ≡ Some entry.triple.arrival.0 =
    ap (arrival_in_time feed query stand) last_is ∙ here.1 ∙ ap (λ (m : Moment). Some m.0) (sym arrival_is) in
    let timed = arrives_in_time feed query stand entry.journey.last entry.triple.arrival.0 arrives in
    let ends = subst (λ (s : StopId). IsTrue (stands_for feed query.to s)) (sym last_is) here.0 in
    let long : length entry.journey.rides ≡ length taken.rides = ap length rides in
    let goes : after (next_stand feed query) (first_stand query first) entry.journey.rides ≡ Some stand =
    subst (λ rs. after (next_stand feed query) (first_stand query first) rs ≡ Some stand) (sym rides)
    (after_of_timed feed query (first_stand query first) taken.rides stand searched.goes) in (
      record {
        journey = journey_of_after feed query entry.journey entry.triple.arrival.0 stand searched.starts ends (omega arith) goes timed.0 timed.1;
        rides = count ∙ sym long;
        price = subst (λ rs. rides_price feed rs entry.choice query.buyer ≡ Some entry.triple.price.0) (sym rides) price.paid;
      },
      λ e has.
          let reached = entry_arrival feed query first stand taken e searched has in
          let sooner = earliest.least e.journey.last e.triple.arrival.0 has.right.journey.ends reached in
          let cheap = price.least e.choice e.triple.price.0 (entry_price feed query first taken.rides e has) in
          let counts : entry.triple.rides ≡ e.triple.rides = count ∙ sym (has.right.rides ∙ ap length has.goes) in
          at_most_parts entry.triple e.triple (subst (λ (m : Moment). m.0 ≤ℤ e.triple.arrival.0)
          (sym arrival_is) sooner) counts cheap,
    )
  where
    end_is : (end : End) → (Some end ≡ None) ⊎ IsEndIn feed query stand
        (λ (last : StopId). IsTrue (stands_for feed query.to last)) (Some end) →
        IsEndIn feed query stand (λ (last : StopId). IsTrue (stands_for feed query.to last)) (Some end)
    end_is end (inl none) = absurd (cc)
    end_is end (inr is) = is

    at_most_parts : (a b : Triple) → a.arrival.0 ≤ℤ b.arrival.0 → a.rides ≡ b.rides → a.price.0 ≤ℤ b.price.0 →
        at_most a b ≡ true
    at_most_parts a b p q r = grind (arith, ints, nat_tests)

-- the way with the ride at a place
pub gains_way : (feed : FeedRows) (query : Query) (first : StopId) (path : List Ride) (ways : List CaughtRide) (n left : ℕ) (d : CaughtRide) (old new : List Entry) → n < length ways →
    Gains feed query (GoesOn feed query first (path ++ (get_or ways n d).ride ∷ []) (stand_at_end (get_or ways n d).facts) left) old new →
    CoversWays feed query first path ways n left old → CoversWays feed query first path ways (n + 1) left new
gains_way feed query first path ways n left d old new lt gains covered k d' e below goes =
    ⊎_elim (λ lower. gains.still e (covered k d' e lower goes))
    (λ upper.
    let same : k ≡ n = omega arith in
    let way : get_or ways k d' ≡ get_or ways n d = ap (λ i. get_or ways i d') same ∙ get_or_default ways n d' d lt in
    gains.all e (subst (λ (c : CaughtRide). GoesOn feed query first (path ++ c.ride ∷ []) (stand_at_end c.facts) left e) way goes))
    (cases_lt k n)

-- the same, as it was explored
pub gains_explored : (feed : FeedRows) (query : Query) (first : StopId) (path : List Ride)
    (longer : Taken) (leg : LegFacts) (before : Taken) (ways : List CaughtRide) (n left : ℕ) (caught : CaughtRide)
    (old new : List Entry) → n < length ways →
    caught ≡ get_or ways n caught → longer ≡ with_ride before caught.ride leg → before.rides ≡ path →
    Gains feed query (GoesOn feed query first longer.rides (stand_at_end caught.facts) left) old new →
    CoversWays feed query first path ways n left old → CoversWays feed query first path ways (n + 1) left new
gains_explored feed query first path longer leg before ways n left caught old new lt is pushed was gains covered =
    gains_way feed query first path ways n left caught old new lt
    (subst (λ (c : CaughtRide). Gains feed query (GoesOn feed query first (path ++ c.ride ∷ [])
    (stand_at_end c.facts) left) old new) is
    (subst (λ rs. Gains feed query (GoesOn feed query first rs (stand_at_end caught.facts) left) old new)
    (ap (λ (t : Taken). t.rides) pushed ∙ ap (λ rs. rs ++ caught.ride ∷ []) was) gains))
    covered

-- what was gained before and is kept
pub gains_then : (feed : FeedRows) (query : Query) (Part More : Entry → Type 0) (old mid new : List Entry) → Gains feed query Part old mid → Gains feed query More mid new → Gains feed query Part old new
gains_then feed query Part More old mid new a b = adds_more (λ one two h. two (one h)) a b (λ e p. inl p)

-- all ways, and to end here
pub gains_all : (feed : FeedRows) (query : Query) (first : StopId) (path : List Ride) (stand : Stand) (ways : List CaughtRide) (n left : ℕ) (old new : List Entry) →
    HasCaught feed query stand ways → All (IsRight feed query stand) ways → length ways ≤ n → 0 < left →
    Gains feed query (HasRides feed query first path) old new → CoversWays feed query first path ways n (left - 1) new → Gains feed query (GoesOn feed query first path stand left) old new
gains_all feed query first path stand ways n left old new has right all some here covered = record {
  still = here.still;
  right = here.right;
  all = λ e goes. by e goes.rest goes.end goes.few goes.goes goes.has;
}
  where
    by : (e : Entry) (rest : List Ride) (end : Stand) → length rest ≤ left → after (next_in_time feed query) stand rest ≡ Some end → HasRides feed query first (path ++ rest) e → covers_entry new e
    by e [] end few goes ends = here.all e (record { right = ends.right; starts = ends.starts; goes = ends.goes ∙ append-nil path })
    by e (r ∷ rs) end few goes ends =
        let step = chain_gives (λ m. after (next_in_time feed query) m rs) (next_in_time feed query stand r) end goes in
        let way = has r step.value step.is in
        let place = way.1 in
        let lt = place.1 in
        let caught = right place.0 way.0 place.1 in
        let is : get_or ways place.0 way.0 ≡ way.0 = place.2 in
        let ride : (get_or ways place.0 way.0).ride ≡ r = ap (λ (c : CaughtRide). c.ride) is ∙ way.2 in
        let stands : stand_at_end (get_or ways place.0 way.0).facts ≡ step.value = same_Some _ _ (sym caught.next ∙ ap (next_in_time feed query stand) ride ∙ step.is) in
        covered place.0 way.0 e (omega arith)
        (record {
          rest = rs;
          end = end;
          few = omega arith;
          goes = subst (λ m. after (next_in_time feed query) m rs ≡ Some end) (sym stands) step.gives;
          has = record { right = ends.right; starts = ends.starts; goes = ends.goes ∙ sym (append_assoc path (r ∷ []) rs) ∙ ap (λ x. (path ++ x ∷ []) ++ rs) (sym ride) };
        })

-- nothing more, where no ride is left
pub gains_end : (feed : FeedRows) (query : Query) (first : StopId) (path : List Ride) (stand : Stand) (left : ℕ) (old new : List Entry) → left ≡ 0 →
    Gains feed query (HasRides feed query first path) old new → Gains feed query (GoesOn feed query first path stand left) old new
gains_end feed query first path stand left old new none here =
    adds_same here
    (λ e goes. record { right = goes.has.right; starts = goes.has.starts; goes = goes.has.goes ∙ no_rest goes.rest (subst (λ n. length goes.rest ≤ n) none goes.few) })
  where
    no_rest : (rest : List Ride) → length rest ≤ 0 → path ++ rest ≡ path
    no_rest [] few = append-nil path
    no_rest (r ∷ rs) few = absurd (omega arith)

-- where no ride is taken
pub searched_first : (feed : FeedRows) (query : Query) (first : StopId) (stand : Stand) →
    stand ≡ first_stand query first →
    IsWithinWindow query stand.at → IsTrue (stands_for feed query.from first) →
    IsSearched feed query first stand (no_ride (terms feed query.buyer))
unfolding legs_of
searched_first feed query first stand is within starts =
    record { within = within; starts = starts; goes = ap Some (sym is); legs = refl; terms = refl }

-- where the path leads with the ride at a place
pub searched_on : (feed : FeedRows) (query : Query) (first : StopId) (stand : Stand) (taken : Taken)
    (caught : CaughtRide) →
    IsSearched feed query first stand taken → IsRight feed query stand caught →
    IsWithinWindow query caught.facts.arrival.0 →
    IsSearched feed query first (stand_at_end caught.facts) (with_ride taken caught.ride (leg_facts feed caught.facts))
searched_on feed query first stand taken caught searched right within = record {
  within = within;
  starts = searched.starts;
  goes = after-push (next_in_time feed query) (first_stand query first) taken.rides caught.ride
      ∙ rw (searched.goes) right.next;
  legs = legs_of-push feed taken.rides caught.ride ∙ rw (searched.legs, right.facts) refl;
  terms = searched.terms;
}

-- nothing goes on where no ride is left and no journey ends in time
pub gains_dead : (feed : FeedRows) (query : Query) (first : StopId) (stand : Stand) (taken : Taken) (left : ℕ)
    (entries : List Entry) →
    IsSearched feed query first stand taken → left ≡ 0 → IsEarliestEnd feed query stand None →
    Gains feed query (GoesOn feed query first taken.rides stand left) entries entries
gains_dead feed query first stand taken left entries searched none late =
    gains_end feed query first taken.rides stand left entries entries none
    (adds_none (λ h. h)
    (none_late feed query first stand taken searched late))

-- one may ride where rides are left
pub may_ride : (feed : FeedRows) (query : Query) (first : StopId) (stand : Stand) (taken : Taken) (left : ℕ) →
    IsSearched feed query first stand taken →
    length taken.rides + left ≡ query.rides → 0 < left → MayRide feed query stand
may_ride feed query first stand taken left searched few some = record {
  some = omega (arith, few, some);
  one = λ one. (
    first,
    searched.starts,
    sym (same_Some _ _
        (subst (λ rs. after (next_in_time feed query) (first_stand query first) rs ≡ Some stand)
        (none taken.rides (omega (arith, few, some, one))) searched.goes)),
  );
}
  where
    none : (rides : List Ride) → length rides ≤ 0 → rides ≡ []
    none [] few = refl
    none (r ∷ rs) few = absurd (omega arith)

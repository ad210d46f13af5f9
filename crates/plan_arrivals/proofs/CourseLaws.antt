-- The ways of a search that asks for no fares are the journeys of its query.
use Rattle.std.proofs.Common.{◌≡◌, refl, sym, ◌∙◌, ap, subst, ℕ, zero, suc, ◌+◌, ◌≤◌, true, false, List, [], ◌∷◌, ◌++◌, length, add-one, arith, ℤ, ◌≤ℤ◌, Bool, ⊎_elim}
use Rattle.std.specs.Prelude.{◌==◌, IsTrue, Some, All, slice_get, int_le, option_and_then}
use Rattle.std.proofs.lemmas.Bool.{ne_eqb}
use Rattle.std.proofs.lemmas.List.{length_push}
use Rattle.std.proofs.lemmas.List.Elements.{All-weaker}
use Rattle.std.proofs.lemmas.Option.{same_Some}
use Rattle.transit_base.specs.declared.numbers.StopId.{StopId}
use Rattle.feed_rows.specs.declared.fares.Triple.{Triple}
use Rattle.feed_rows.specs.declared.journeys.Journey.{Journey}
use Rattle.feed_rows.specs.declared.journeys.Query.{Query}
use Rattle.feed_rows.specs.declared.journeys.Ride.{Ride}
use Rattle.feed_rows.specs.declared.journeys.RideFacts.{RideFacts}
use Rattle.feed_rows.specs.FeedRows.{FeedRows}
use Rattle.feed_rows.specs.Journeys.{stands_for, is_caught, IsJourney}
use Rattle.feed_rows.specs.JourneyStands.{Stand, end_arrival, first_stand, next_stand, stand_after, stand_at_end, way_to}
use Rattle.feed_rows.specs.ParetoTriples.{at_most, is_before}
use Rattle.feed_rows.specs.PartialJourneys.{arrives_in_window}
use Rattle.feed_rows.specs.Rides.{ride_facts}
use Rattle.feed_rows.specs.SoundFeed.{IsSoundFeed}
use Rattle.feed_laws.proofs.JourneyLaws.{journey_of_after, step_of_course, travelled_of_journey}
use Rattle.pareto_front.specs.Fronts.{IsFront}
use Rattle.plain_laws.specs.Plain.{after}
use Rattle.plain_laws.proofs.Laws.{All-slice_get, after-push, chain_gives, filled_and-true, int_le-true}
use Rattle.plan_rides.specs.InTime.{deadline}
use Rattle.round_laws.proofs.TimeLaws.{rides_in_time}
use Rattle.search_laws.specs.Links.{AreLinked, IsNext, IsStart}
use Rattle.search_laws.specs.Ways.{IsReached}
use Rattle.search_laws.proofs.LinkLaws.{are_all}
use Rattle.round_terms.specs.declared.finals.Final.{Final}
use Rattle.round_terms.specs.declared.label.Label.{Label}
use Rattle.round_search.specs.Finals.{IsFinal}
use Rattle.round_terms.specs.Labels.{facts_of}
use Rattle.round_search.specs.Searches.{IsSearched, told}
use Rattle.round_terms.specs.Steps.{IsEnd, IsStep, stand_of_facts, start_facts, ways}
use Rattle.round_terms.specs.Terms.{Facts, facts_after}
use Rattle.plan_arrivals.specs.declared.no_fares.NoFare.{NoFare}
use Rattle.plan_arrivals.specs.declared.no_fares.NoMove.{NoMove}
use Rattle.plan_arrivals.specs.NoFares.{free_task, no_fares}
use Rattle.plan_arrivals.specs.Arrivals.{AreArrivals, IsArrival, free_triple}

module _ (feed : FeedRows) (query : Query) where
  -- rides from a first stop lead to such facts
  pub record IsCourse (n : ℕ) (a : Facts NoFare) : Type 0 where
    pub first : StopId
    pub starts : IsTrue (stands_for feed query.from first)
    pub rides : List Ride
    pub long : length rides ≡ n
    pub few : n ≤ query.rides
    pub stands : after (next_stand feed query) (first_stand query first) rides ≡ Some (stand_of_facts a)
    pub count : a.rides ≡ n

  abbrev IsFreeStep : Facts NoFare → Ride → NoMove → Facts NoFare → Type 0
  IsFreeStep a ride move b = IsStep (free_task feed query) a ride move b

  -- after a ride one stands at its end
  at_end : (a : Facts NoFare) (f : RideFacts) (move : NoMove) → stand_of_facts (facts_after no_fares a f move) ≡ stand_at_end f
  at_end a f move = by ((a.rides + 1) == 0) (ne_eqb (a.rides + 1) 0 (λ e. omega (arith, e)))
    where
      by : (test : Bool) → test ≡ false → ◌≡◌ {A = Stand} (record { stop = f.to; at = f.arrival.0; fresh = test }) (stand_at_end f)
      by test is = rw is refl

  -- a ride that is caught leads there
  next_of : (a b : Facts NoFare) (ride : Ride) (move : NoMove) → IsFreeStep a ride move b →
      next_stand feed query (stand_of_facts a) ride ≡ Some (stand_of_facts b)
  unfolding next_stand
  next_of a b ride move step =
      rw (step.rides.is, step.rides.caught)
      (ap Some (sym (ap (λ (x : Facts NoFare). stand_of_facts x) step.next ∙ at_end a step.facts move)))

  -- whatever is reached, rides lead there
  pub course_of : (n : ℕ) (a : Facts NoFare) → IsReached (ways (free_task feed query)) n a → IsCourse n a
  course_of zero a start = record {
    first = a.stop;
    starts = start.0;
    rides = [];
    long = refl;
    few = omega arith;
    stands = ap (λ (x : Facts NoFare). Some (stand_of_facts x)) (sym start.1);
    count = ap (λ (x : Facts NoFare). x.rides) start.1;
  }
  course_of (suc n) b reached =
      let a = reached.0 in
      let ride = reached.1 in
      let step = reached.4 in
      let c = course_of n a reached.3 in
      let lt = step.rides.few in
      let same = c.count in
      record {
        first = c.first;
        starts = c.starts;
        rides = c.rides ++ ride ∷ [];
        long = length_push c.rides ride ∙ add-one (length c.rides) ∙ ap suc c.long;
        few = omega (arith, lt, same);
        stands = after-push (next_stand feed query) (first_stand query c.first) c.rides ride
            ∙ ap (option_and_then (λ (p : Stand). next_stand feed query p ride)) c.stands ∙ next_of a b ride reached.2 step;
        count = ap (λ (x : Facts NoFare). x.rides) step.next ∙ add-one a.rides ∙ ap suc c.count;
      }

  -- so what is reached and ends is a journey
  pub journey_of : (n : ℕ) (a : Facts NoFare) (last : StopId) (triple : Triple) → IsReached (ways (free_task feed query)) n a →
      IsEnd (free_task feed query) a last triple →
      (journey : Journey) × IsJourney feed query journey triple.arrival.0 × (triple ≡ free_triple journey triple.arrival.0)
  journey_of n a last triple reached end =
      let c = course_of n a reached in
      let journey : Journey = record { first = c.first; last = last; rides = c.rides } in (
        journey,
        journey_of_after feed query journey triple.arrival.0 (stand_of_facts a) c.starts end.ends
            (subst (λ m. m ≤ query.rides) (sym c.long) c.few) c.stands end.arrives end.in_time,
        same_triple triple (length c.rides) (end.rides ∙ c.count ∙ sym c.long) end.price,
      )
    where
      same_triple : (triple : Triple) (rides : ℕ) → triple.rides ≡ rides → triple.price.0 ≡ no_fares.price a.fare →
          ◌≡◌ {A = Triple} triple (record { arrival = record { 0 = triple.arrival.0 }; rides = rides; price = record { 0 = no_fares.price a.fare } })
      same_triple triple rides p q = made triple.arrival.0 triple.rides triple.price.0 rides (no_fares.price a.fare) p q
        where
          made : (at : ℤ) (m : ℕ) (x : ℤ) (n : ℕ) (y : ℤ) → m ≡ n → x ≡ y →
              ◌≡◌ {A = Triple} (record { arrival = record { 0 = at }; rides = m; price = record { 0 = x } })
              (record { arrival = record { 0 = at }; rides = n; price = record { 0 = y } })
          made at m x n y p q = rw (p, q) refl

  -- ---- and each journey is such a way

  -- a way is reached where one stands
  record IsWay (n : ℕ) (stand : Stand) : Type 0 where
    pub a : Facts NoFare
    pub reached : IsReached (ways (free_task feed query)) n a
    pub stands : stand_of_facts a ≡ stand
    pub count : a.rides ≡ n

  module _ (first : StopId) (rides : List Ride) (starts : IsTrue (stands_for feed query.from first)) (few : length rides ≤ query.rides)
      (in_time : All (λ (ride : Ride). IsTrue (arrives_in_window feed query ride)) rides) where
    way_of : (n : ℕ) (stand : Stand) → n ≤ length rides → stand_after feed query first rides n ≡ Some stand → IsWay n stand
    way_of zero stand le is = record {
      a = start_facts no_fares query first;
      reached = (starts, refl);
      stands = same_Some _ _ is;
      count = refl;
    }
    way_of (suc n) stand le is =
        let s = step_of_course feed query first rides n stand is in
        let before = way_of n s.before (omega (arith, le)) s.stood in
        let r = chain_gives (ride_facts feed) (slice_get rides n) s.ride s.is in
        let window = All-slice_get (λ (ride : Ride). IsTrue (arrives_in_window feed query ride)) rides n r.value r.is in_time in
        let early = filled_and-true (ride_facts feed r.value) (λ (facts : RideFacts). int_le facts.arrival.0 (deadline query)) window in
        let same : early.value ≡ s.ride = same_Some _ _ (sym early.is ∙ r.gives) in
        let a = before.a in
        let count = before.count in
        let b = facts_after no_fares a s.ride (record {}) in
        let step : IsFreeStep a r.value (record {}) b = record {
          fare = tt;
          facts = s.ride;
          rides = record {
            is = r.gives;
            few = omega (arith, le, few, count);
            caught = subst (λ (p : Stand). is_caught p.at (way_to feed query p s.ride.from) s.ride ≡ true) (sym before.stands) s.caught;
            in_time = subst (λ (f : RideFacts). f.arrival.0 ≤ℤ deadline query) same (int_le-true _ _ early.passes);
          };
          pays = tt;
          next = refl;
        } in
        record {
          a = b;
          reached = (a, r.value, record {}, before.reached, step);
          stands = at_end a s.ride (record {}) ∙ s.stands;
          count = add-one a.rides ∙ ap suc count;
        }

  -- so each journey is a way that ends
  pub record IsEnded (journey : Journey) (arrival : ℤ) : Type 0 where
    pub n : ℕ
    pub a : Facts NoFare
    pub reached : IsReached (ways (free_task feed query)) n a
    pub end : IsEnd (free_task feed query) a journey.last (free_triple journey arrival)

  pub ended_of : IsSoundFeed feed → (journey : Journey) (arrival : ℤ) → IsJourney feed query journey arrival → IsEnded journey arrival
  ended_of sound journey arrival is =
      let course = travelled_of_journey feed query journey arrival is in
      let way =
      way_of journey.first journey.rides is.starts is.few (rides_in_time feed query journey arrival sound course)
      (length journey.rides) course.stand (omega arith) course.stands in
      record {
        n = length journey.rides;
        a = way.a;
        reached = way.reached;
        end = record {
          ends = is.ends;
          arrives = ap (λ (p : Stand). end_arrival feed query p journey.last) way.stands ∙ course.arrives;
          in_time = is.in_time;
          rides = sym way.count;
          price = refl;
        };
      }

  -- ---- labels

  -- each label of a search is reached
  pub label_reached : (labels : List (Label NoFare NoMove)) → AreLinked (ways (free_task feed query)) (told (free_task feed query)) labels →
      (number : ℕ) (x : Label NoFare NoMove) → slice_get labels number ≡ Some x →
      IsReached (ways (free_task feed query)) x.rides (facts_of x)
  label_reached labels linked =
      are_all (ways (free_task feed query)) (told (free_task feed query)) labels linked
      (λ number x. IsReached (ways (free_task feed query)) x.rides (facts_of x))
      (λ number x is start. begins x start)
      (λ number x is next before. goes_on x next before)
    where
      begins : (x : Label NoFare NoMove) → IsStart (ways (free_task feed query)) (told (free_task feed query)) x →
          IsReached (ways (free_task feed query)) x.rides (facts_of x)
      begins x start =
          subst (λ n. IsReached (ways (free_task feed query)) n (facts_of x))
          (sym (ap (λ (f : Facts NoFare). f.rides) start.starts.1)) start.starts

      goes_on : (x : Label NoFare NoMove) {before : List (Label NoFare NoMove)} →
          (next : IsNext (ways (free_task feed query)) (told (free_task feed query)) before x) →
          IsReached (ways (free_task feed query)) next.before.rides (facts_of next.before) →
          IsReached (ways (free_task feed query)) x.rides (facts_of x)
      goes_on x next reached =
          subst (λ n. IsReached (ways (free_task feed query)) n (facts_of x))
          (sym (ap (λ (f : Facts NoFare). f.rides) next.step.next ∙ add-one next.before.rides))
          (facts_of next.before, next.by, next.move, reached, next.step)

  -- so each final is the end of a journey
  pub final_arrival : (labels : List (Label NoFare NoMove)) (found : Final) →
      AreLinked (ways (free_task feed query)) (told (free_task feed query)) labels → IsFinal (free_task feed query) labels found →
      IsArrival feed query found
  final_arrival labels found linked final =
      let j = journey_of final.label.rides (facts_of final.label) found.last found.triple
      (label_reached labels linked found.label final.label final.is) final.end in
      record { journey = j.0; is = j.1; triple = j.2 }

  -- what the search finds are the arrivals of the query
  pub arrivals_of : IsSoundFeed feed → (labels : List (Label NoFare NoMove)) (found : List Final) →
      IsSearched (free_task feed query) labels found →
      IsFront (λ (a : Final) (b : Final). at_most a.triple b.triple) (λ (a : Final) (b : Final). is_before a.triple b.triple) found →
      AreArrivals feed query found
  arrivals_of sound labels found is front = record {
    right = All-weaker (IsFinal (free_task feed query) labels) (IsArrival feed query)
        (λ one final. final_arrival labels one is.whole.linked final) found is.right;
    all = λ journey arrival goes.
        let e = ended_of sound journey arrival goes in
        ⊎_elim (λ found. found) (λ given. absurd (let never : false ≡ true = given in cc))
        (is.all e.n e.a journey.last (free_triple journey arrival) e.reached e.end refl);
    front = front;
  }

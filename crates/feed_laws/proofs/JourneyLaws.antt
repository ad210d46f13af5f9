-- A journey of a query is a course along its rides.
use Rattle.std.proofs.Common.{◌≡◌, refl, sym, ◌∙◌, ap, subst, ℕ, zero, suc, ◌+◌, ◌<◌, ◌≤◌, ◌⊎◌, inl, inr, true, List, [], length, get_or, arith}
use Rattle.std.specs.Prelude.{Some, slice_get, option_and_then, All, IsTrue, ℤ, pos, ◌+ℤ◌, ◌≤ℤ◌}
use Rattle.std.proofs.lemmas.Bool.{cases_lt, ne_eqb}
use Rattle.std.proofs.lemmas.Option.{slice_get-get_or, same_Some, cond_some}
use Rattle.transit_base.specs.declared.numbers.StopId.{StopId}
use Rattle.feed_rows.specs.declared.journeys.Query.{Query}
use Rattle.feed_rows.specs.declared.journeys.Ride.{Ride}
use Rattle.feed_rows.specs.declared.journeys.RideFacts.{RideFacts}
use Rattle.feed_rows.specs.declared.journeys.Journey.{Journey}
use Rattle.feed_rows.specs.FeedRows.{FeedRows}
use Rattle.feed_rows.specs.Rides.{is_ride, ride_facts}
use Rattle.feed_rows.specs.StopLinks.{link}
use Rattle.feed_rows.specs.Journeys.{stands_for, facts_at, is_caught, catches_first, catches_next, arrival_after, IsJourney}
use Rattle.feed_rows.specs.JourneyStands.{Stand, first_stand, stand_at_end, way_to, stand_by, next_stand, stand_after, end_arrival}
use Rattle.plain_laws.specs.Plain.{after}
use Rattle.plain_laws.proofs.Laws.{filled_and-true, cond_gives, holds_else, option_and_then-assoc, chain_gives, after_first-all}

-- a ride whose facts are known is one of the feed
pub is_ride-of_facts : (feed : FeedRows) (ride : Ride) (facts : RideFacts) → ride_facts feed ride ≡ Some facts → is_ride feed ride ≡ true
unfolding ride_facts
is_ride-of_facts feed ride facts e = cond_gives (is_ride feed ride) _ facts e

-- the step by ride n is the step by its facts
pub step_by_facts : (feed : FeedRows) (query : Query) (stand : Stand) (rides : List Ride) (n : ℕ) →
    option_and_then (next_stand feed query stand) (slice_get rides n) ≡ option_and_then (stand_by feed query stand) (facts_at feed rides n)
unfolding next_stand
step_by_facts feed query stand rides n = sym (option_and_then-assoc (ride_facts feed) (stand_by feed query stand) (slice_get rides n))

-- what the n-th step of a course is: where one stood before, and the ride that is caught there
pub record IsStepAt (feed : FeedRows) (query : Query) (first : StopId) (rides : List Ride) (n : ℕ) (stand : Stand) : Type 0 where
  pub before : Stand
  pub stood : stand_after feed query first rides n ≡ Some before
  pub ride : RideFacts
  pub is : facts_at feed rides n ≡ Some ride
  pub caught : is_caught before.at (way_to feed query before ride.from) ride ≡ true
  pub stands : stand_at_end ride ≡ stand

-- where a course came through n + 1 rides, the last of them was caught after the others
pub step_of_course : (feed : FeedRows) (query : Query) (first : StopId) (rides : List Ride) (n : ℕ) (stand : Stand) →
    stand_after feed query first rides (suc n) ≡ Some stand → IsStepAt feed query first rides n stand
step_of_course feed query first rides n stand e =
    let b = chain_gives (λ p. option_and_then (next_stand feed query p) (slice_get rides n)) (stand_after feed query first rides n) stand e in
    let f = chain_gives (stand_by feed query b.value) (facts_at feed rides n) stand (sym (step_by_facts feed query b.value rides n) ∙ b.gives) in
    let c = cond_some (is_caught b.value.at (way_to feed query b.value f.value.from) f.value) (stand_at_end f.value) stand f.gives in
    record { before = b.value; stood = b.is; ride = f.value; is = f.is; caught = c.0; stands = c.1 }

-- and where it was, the course comes through
pub course_of_step : (feed : FeedRows) (query : Query) (first : StopId) (rides : List Ride) (n : ℕ) (before : Stand) (ride : RideFacts) →
    stand_after feed query first rides n ≡ Some before → facts_at feed rides n ≡ Some ride →
    is_caught before.at (way_to feed query before ride.from) ride ≡ true → stand_after feed query first rides (suc n) ≡ Some (stand_at_end ride)
course_of_step feed query first rides n before ride stood is caught =
    rw stood (step_by_facts feed query before rides n ∙ by)
  where
    by : option_and_then (stand_by feed query before) (facts_at feed rides n) ≡ Some (stand_at_end ride)
    by = rw (is, caught) refl

-- a course that came through some rides came through fewer
pub course_before : (feed : FeedRows) (query : Query) (first : StopId) (rides : List Ride) (m n : ℕ) (stand : Stand) →
    m ≤ n → stand_after feed query first rides n ≡ Some stand → (before : Stand) × (stand_after feed query first rides m ≡ Some before)
course_before feed query first rides m zero stand le e = let same : m ≡ 0 = omega arith in (stand, rw same e)
course_before feed query first rides m (suc n) stand le e =
    let s = step_of_course feed query first rides n stand e in
    by (λ below. course_before feed query first rides m n s.before below s.stood) (cases_lt n m)
  where
    by : (m ≤ n → (before : Stand) × (stand_after feed query first rides m ≡ Some before)) → (n < m) ⊎ (m ≤ n) → (before : Stand) × (stand_after feed query first rides m ≡ Some before)
    by rest (inl last) = let same : m ≡ suc n = omega arith in (stand, rw same e)
    by rest (inr below) = rest below

-- the n-th ride of a journey is known, and one stands at its end after it
record IsRidden (feed : FeedRows) (query : Query) (journey : Journey) (n : ℕ) : Type 0 where
  pub ride : RideFacts
  pub is : facts_at feed journey.rides n ≡ Some ride
  pub stands : stand_after feed query journey.first journey.rides (suc n) ≡ Some (stand_at_end ride)

-- the first ride of a journey is caught from its first stop
first_ridden : (feed : FeedRows) (query : Query) (journey : Journey) → 0 < length journey.rides → catches_first feed query journey ≡ true → IsRidden feed query journey 0
first_ridden feed query journey some begins =
    let caught = filled_and-true (facts_at feed journey.rides 0) _ (holds_else _ _ (ne_eqb (length journey.rides) 0 (λ e. omega arith)) begins) in
    record {
      ride = caught.value;
      is = caught.is;
      stands = course_of_step feed query journey.first journey.rides 0 (first_stand query journey.first) caught.value refl caught.is caught.passes;
    }

-- the ride after a ride is caught at its end
next_ridden : (feed : FeedRows) (query : Query) (journey : Journey) (n : ℕ) → IsRidden feed query journey n → catches_next feed journey.rides n ≡ true → IsRidden feed query journey (suc n)
next_ridden feed query journey n r goes_on =
    let one = filled_and-true (facts_at feed journey.rides n) _ goes_on in
    let two = filled_and-true (facts_at feed journey.rides (n + 1)) _ one.passes in
    let same : one.value ≡ r.ride = same_Some _ _ (sym one.is ∙ r.is) in
    let caught = subst (λ (before : RideFacts). is_caught before.arrival.0 (link feed before.to two.value.from) two.value ≡ true) same two.passes in
    let is : facts_at feed journey.rides (suc n) ≡ Some two.value = subst (λ k. facts_at feed journey.rides k ≡ Some two.value) (omega arith) two.is in
    record {
      ride = two.value;
      is = is;
      stands = course_of_step feed query journey.first journey.rides (suc n) (stand_at_end r.ride) two.value r.stands is caught;
    }

-- each ride of a journey is known, and one stands at its end after it
ridden : (feed : FeedRows) (query : Query) (journey : Journey) (n : ℕ) → n < length journey.rides → catches_first feed query journey ≡ true →
    ((i : ℕ) → i + 1 < length journey.rides → catches_next feed journey.rides i ≡ true) → IsRidden feed query journey n
ridden feed query journey zero lt begins goes_on = first_ridden feed query journey lt begins
ridden feed query journey (suc n) lt begins goes_on =
    next_ridden feed query journey n (ridden feed query journey n (omega arith) begins goes_on) (goes_on n (omega arith))

-- the arrival after n rides is counted from where one stands after them
pub arrival_of_stand : (feed : FeedRows) (query : Query) (journey : Journey) (n : ℕ) (stand : Stand) →
    stand_after feed query journey.first journey.rides n ≡ Some stand → arrival_after feed query journey n ≡ end_arrival feed query stand journey.last
unfolding end_arrival
arrival_of_stand feed query journey zero stand e =
    let same : first_stand query journey.first ≡ stand = same_Some _ _ e in
    subst (λ (s : Stand). arrival_after feed query journey zero ≡ end_arrival feed query s journey.last) same refl
arrival_of_stand feed query journey (suc n) stand e =
    let s = step_of_course feed query journey.first journey.rides n stand e in
    let at_end : arrival_after feed query journey (suc n) ≡ end_arrival feed query (stand_at_end s.ride) journey.last = rw (s.is) refl in
    at_end ∙ ap (λ (p : Stand). end_arrival feed query p journey.last) s.stands

-- one stands somewhere after the first n rides of a journey
at_end_of_journey : (feed : FeedRows) (query : Query) (journey : Journey) (n : ℕ) → n ≤ length journey.rides → catches_first feed query journey ≡ true →
    ((i : ℕ) → i + 1 < length journey.rides → catches_next feed journey.rides i ≡ true) → (stand : Stand) × (stand_after feed query journey.first journey.rides n ≡ Some stand)
at_end_of_journey feed query journey zero le begins goes_on = (first_stand query journey.first, refl)
at_end_of_journey feed query journey (suc n) le begins goes_on =
    let r = ridden feed query journey n (omega arith) begins goes_on in (stand_at_end r.ride, r.stands)

-- a journey by the course along its rides
pub record IsTravelled (feed : FeedRows) (query : Query) (journey : Journey) (arrival : ℤ) : Type 0 where
  pub starts : IsTrue (stands_for feed query.from journey.first)
  pub ends : IsTrue (stands_for feed query.to journey.last)
  pub few : length journey.rides ≤ query.rides
  pub stand : Stand
  pub stands : stand_after feed query journey.first journey.rides (length journey.rides) ≡ Some stand
  pub arrives : end_arrival feed query stand journey.last ≡ Some arrival
  pub in_time : arrival ≤ℤ (query.departure.0 +ℤ pos query.window)

-- a journey of the query is such a course
pub travelled_of_journey : (feed : FeedRows) (query : Query) (journey : Journey) (arrival : ℤ) → IsJourney feed query journey arrival → IsTravelled feed query journey arrival
travelled_of_journey feed query journey arrival j =
    let end = at_end_of_journey feed query journey (length journey.rides) (omega arith) j.begins j.goes_on in
    record {
      starts = j.starts;
      ends = j.ends;
      few = j.few;
      stand = end.0;
      stands = end.1;
      arrives = sym (arrival_of_stand feed query journey (length journey.rides) end.0 end.1) ∙ j.arrives;
      in_time = j.in_time;
    }

-- each ride of a course is one of the feed
course_rides : (feed : FeedRows) (query : Query) (first : StopId) (rides : List Ride) (stand : Stand) →
    stand_after feed query first rides (length rides) ≡ Some stand → All (λ ride. IsTrue (is_ride feed ride)) rides
course_rides feed query first rides stand e k d lt =
    let there = course_before feed query first rides (suc k) (length rides) stand (omega arith) e in
    let s = step_of_course feed query first rides k there.0 there.1 in
    is_ride-of_facts feed (get_or rides k d) s.ride (rw (slice_get-get_or rides k d lt) at s.is)

-- the first ride of a course is caught from the first stop
course_begins : (feed : FeedRows) (query : Query) (journey : Journey) (stand : Stand) →
    stand_after feed query journey.first journey.rides (length journey.rides) ≡ Some stand → catches_first feed query journey ≡ true
course_begins feed query journey stand e = by (cases_lt 0 (length journey.rides))
  where
    by : (0 < length journey.rides) ⊎ (length journey.rides ≤ 0) → catches_first feed query journey ≡ true
    by (inr none) = let same : length journey.rides ≡ 0 = omega arith in rw same refl
    by (inl some) =
        let there = course_before feed query journey.first journey.rides 1 (length journey.rides) stand (omega arith) e in
        let s = step_of_course feed query journey.first journey.rides 0 there.0 there.1 in
        let same : first_stand query journey.first ≡ s.before = same_Some _ _ s.stood in
        let caught = subst (λ (b : Stand). is_caught b.at (way_to feed query b s.ride.from) s.ride ≡ true) (sym same) s.caught in
        rw (ne_eqb (length journey.rides) 0 (λ e. omega arith), s.is) caught

-- each later ride of a course is caught from the one before it
course_goes_on : (feed : FeedRows) (query : Query) (first : StopId) (rides : List Ride) (stand : Stand) →
    stand_after feed query first rides (length rides) ≡ Some stand → (i : ℕ) → i + 1 < length rides → catches_next feed rides i ≡ true
course_goes_on feed query first rides stand e i lt =
    let there = course_before feed query first rides (suc (suc i)) (length rides) stand (omega arith) e in
    let s = step_of_course feed query first rides (suc i) there.0 there.1 in
    let b = step_of_course feed query first rides i s.before s.stood in
    let caught = subst (λ (p : Stand). is_caught p.at (way_to feed query p s.ride.from) s.ride ≡ true) (sym b.stands) s.caught in
    let is : facts_at feed rides (i + 1) ≡ Some s.ride = subst (λ k. facts_at feed rides k ≡ Some s.ride) (omega arith) s.is in
    rw (b.is, is) caught

-- such a course is a journey of the query
pub journey_of_travelled : (feed : FeedRows) (query : Query) (journey : Journey) (arrival : ℤ) → IsTravelled feed query journey arrival → IsJourney feed query journey arrival
journey_of_travelled feed query journey arrival w =
    record {
      starts = w.starts;
      ends = w.ends;
      rides = course_rides feed query journey.first journey.rides w.stand w.stands;
      few = w.few;
      begins = course_begins feed query journey w.stand w.stands;
      goes_on = course_goes_on feed query journey.first journey.rides w.stand w.stands;
      arrives = arrival_of_stand feed query journey (length journey.rides) w.stand w.stands ∙ w.arrives;
      in_time = w.in_time;
    }

-- the course along all rides is the course from the front
pub stand_after-all : (feed : FeedRows) (query : Query) (first : StopId) (rides : List Ride) →
    stand_after feed query first rides (length rides) ≡ after (next_stand feed query) (first_stand query first) rides
stand_after-all feed query first rides = after_first-all (next_stand feed query) (first_stand query first) rides

-- what it is to take a ride from where one stands
pub record IsTaken (feed : FeedRows) (query : Query) (before : Stand) (ride : Ride) (stand : Stand) : Type 0 where
  pub facts : RideFacts
  pub is : ride_facts feed ride ≡ Some facts
  pub caught : is_caught before.at (way_to feed query before facts.from) facts ≡ true
  pub stands : stand_at_end facts ≡ stand

-- the next stand is at the end of a ride that is caught
pub taken_of_next : (feed : FeedRows) (query : Query) (before : Stand) (ride : Ride) (stand : Stand) →
    next_stand feed query before ride ≡ Some stand → IsTaken feed query before ride stand
unfolding next_stand
taken_of_next feed query before ride stand e =
    let f = chain_gives (stand_by feed query before) (ride_facts feed ride) stand e in
    let c = cond_some (is_caught before.at (way_to feed query before f.value.from) f.value) (stand_at_end f.value) stand f.gives in
    record { facts = f.value; is = f.is; caught = c.0; stands = c.1 }

-- a course from the front that ends in time is a journey
pub journey_of_after : (feed : FeedRows) (query : Query) (journey : Journey) (arrival : ℤ) (stand : Stand) →
    IsTrue (stands_for feed query.from journey.first) → IsTrue (stands_for feed query.to journey.last) → length journey.rides ≤ query.rides →
    after (next_stand feed query) (first_stand query journey.first) journey.rides ≡ Some stand →
    end_arrival feed query stand journey.last ≡ Some arrival → arrival ≤ℤ (query.departure.0 +ℤ pos query.window) → IsJourney feed query journey arrival
journey_of_after feed query journey arrival stand starts ends few stands arrives in_time =
    journey_of_travelled feed query journey arrival
    (record {
      starts = starts;
      ends = ends;
      few = few;
      stand = stand;
      stands = stand_after-all feed query journey.first journey.rides ∙ stands;
      arrives = arrives;
      in_time = in_time;
    })

-- the course from the front along a journey's rides, and the arrival from its end
pub record IsCourseFromFront (feed : FeedRows) (query : Query) (journey : Journey) (arrival : ℤ) : Type 0 where
  pub stand : Stand
  pub stands : after (next_stand feed query) (first_stand query journey.first) journey.rides ≡ Some stand
  pub arrives : end_arrival feed query stand journey.last ≡ Some arrival

-- a journey is a course from the front
pub after_of_journey : (feed : FeedRows) (query : Query) (journey : Journey) (arrival : ℤ) → IsJourney feed query journey arrival → IsCourseFromFront feed query journey arrival
after_of_journey feed query journey arrival j =
    let w = travelled_of_journey feed query journey arrival j in
    record { stand = w.stand; stands = sym (stand_after-all feed query journey.first journey.rides) ∙ w.stands; arrives = w.arrives }

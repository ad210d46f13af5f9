-- What is read from words, and what is not, taken apart: the rides of a query of prices are rides of the feed, each caught
-- from the one before, and the fault tells the first that isn't.
use Rattle.std.proofs.Common.{◌≡◌, refl, sym, ◌∙◌, ap, subst, ℕ, ◌+◌, ◌-◌, ◌<◌, ◌⊎◌, inl, inr, Bool, true, false, not, List, length, get_or, arith}
use Rattle.std.specs.Prelude.{Option, Some, None, Result, Ok, Err, is_none, slice_get, IsTrue, All, ℤ}
use Rattle.std.proofs.lemmas.Bool.{not-false}
use Rattle.std.proofs.lemmas.Option.{same_Some, none-some, option_and_then_some, slice_get-get_or}
use Rattle.transit_base.specs.declared.numbers.TripId.{TripId}
use Rattle.plain_laws.specs.Plain.{when, collect_below, find_below, given}
use Rattle.commands.specs.NumberedItems.{read_at, first_unread, read_each}
use Rattle.commands.specs.UsageFaults.{unless_fault}
use Rattle.commands.specs.declared.usage.UsageFault.{UsageFault}
use Rattle.commands.specs.declared.usage.UsageFault.TheVariants as usage
use Rattle.feed_rows.specs.declared.journeys.Ride.{Ride}
use Rattle.feed_rows.specs.FeedRows.{FeedRows}
use Rattle.feed_rows.specs.Rides.{is_ride}
use Rattle.feed_rows.specs.Journeys.{catches_next}
use Rattle.feed_rows.specs.RideWords.{RideWord}
use Rattle.feed_rows.specs.RowsById.{find_trip}
use Rattle.commands.specs.Queries.{chosen_buyer}
use Rattle.commands.specs.Requests.{PriceRequest}
use Rattle.feed_rows.specs.RowsById.{call_position}
use Rattle.commands.specs.PriceQueries.{PriceQuery, named_shift, named_ride, named_rides, first_missed, unless_missed, price_query_of}
use Rattle.feed_rows.specs.PriceTexts.{AreJoinedRides}
use Rattle.plain_laws.proofs.Laws.{collect_below_tells, collect_below_some, IsCollected, find_below_cases, IsFirst, NonePass}

-- the ride that the parts of a word make
abbrev ride_named : RideWord → TripId → ℤ → ℕ → ℕ → Ride
ride_named word trip shift from to = record { trip = trip; day = record { 0 = word.day }; shift = shift; from = from; to = to }

-- what follows gives a value where both do
pub unless_fault_ok : {X Y : Type 0} (r : Result X UsageFault) (next : X → Result Y UsageFault) (y : Y) → unless_fault r next ≡ Ok y
    → (x : X) × (r ≡ Ok x) × (next x ≡ Ok y)
unless_fault_ok (Ok x) next y e = (x, refl, e)
unless_fault_ok (Err fault) next y e = absurd (cc)

-- what is read is what each item gives
pub read_each_ok : {X Y : Type 0} (read : X → Option Y) (fault : ℕ → UsageFault) (items : List X) (ys : List Y)
    → read_each read fault items ≡ Ok ys → IsCollected (length items) (read_at read items) ys
read_each_ok {Y = Y} read fault items ys e = step (collect_below (length items) (read_at read items)) refl
  where
    step : (o : Option (List Y)) → collect_below (length items) (read_at read items) ≡ o
        → IsCollected (length items) (read_at read items) ys
    step (Some zs) is =
        let same : Ok zs ≡ Ok ys = rw is at e in
        let are : zs ≡ ys = cc in
        collect_below_tells (length items) (read_at read items) ys (is ∙ ap Some are)
    step None is = let no : Err (fault (first_unread read items)) ≡ Ok ys = rw is at e in absurd (cc)

-- a value that is not none
not_none : {X : Type 0} (o : Option X) → is_none o ≡ false → (x : X) × (o ≡ Some x)
not_none (Some x) e = (x, refl)
not_none None e = absurd (cc)

-- where an item can't be read, the fault tells the first such item, counted from 1
pub read_each_err : {X Y : Type 0} (read : X → Option Y) (fault : ℕ → UsageFault) (items : List X) (told : UsageFault)
    → read_each read fault items ≡ Err told
    → (i : ℕ) × IsFirst (λ k. is_none (read_at read items k)) (length items) i × (told ≡ fault (i + 1))
read_each_err {Y = Y} read fault items told e =
    step (find_below_cases (λ k. is_none (read_at read items k)) (length items)) (collect_below (length items) (read_at read items)) refl
  where
    step : ((i : ℕ) × (find_below (length items) (λ k. is_none (read_at read items k)) ≡ Some i)
        × IsFirst (λ k. is_none (read_at read items k)) (length items) i)
        ⊎ ((find_below (length items) (λ k. is_none (read_at read items k)) ≡ None)
        × NonePass (λ k. is_none (read_at read items k)) (length items))
        → (o : Option (List Y)) → collect_below (length items) (read_at read items) ≡ o
        → (i : ℕ) × IsFirst (λ k. is_none (read_at read items k)) (length items) i × (told ≡ fault (i + 1))
    step _ (Some ys) is = let no : Ok ys ≡ Err told = rw is at e in absurd (cc)
    step (inl found) None is =
        let same : Err (fault (found.0 + 1)) ≡ Err told = rw (is, found.1) at e in
        (found.0, found.2, cc)
    step (inr none) None is =
        let each = collect_below_some (length items) (read_at read items) (λ i lt. not_none (read_at read items i) (none.1 i lt)) in
        absurd (none-some each.0 (sym is ∙ each.1))

-- the same of a value that is left where a test holds
when_holds : {X : Type 0} (test : X → Bool) (x y : X) → when (test x) x ≡ Some y → IsTrue (test y)
when_holds test x y e = step (test x) refl
  where
    step : (b : Bool) → test x ≡ b → IsTrue (test y)
    step true holds =
        let is : Some x ≡ Some y = rw holds at e in
        subst (λ z. IsTrue (test z)) (same_Some x y is) holds
    step false fails = absurd (let no : None ≡ Some y = rw fails at e in none-some y no)

-- a ride that a word names is one of the feed
pub named_ride_is : (feed : FeedRows) (word : RideWord) (ride : Ride) → named_ride feed word ≡ Some ride
    → IsTrue (is_ride feed ride)
unfolding named_ride
named_ride_is feed word ride e = by_trip (find_trip feed word.trip) refl
  where
    by_calls : (trip : TripId) (shift : ℤ) (from to : Option ℕ)
        → given from (λ i. given to (λ j. when (is_ride feed (ride_named word trip shift i j)) (ride_named word trip shift i j))) ≡ Some ride
        → IsTrue (is_ride feed ride)
    by_calls trip shift (Some i) (Some j) h = when_holds (is_ride feed) (ride_named word trip shift i j) ride h
    by_calls trip shift (Some i) None h = absurd (none-some ride h)
    by_calls trip shift None to h = absurd (none-some ride h)

    by_shift : (trip : TripId) → find_trip feed word.trip ≡ Some trip
        → (o : Option ℤ) → named_shift feed trip word.start ≡ o → IsTrue (is_ride feed ride)
    by_shift trip is (Some shift) shifted =
        by_calls trip shift (call_position feed trip word.from) (call_position feed trip word.to) (rw (is, shifted) at e)
    by_shift trip is None shifted = absurd (let no : None ≡ Some ride = rw (is, shifted) at e in none-some ride no)

    by_trip : (o : Option TripId) → find_trip feed word.trip ≡ o → IsTrue (is_ride feed ride)
    by_trip (Some trip) is = by_shift trip is (named_shift feed trip word.start) refl
    by_trip None is = absurd (let no : None ≡ Some ride = rw is at e in none-some ride no)

-- the rides that words name are rides of the feed
pub named_rides_are : (feed : FeedRows) (words : List RideWord) (rides : List Ride) → named_rides feed words ≡ Ok rides
    → All (λ ride. IsTrue (is_ride feed ride)) rides
named_rides_are feed words rides e i d lt =
    let read = read_each_ok (named_ride feed) usage.NoSuchRide words rides e in
    let long = read.length_is in
    let here : read_at (named_ride feed) words i ≡ Some (get_or rides i d) =
    sym (read.items i (omega arith)) ∙ slice_get-get_or rides i d lt in
    option_and_then_some (named_ride feed) (slice_get words i) (get_or rides i d) here (λ word _ is. named_ride_is feed word (get_or rides i d) is)

-- where no change is missed, each next ride is caught
pub none_missed : (feed : FeedRows) (named rides : List Ride) → unless_missed named (first_missed feed named) ≡ Ok rides
    → (named ≡ rides) × ((i : ℕ) → i + 1 < length named → IsTrue (catches_next feed named i))
none_missed feed named rides e = step (find_below_cases (λ i. not (catches_next feed named i)) (length named - 1))
  where
    step : ((i : ℕ) × (first_missed feed named ≡ Some i) × IsFirst (λ k. not (catches_next feed named k)) (length named - 1) i)
        ⊎ ((first_missed feed named ≡ None) × NonePass (λ k. not (catches_next feed named k)) (length named - 1))
        → (named ≡ rides) × ((i : ℕ) → i + 1 < length named → IsTrue (catches_next feed named i))
    step (inl found) = let no : Err (usage.NoChange (found.0 + 1)) ≡ Ok rides = rw found.1 at e in absurd (cc)
    step (inr none) =
        let same : Ok named ≡ Ok rides = rw none.0 at e in
        (cc, λ i lt. not-false (catches_next feed named i) (none.1 i (omega arith)))

-- the rides of a query of prices follow one another
pub priced_rides_join : (feed : FeedRows) (request : PriceRequest) (query : PriceQuery) → price_query_of feed request ≡ Ok query
    → AreJoinedRides feed query.rides
priced_rides_join feed request query e =
    let named = unless_fault_ok (named_rides feed request.rides) _ query e in
    let followed = unless_fault_ok (unless_missed named.0 (first_missed feed named.0)) _ query named.2 in
    let buyer = unless_fault_ok (chosen_buyer feed request.rider) _ query followed.2 in
    let made : Ok (record { rides = followed.0; buyer = buyer.0 }) ≡ Ok query = buyer.2 in
    let made_is : record { rides = followed.0; buyer = buyer.0 } ≡ query = cc in
    let is : followed.0 ≡ query.rides = ap (λ q. q.rides) made_is in
    let kept = none_missed feed named.0 followed.0 followed.1 in
    subst (AreJoinedRides feed) (kept.0 ∙ is) (record {
      are_rides = named_rides_are feed request.rides named.0 named.1;
      goes_on = kept.1;
    })

-- What the definitions make of the rides that the words of `price` name, by examples over the base feed and its variants.
use Rattle.std.specs.Prelude.{◌≡◌, refl, ℕ, Bool, true, false, List, [], ◌∷◌, map, replicate, Option, Some, None, Result, Ok, Err, pos, negsuc, codes}
use Rattle.feed_rows.specs.declared.journeys.Ride.{Ride}
use Rattle.commands.specs.declared.usage.UsageFault.{UsageFault}
use Rattle.commands.specs.declared.usage.UsageFault.TheVariants as usage
use Rattle.feed_rows.specs.FeedRows.{FeedRows}
use Rattle.feed_rows.specs.ServiceDays.{is_active}
use Rattle.feed_rows.specs.Calls.{call_at, calls_of}
use Rattle.feed_rows.specs.Shifts.{shifts_of}
use Rattle.feed_rows.specs.Rides.{is_ride, ride_facts}
use Rattle.feed_rows.specs.StopLinks.{link}
use Rattle.feed_rows.specs.RideWords.{RideWord}
use Rattle.feed_rows.specs.RowsById.{has_trip_id, has_rider_id, is_default_rider}
use Rattle.feed_rows.specs.RowsById.{call_position}
use Rattle.commands.specs.PriceQueries.{PriceQuery, named_ride, first_missed, price_query_of}
use Rattle.feed_examples.specs.BaseFeed.{base, trip, call, no_category, of_category}
use Rattle.feed_examples.proofs.WorkedRides.{frequent}
use Rattle.feed_examples.proofs.WorkedEntries.{ride, from_b2}
use Rattle.feed_examples.proofs.CornerRides.{late_run, loop_trip, frequency}
use Rattle.feed_examples.proofs.CornerJourneys.{link_row, with_links}

-- a word for a ride on 2025-06-02
abbrev word : List ℕ → Option ℕ → ℕ → ℕ → RideWord
word trip start from to = record { trip = trip; day = pos 20_241; start = start; from = from; to = to }

-- T1 from A to B, T2 from B to C, and T3 from A to C
abbrev t1 : RideWord
t1 = word (codes "T1") None 1 2

abbrev t2 : RideWord
t2 = word (codes "T2") None 1 2

abbrev t3 : RideWord
t3 = word (codes "T3") None 1 2

-- ---- one ride

-- the base feed's rides, by the sequence values of their calls
base_rides : map (named_ride base) (t1 ∷ t2 ∷ t3 ∷ []) ≡ Some (ride 0 0 1) ∷ Some (ride 1 0 1) ∷ Some (ride 2 0 1)
    ∷ []
unfolding named_ride has_trip_id is_ride is_active shifts_of calls_of call_at
base_rides = refl

-- none: a trip that there isn't, a day on which none runs, a start where the trip has no frequency rows, calls that there
-- aren't, and calls in the wrong order
no_rides : map (named_ride base)
    (word (codes "T4") None 1 2 ∷ word (codes "t1") None 1 2 ∷ word (replicate 256 84) None 1 2
    ∷ record t1 { day = pos 20_242 } ∷ record t1 { day = pos 20_240 }
    ∷ word (codes "T1") (Some 28_800) 1 2 ∷ word (codes "T1") (Some 0) 1 2 ∷ word (codes "T1") None 0 2
    ∷ word (codes "T1") None 1 3 ∷ word (codes "T1") None 0 1
    ∷ word (codes "T1") None 2 1 ∷ word (codes "T1") None 1 1 ∷ [])
    ≡ replicate 12 None
unfolding named_ride has_trip_id is_ride is_active shifts_of calls_of call_at
no_rides = refl

-- runs of frequency rows go by their first departure; without a start, or at another one, there is none
starts : map (named_ride frequent)
    (word (codes "T3") (Some 30_000) 1 2 ∷ word (codes "T3") (Some 31_800) 1 2 ∷ word (codes "T3") None 1 2
    ∷ word (codes "T3") (Some 30_900) 1 2
    ∷ word (codes "T3") (Some 33_600) 1 2 ∷ word (codes "T3") (Some 29_100) 1 2 ∷ word (codes "T3") (Some 900) 1 2
    ∷ t1 ∷ word (codes "T1") (Some 28_800) 1 2 ∷ [])
    ≡ Some (record (ride 2 0 1) { shift = pos 900 }) ∷ Some (record (ride 2 0 1) { shift = pos 2_700 })
    ∷ None ∷ None ∷ None ∷ None ∷ None ∷ Some (ride 0 0 1) ∷ None ∷ []
unfolding named_ride has_trip_id is_ride is_active shifts_of calls_of call_at
starts = refl

-- a start is that of the first call, wherever one boards, also past midnight, and before the trip's own departure
late_starts : (map (named_ride late_run) (word (codes "T3") (Some 90_000) 5 9 ∷ word (codes "T3") (Some 90_900) 5 9
    ∷ word (codes "T3") (Some 90_000) 1 9 ∷ word (codes "T3") (Some 90_000) 1 2 ∷ [])
    ≡ Some (record (ride 2 1 2) { shift = pos 60_900 }) ∷ None ∷ Some (record (ride 2 0 2) { shift = pos 60_900 })
    ∷ None ∷ [])
    × (named_ride (record base {
      frequencies = frequency 2 28_800 28_801 60
          ∷ [];
    }) (word (codes "T3") (Some 28_800) 1 2)
    ≡ Some (record (ride 2 0 1) { shift = negsuc 299 }))
unfolding named_ride has_trip_id is_ride is_active shifts_of calls_of call_at
late_starts = (refl, refl)

-- a run at the trip's own departure must be named by its start too, though its shift is 0
own_start : map (named_ride (record base { frequencies = frequency 2 29_100 29_101 60 ∷ [] }))
    (t3 ∷ word (codes "T3") (Some 29_100) 1 2 ∷ [])
    ≡ None ∷ Some (ride 2 0 1) ∷ []
unfolding named_ride has_trip_id is_ride is_active shifts_of calls_of call_at
own_start = refl

-- a trip with frequency rows that make no run can't be named at all
no_runs : map (named_ride (record base { frequencies = frequency 0 500 400 60 ∷ [] })) (t1
    ∷ word (codes "T1") (Some 500) 1 2 ∷ word (codes "T1") (Some 28_800) 1 2 ∷ [])
    ≡ None ∷ None ∷ None ∷ []
unfolding named_ride has_trip_id is_ride is_active shifts_of calls_of call_at
no_runs = refl

-- a trip that calls twice at A: the sequence value tells the call, and not the stop; of trips with one id, and of calls with
-- one sequence value, which no sound feed has, the first is meant
same_names : (map (named_ride loop_trip) (word (codes "L") None 1 3 ∷ word (codes "L") None 2 3 ∷ [])
    ≡ Some (ride 0 0 2) ∷ Some (ride 0 1 2) ∷ [])
    × (named_ride (record base { trips = trip (codes "X") 0 ∷ trip (codes "T1") 0 ∷ trip (codes "T1") 0 ∷ [] }) t1
    ≡ Some (ride 1 0 1))
    × (map (call_position (record base {
      stop_times = call 0 0 1 5 ∷ call 0 1 7 6 ∷ call 0 2 7 8
          ∷ [];
    }) (record { 0 = 0 })) (1 ∷ 7 ∷ 2 ∷ []) ≡ Some 0 ∷ Some 1 ∷ None ∷ [])
unfolding named_ride has_trip_id is_ride is_active shifts_of calls_of call_at
same_names = (refl, refl, refl)

-- no boarding where pickup is forbidden
abbrev barred : Bool → Bool → FeedRows
barred pickup drop_off = record base {
  stop_times = record (call 0 0 1 28_800) { pickup = pickup }
      ∷ record (call 0 1 2 29_400) { drop_off = drop_off } ∷ [];
}

barred_calls : (named_ride (barred true true) t1 ≡ Some (ride 0 0 1)) × (named_ride (barred false true) t1 ≡ None)
    × (named_ride (barred true false) t1 ≡ None)
unfolding named_ride has_trip_id is_ride is_active shifts_of calls_of call_at
barred_calls = (refl, refl, refl)

-- ---- rides that follow one another

-- what the words name over a feed, without a rider
abbrev rides_of : FeedRows → List RideWord → Result PriceQuery UsageFault
rides_of feed rides = price_query_of feed (record { rider = None; rides = rides })

abbrev rides_are : List Ride → Result PriceQuery UsageFault
rides_are rides = Ok (record { rides = rides; buyer = no_category })

-- good rides in order
followed_rides : map (rides_of base) ((t1 ∷ t2 ∷ []) ∷ (t3 ∷ []) ∷ (t2 ∷ []) ∷ [])
    ≡ rides_are (ride 0 0 1 ∷ ride 1 0 1 ∷ []) ∷ rides_are (ride 2 0 1 ∷ []) ∷ rides_are (ride 1 0 1 ∷ []) ∷ []
unfolding named_ride has_trip_id has_rider_id is_default_rider is_ride ride_facts is_active shifts_of calls_of call_at link
followed_rides = refl

-- the first ride that there isn't is told, before any change that can't be made
missing_rides : map (rides_of base)
    ((record t1 { day = pos 20_242 } ∷ []) ∷ (t1 ∷ record t2 { to = 5 } ∷ []) ∷ (record t1 { to = 5 }
    ∷ record t2 { to = 5 } ∷ [])
    ∷ (t2 ∷ t1 ∷ record t3 { from = 9 } ∷ []) ∷ (t1 ∷ t2 ∷ t2 ∷ record t3 { from = 9 } ∷ record t3 { from = 9 } ∷ [])
    ∷ [])
    ≡ Err (usage.NoSuchRide 1) ∷ Err (usage.NoSuchRide 2) ∷ Err (usage.NoSuchRide 1) ∷ Err (usage.NoSuchRide 3)
    ∷ Err (usage.NoSuchRide 4) ∷ []
unfolding named_ride has_trip_id has_rider_id is_default_rider is_ride ride_facts is_active shifts_of calls_of call_at link
missing_rides = refl

-- the first change that can't be made is told by the ride before it: no link, a ride twice, and a later change
missed_changes : map (rides_of base)
    ((t2 ∷ t1 ∷ []) ∷ (t1 ∷ t1 ∷ []) ∷ (t1 ∷ t2 ∷ t3 ∷ []) ∷ (t1 ∷ t2 ∷ t2 ∷ t1 ∷ []) ∷ (t3 ∷ t2 ∷ t1 ∷ []) ∷ [])
    ≡ Err (usage.NoChange 1) ∷ Err (usage.NoChange 1) ∷ Err (usage.NoChange 2) ∷ Err (usage.NoChange 2)
    ∷ Err (usage.NoChange 1) ∷ []
unfolding named_ride has_trip_id has_rider_id is_default_rider is_ride ride_facts is_active shifts_of calls_of call_at link
missed_changes = refl

-- the link counts to the second: T2 leaves B2 180 seconds after T1 is at B, and a second sooner; a row that asks for 300
-- seconds at B, for 301, and one that forbids the change
links_count : (rides_of (from_b2 29_580) (t1 ∷ t2 ∷ []) ≡ rides_are (ride 0 0 1 ∷ ride 1 0 1 ∷ []))
    × (rides_of (from_b2 29_579) (t1 ∷ t2 ∷ []) ≡ Err (usage.NoChange 1))
    × (rides_of (with_links base (link_row 1 1 false 300 ∷ [])) (t1 ∷ t2 ∷ []) ≡ rides_are (ride 0 0 1 ∷ ride 1 0 1
    ∷ []))
    × (rides_of (with_links base (link_row 1 1 false 301 ∷ [])) (t1 ∷ t2 ∷ []) ≡ Err (usage.NoChange 1))
    × (rides_of (with_links base (link_row 1 1 true 0 ∷ [])) (t1 ∷ t2 ∷ []) ≡ Err (usage.NoChange 1))
unfolding named_ride has_trip_id has_rider_id is_default_rider is_ride ride_facts is_active shifts_of calls_of call_at link
links_count = (refl, refl, refl, refl, refl)

-- no change is missed among no rides and one
few_rides : map (first_missed base) ([] ∷ (ride 0 0 1 ∷ []) ∷ (ride 1 0 1 ∷ ride 0 0 1 ∷ []) ∷ []) ≡ None ∷ None
    ∷ Some 0 ∷ []
unfolding is_ride ride_facts is_active shifts_of calls_of call_at link
few_rides = refl

-- ---- the rider

-- the base feed with two categories
abbrev with_riders : Bool → Bool → FeedRows
with_riders adult child = record base {
  riders = record { id = codes "adult"; default = adult }
      ∷ record { id = codes "child"; default = child } ∷ [];
}

abbrev for_rider : FeedRows → Option (List ℕ) → List RideWord → Result PriceQuery UsageFault
for_rider feed rider rides = price_query_of feed (record { rider = rider; rides = rides })

abbrev t1_for : ℕ → Result PriceQuery UsageFault
t1_for category = Ok (record { rides = ride 0 0 1 ∷ []; buyer = of_category category })

-- the one that is named, the default one, none, and one that is needed; what is wrong with the rider comes last
price_riders :
    (for_rider (with_riders true false) (Some (codes "child")) (t1 ∷ []) ≡ t1_for 1)
    × (for_rider (with_riders false true) None (t1 ∷ []) ≡ t1_for 1)
    × (for_rider (with_riders false false) None (t1 ∷ []) ≡ rides_are (ride 0 0 1 ∷ []))
    × (for_rider (with_riders true true) None (t1 ∷ []) ≡ Err usage.RiderNeeded)
    × (for_rider base (Some (codes "child")) (t1 ∷ []) ≡ Err usage.UnknownRider)
    × (for_rider base (Some (codes "child")) (t2 ∷ t1 ∷ []) ≡ Err (usage.NoChange 1))
    × (for_rider (with_riders true true) None (t2 ∷ record t1 { to = 7 } ∷ []) ≡ Err (usage.NoSuchRide 2))
unfolding named_ride has_trip_id has_rider_id is_default_rider is_ride ride_facts is_active shifts_of calls_of call_at link
price_riders = (refl, refl, refl, refl, refl, refl, refl)

-- Worked examples of rides, walks and shifts over the base feed and its variants.
use Rattle.std.proofs.Common.{◌≡◌, refl, ℕ, true, false, [], ◌∷◌}
use Rattle.std.specs.Prelude.{Option, Some, None, pos, negsuc, codes}
use Rattle.feed_rows.specs.FeedRows.{FeedRows}
use Rattle.feed_rows.specs.declared.rows.LinkRow.{LinkRow}
use Rattle.feed_rows.specs.declared.journeys.Ride.{Ride}
use Rattle.feed_rows.specs.ServiceDays.{is_active, weekday}
use Rattle.feed_rows.specs.Calls.{call_at, calls_of}
use Rattle.feed_rows.specs.Shifts.{shifts_of}
use Rattle.feed_rows.specs.Rides.{is_ride, ride_facts}
use Rattle.feed_rows.specs.StopLinks.{link, stop_set}
use Rattle.feed_examples.specs.BaseFeed.{base, platform, call}

-- weekdays: 1970-01-01 was a Thursday, 1969-12-28 a Sunday, 2025-06-02 a Monday, 0001-01-01 a Monday
weekdays : (weekday (pos 0) ≡ 3) × (weekday (negsuc 3) ≡ 6) × (weekday (pos 20241) ≡ 0) × (weekday (negsuc 719_161) ≡ 0)
weekdays = (refl, refl, refl, refl)

-- W is active on 2025-06-02 alone
active_days : (is_active base (record { 0 = 0 }) (pos 20241) ≡ true) × (is_active base (record { 0 = 0 }) (pos 20242) ≡ false)
unfolding is_active
active_days = (refl, refl)

-- a calendar row from Monday 2025-06-02 to Sunday 2025-06-08, on Mondays and Sundays, with its Sunday removed
abbrev weekly : FeedRows
weekly =
    record base {
      services =
          record {
            service = record { 0 = 0 };
            days = true ∷ false ∷ false ∷ false ∷ false ∷ false ∷ true ∷ [];
            first = record { 0 = pos 20241 };
            last = record { 0 = pos 20247 };
          } ∷ [];
      exceptions = record { service = record { 0 = 0 }; day = record { 0 = pos 20247 }; added = false } ∷ [];
    }

calendar_days : (is_active weekly (record { 0 = 0 }) (pos 20241) ≡ true) × (is_active weekly (record { 0 = 0 }) (pos 20242) ≡ false) × (is_active weekly (record { 0 = 0 }) (pos 20247) ≡ false) × (is_active weekly (record { 0 = 0 }) (pos 20248) ≡ false) × (is_active weekly (record { 0 = 0 }) (pos 20234) ≡ false)
unfolding is_active
calendar_days = (refl, refl, refl, refl, refl)

-- T3 with a call at B without times: 08:32:30, halfway between 08:05:00 and 09:00:00 by position
abbrev filled : FeedRows
filled =
    record base {
      stop_times =
          call 2 2 9 32400
          ∷ record {
            trip = record { 0 = 2 };
            stop = record { 0 = 1 };
            sequence = 5;
            arrival = None;
            departure = None;
            pickup = true;
            drop_off = true;
          } ∷ call 2 0 1 29100
          ∷ [];
    }

filled_times : calls_of filled (record { 0 = 2 }) ≡
    record { stop = record { 0 = 0 }; sequence = 1; arrival = 29100; departure = 29100; pickup = true; drop_off = true }
    ∷ record { stop = record { 0 = 1 }; sequence = 5; arrival = 30750; departure = 30750; pickup = true; drop_off = true }
    ∷ record { stop = record { 0 = 2 }; sequence = 9; arrival = 32400; departure = 32400; pickup = true; drop_off = true }
    ∷ []
unfolding calls_of call_at
filled_times = refl

-- a trip whose last row has no time has no calls
untimed_end : calls_of (record filled { stop_times = call 2 0 1 29100 ∷ record { trip = record { 0 = 2 }; stop = record { 0 = 1 }; sequence = 5; arrival = None; departure = None; pickup = true; drop_off = true } ∷ [] }) (record { 0 = 2 }) ≡ []
unfolding calls_of call_at
untimed_end = refl

-- without frequency rows the one shift is 0
plain_shift : shifts_of base (record { 0 = 0 }) ≡ pos 0 ∷ []
unfolding shifts_of
plain_shift = refl

-- T3 leaves A at 08:05:00; runs from 08:20:00 to before 09:20:00, each half an hour: 08:20:00 and 08:50:00
abbrev pub frequent : FeedRows
frequent =
    record base { frequencies = record { trip = record { 0 = 2 }; start = 30000; end = 33600; headway = 1800 } ∷ [] }

frequency_shifts : shifts_of frequent (record { 0 = 2 }) ≡ pos 900 ∷ pos 2700 ∷ []
unfolding shifts_of calls_of call_at
frequency_shifts = refl

-- rows that overlap give each shift once, in ascending order; a run before the trip's own departure has a negative shift,
-- and a row that ends where it starts has no run
overlapping_shifts : shifts_of (record base {
  frequencies =
      record { trip = record { 0 = 2 }; start = 30000; end = 33600; headway = 1800 }
      ∷ record { trip = record { 0 = 2 }; start = 28200; end = 31800; headway = 1800 }
      ∷ record { trip = record { 0 = 2 }; start = 36000; end = 36000; headway = 60 }
      ∷ record { trip = record { 0 = 0 }; start = 100; end = 200; headway = 60 } ∷ [];
}) (record { 0 = 2 }) ≡ negsuc 899 ∷ pos 900 ∷ pos 2700 ∷ []
unfolding shifts_of calls_of call_at
overlapping_shifts = refl

-- a trip with frequency rows that have no run has no shift
no_run : shifts_of (record base { frequencies = record { trip = record { 0 = 2 }; start = 36000; end = 36000; headway = 60 } ∷ [] }) (record { 0 = 2 }) ≡ []
unfolding shifts_of
no_run = refl

-- a ride of T1 from A to B
abbrev first_bus : Ride
first_bus = record { trip = record { 0 = 0 }; day = record { 0 = pos 20241 }; shift = pos 0; from = 0; to = 1 }

ride_of_bus : ride_facts base first_bus ≡ Some (record {
  from = record { 0 = 0 };
  to = record { 0 = 1 };
  network = Some (record { 0 = 0 });
  departure = record { 0 = pos 1_748_851_200 };
  arrival = record { 0 = pos 1_748_851_800 };
})
unfolding ride_facts is_ride is_active shifts_of calls_of call_at
ride_of_bus = refl

-- no ride: on another day, with another shift, from a call to itself, backwards, past the last call, of no trip
no_rides : (ride_facts base (record first_bus { day = record { 0 = pos 20242 } }) ≡ None) × (ride_facts base (record first_bus { shift = pos 1 }) ≡ None) × (ride_facts base (record first_bus { from = 1 }) ≡ None) × (ride_facts base (record first_bus { from = 1; to = 0 }) ≡ None) × (ride_facts base (record first_bus { to = 2 }) ≡ None) × (ride_facts base (record first_bus { trip = record { 0 = 3 } }) ≡ None)
unfolding ride_facts is_ride is_active shifts_of calls_of call_at
no_rides = (refl, refl, refl, refl, refl, refl)

-- pickup forbidden at A, or drop-off at B
abbrev forbidding : FeedRows
forbidding =
    record base {
      stop_times =
          record { trip = record { 0 = 0 }; stop = record { 0 = 0 }; sequence = 1; arrival = Some 28800; departure = Some 28800; pickup = false; drop_off = true }
          ∷ call 0 1 2 29400
          ∷ record { trip = record { 0 = 0 }; stop = record { 0 = 2 }; sequence = 3; arrival = Some 30000; departure = Some 30000; pickup = true; drop_off = false }
          ∷ [];
    }

forbidden_calls : (is_ride forbidding first_bus ≡ false) × (is_ride forbidding (record first_bus { from = 1; to = 2 }) ≡ false)
unfolding is_ride is_active shifts_of calls_of call_at
forbidden_calls = (refl, refl)

-- walks without rows: to the platform itself, and to no other
plain_walks : (link base (record { 0 = 0 }) (record { 0 = 0 }) ≡ Some 0) × (link base (record { 0 = 0 }) (record { 0 = 1 }) ≡ None)
unfolding link
plain_walks = (refl, refl)

-- B and B2 are platforms of station P; A is one of no station
abbrev station : FeedRows
station =
    record base {
      stops =
          platform (codes "A")
          ∷ record { id = codes "B"; kind = 0; parent = Some (record { 0 = 4 }) } ∷ platform (codes "C")
          ∷ record { id = codes "B2"; kind = 0; parent = Some (record { 0 = 4 }) }
          ∷ record { id = codes "P"; kind = 1; parent = None } ∷ record { id = codes "E"; kind = 2; parent = None }
          ∷ [];
    }

-- station with one row of transfers.txt
abbrev related : ℕ → ℕ → LinkRow → FeedRows
related from to row = record station { links = record row { from = record { 0 = from }; to = record { 0 = to } } ∷ [] }

abbrev allowed : ℕ → LinkRow
allowed seconds = record { from = record { 0 = 0 }; to = record { 0 = 0 }; forbidden = false; seconds = seconds }

abbrev barred : LinkRow
barred = record { from = record { 0 = 0 }; to = record { 0 = 0 }; forbidden = true; seconds = 300 }

abbrev walk : FeedRows → ℕ → ℕ → Option ℕ
walk feed from to = link feed (record { 0 = from }) (record { 0 = to })

-- within a station 180 seconds; from and to a station itself none; a kind that is no platform has no walk to itself
station_walks : (walk station 1 3 ≡ Some 180) × (walk station 3 1 ≡ Some 180) × (walk station 1 1 ≡ Some 0) × (walk station 1 4 ≡ None) × (walk station 4 4 ≡ None) × (walk station 5 5 ≡ None) × (walk station 9 9 ≡ None) × (walk station 0 1 ≡ None)
unfolding link
station_walks = (refl, refl, refl, refl, refl, refl, refl, refl)

-- a row from station to station governs each platform of it, to itself too; one that forbids leaves no walk
station_rows : (walk (related 4 4 (allowed 300)) 1 3 ≡ Some 300) × (walk (related 4 4 (allowed 300)) 1 1 ≡ Some 300) × (walk (related 4 4 barred) 1 3 ≡ None) × (walk (related 4 4 barred) 1 1 ≡ None) × (walk (related 0 0 barred) 0 0 ≡ None) × (walk (related 0 4 (allowed 60)) 0 3 ≡ Some 60) × (walk (related 4 0 (allowed 60)) 3 0 ≡ Some 60) × (walk (related 4 0 (allowed 60)) 0 3 ≡ None)
unfolding link
station_rows = (refl, refl, refl, refl, refl, refl, refl, refl)

-- the pair of platforms goes before that of the stations, and the earliest row of a pair before later ones
first_rows : (walk (record station { links = record (allowed 300) { from = record { 0 = 4 }; to = record { 0 = 4 } } ∷ record barred { from = record { 0 = 1 }; to = record { 0 = 3 } } ∷ [] }) 1 3 ≡ None) × (walk (record station { links = record (allowed 60) { from = record { 0 = 4 }; to = record { 0 = 3 } } ∷ record (allowed 70) { from = record { 0 = 1 }; to = record { 0 = 4 } } ∷ [] }) 1 3 ≡ Some 70) × (walk (record station { links = record (allowed 60) { from = record { 0 = 1 }; to = record { 0 = 3 } } ∷ record barred { from = record { 0 = 1 }; to = record { 0 = 3 } } ∷ [] }) 1 3 ≡ Some 60)
unfolding link
first_rows = (refl, refl, refl)

-- a platform stands for itself, a station for its platforms, another kind for none
stop_sets : (stop_set station (record { 0 = 1 }) ≡ record { 0 = 1 } ∷ []) × (stop_set station (record { 0 = 4 }) ≡ record { 0 = 1 } ∷ record { 0 = 3 } ∷ []) × (stop_set station (record { 0 = 5 }) ≡ []) × (stop_set station (record { 0 = 6 }) ≡ []) × (stop_set (record base { stops = record { id = codes "P"; kind = 1; parent = None } ∷ [] }) (record { 0 = 0 }) ≡ [])
unfolding stop_set
stop_sets = (refl, refl, refl, refl, refl)

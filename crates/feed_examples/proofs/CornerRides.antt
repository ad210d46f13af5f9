-- Worked examples of calls, shifts and rides at their edges: rows without times, frequency rows that overlap or have no
-- run, a trip that calls twice at one stop, and the ends of a calendar row.
use Rattle.std.proofs.Common.{◌≡◌, refl, ℕ, true, false, [], ◌∷◌}
use Rattle.std.specs.Prelude.{Option, Some, None, pos, negsuc, codes}
use Rattle.feed_rows.specs.FeedRows.{FeedRows}
use Rattle.feed_rows.specs.declared.rows.StopTimeRow.{StopTimeRow}
use Rattle.feed_rows.specs.declared.rows.FrequencyRow.{FrequencyRow}
use Rattle.feed_rows.specs.ServiceDays.{is_added, is_removed, is_active}
use Rattle.feed_rows.specs.Calls.{call_at, calls_of}
use Rattle.feed_rows.specs.Shifts.{shifts_of}
use Rattle.feed_rows.specs.Rides.{is_ride}
use Rattle.feed_examples.specs.BaseFeed.{base, trip, call}
use Rattle.feed_examples.proofs.WorkedEntries.{ride}

-- a stop time with these times
abbrev pub timed : ℕ → ℕ → ℕ → Option ℕ → Option ℕ → StopTimeRow
timed trip stop sequence arrival departure =
    record {
      trip = record { 0 = trip };
      stop = record { 0 = stop };
      sequence = sequence;
      arrival = arrival;
      departure = departure;
      pickup = true;
      drop_off = true;
    }

-- a frequency row of a trip
abbrev pub frequency : ℕ → ℕ → ℕ → ℕ → FrequencyRow
frequency trip start end headway = record { trip = record { 0 = trip }; start = start; end = end; headway = headway }

-- the calls of T1, out of order: two rows without times from 10 on until 110, one from 200 on until 301, and rows with one
-- time
abbrev sparse : FeedRows
sparse =
    record base {
      stop_times =
          timed 0 1 7 None None ∷ timed 0 2 100 (Some 110) (Some 200) ∷ timed 0 0 0 (Some 0) (Some 10)
          ∷ timed 0 2 8 None None ∷ timed 0 0 101 None None ∷ timed 0 1 200 None (Some 301) ∷ timed 0 1 201 (Some 400) None
          ∷ [];
    }

-- times are spread by position from the departure before to the arrival after, rounded down; one time stands for both
sparse_calls : calls_of sparse (record { 0 = 0 }) ≡
    record { stop = record { 0 = 0 }; sequence = 0; arrival = 0; departure = 10; pickup = true; drop_off = true }
    ∷ record { stop = record { 0 = 1 }; sequence = 7; arrival = 43; departure = 43; pickup = true; drop_off = true }
    ∷ record { stop = record { 0 = 2 }; sequence = 8; arrival = 76; departure = 76; pickup = true; drop_off = true }
    ∷ record { stop = record { 0 = 2 }; sequence = 100; arrival = 110; departure = 200; pickup = true; drop_off = true }
    ∷ record { stop = record { 0 = 0 }; sequence = 101; arrival = 250; departure = 250; pickup = true; drop_off = true }
    ∷ record { stop = record { 0 = 1 }; sequence = 200; arrival = 301; departure = 301; pickup = true; drop_off = true }
    ∷ record { stop = record { 0 = 1 }; sequence = 201; arrival = 400; departure = 400; pickup = true; drop_off = true } ∷ []
unfolding calls_of call_at
sparse_calls = refl

-- shifts are counted from the first departure, which is 10: the end of a row is left out, also where the headway doesn't
-- divide, runs of two rows stand once, a row that starts after its end has no run, a run before the trip's own departure
-- has a negative shift, and rows of other trips are not looked at
sparse_shifts : shifts_of
    (record sparse {
      frequencies =
          frequency 0 100 130 10 ∷ frequency 0 105 131 10 ∷ frequency 0 110 111 7 ∷ frequency 0 500 400 5 ∷ frequency 0 3 4 1000
          ∷ frequency 0 604798 604799 1 ∷ frequency 1 1 2 1 ∷ [];
    })
    (record { 0 = 0 }) ≡ negsuc 6 ∷ pos 90 ∷ pos 95 ∷ pos 100 ∷ pos 105 ∷ pos 110 ∷ pos 115 ∷ pos 604788 ∷ []
unfolding shifts_of calls_of call_at
sparse_shifts = refl

-- T3 leaves A at 08:05:00 by its stop times, and runs at 07:05:00 alone
abbrev pub early_run : FeedRows
early_run = record base { frequencies = frequency 2 25500 25501 60 ∷ []; transfer_rules = [] }

-- the run of a frequency row is the one ride: neither the trip's own times nor a shift a second off
early_rides : (is_ride early_run (record (ride 2 0 1) { shift = negsuc 3599 }) ≡ true) × (is_ride early_run (ride 2 0 1) ≡ false) × (is_ride early_run (record (ride 2 0 1) { shift = negsuc 3600 }) ≡ false)
unfolding is_ride is_active shifts_of calls_of call_at
early_rides = (refl, refl, refl)

-- T3 calls at A, B and C, and its one run leaves A at 25:00:00, which is after midnight
abbrev pub late_run : FeedRows
late_run =
    record base {
      stop_times = call 2 0 1 29100 ∷ call 2 1 5 30000 ∷ call 2 2 9 32400 ∷ [];
      frequencies = frequency 2 90000 90001 60 ∷ [];
      transfer_rules = [];
    }

-- a shift of more than half a day
late_shift : shifts_of late_run (record { 0 = 2 }) ≡ pos 60900 ∷ []
unfolding shifts_of calls_of call_at
late_shift = refl

-- a trip that calls at A, at B and at A again
abbrev pub loop_trip : FeedRows
loop_trip =
    record base {
      trips = trip (codes "L") 0 ∷ [];
      stop_times = call 0 0 1 28800 ∷ call 0 1 2 29400 ∷ call 0 0 3 30000 ∷ [];
      transfer_rules = [];
    }

-- one rides it from its first call to its last, though both are at one stop; not from a call to itself, backwards, or past
-- the last call
loop_rides : (is_ride loop_trip (ride 0 0 2) ≡ true) × (is_ride loop_trip (ride 0 2 2) ≡ false) × (is_ride loop_trip (ride 0 2 0) ≡ false) × (is_ride loop_trip (ride 0 2 3) ≡ false)
unfolding is_ride is_active shifts_of calls_of call_at
loop_rides = (refl, refl, refl, refl)

-- service 0 runs daily from 1969-12-31 to 1970-01-07, not on day 3, and on day 100; day 2 is removed of service 1
abbrev daily : FeedRows
daily =
    record base {
      services =
          record {
            service = record { 0 = 0 };
            days = true ∷ true ∷ true ∷ true ∷ true ∷ true ∷ true ∷ [];
            first = record { 0 = negsuc 0 };
            last = record { 0 = pos 6 };
          } ∷ [];
      exceptions =
          record { service = record { 0 = 0 }; day = record { 0 = pos 3 }; added = false }
          ∷ record { service = record { 0 = 0 }; day = record { 0 = pos 100 }; added = true }
          ∷ record { service = record { 0 = 1 }; day = record { 0 = pos 2 }; added = false } ∷ [];
    }

-- a calendar row holds on its first and its last day, and on neither side of them
calendar_ends : (is_active daily (record { 0 = 0 }) (negsuc 0) ≡ true) × (is_active daily (record { 0 = 0 }) (negsuc 1) ≡ false) × (is_active daily (record { 0 = 0 }) (pos 6) ≡ true) × (is_active daily (record { 0 = 0 }) (pos 7) ≡ false)
unfolding is_active
calendar_ends = (refl, refl, refl, refl)

-- an exception adds a day outside the row or removes one within it, of its own service alone; a service without rows has no
-- day
calendar_exceptions : (is_active daily (record { 0 = 0 }) (pos 3) ≡ false) × (is_active daily (record { 0 = 0 }) (pos 100) ≡ true) × (is_active daily (record { 0 = 0 }) (pos 2) ≡ true) × (is_active daily (record { 0 = 1 }) (pos 2) ≡ false) × (is_active daily (record { 0 = 7 }) (pos 0) ≡ false)
unfolding is_active
calendar_exceptions = (refl, refl, refl, refl, refl)

-- each exception is of one type: what adds a day doesn't remove it, and what removes one doesn't add it
exceptions_by_type : (is_added daily (record { 0 = 0 }) (pos 100) ≡ true)
    × (is_removed daily (record { 0 = 0 }) (pos 100) ≡ false)
    × (is_added daily (record { 0 = 0 }) (pos 3) ≡ false) × (is_removed daily (record { 0 = 0 }) (pos 3) ≡ true)
    × (is_removed daily (record { 0 = 0 }) (pos 2) ≡ false) × (is_removed daily (record { 0 = 1 }) (pos 2) ≡ true)
exceptions_by_type = (refl, refl, refl, refl, refl, refl)

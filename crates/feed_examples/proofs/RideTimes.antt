-- The moments of rides whose calls have two times: a ride departs when its first call departs, and arrives when its
-- last one arrives.
use Rattle.std.proofs.Common.{◌≡◌, refl, ℕ, true, false, [], ◌∷◌}
use Rattle.std.specs.Prelude.{Option, Some, pos}
use Rattle.feed_rows.specs.FeedRows.{FeedRows}
use Rattle.feed_rows.specs.declared.journeys.Journey.{Journey}
use Rattle.feed_rows.specs.declared.journeys.RideFacts.{RideFacts}
use Rattle.feed_rows.specs.ServiceDays.{is_active}
use Rattle.feed_rows.specs.Calls.{call_at, calls_of}
use Rattle.feed_rows.specs.Shifts.{shifts_of}
use Rattle.feed_rows.specs.Rides.{is_ride, ride_facts}
use Rattle.feed_rows.specs.StopLinks.{link, stop_set}
use Rattle.feed_rows.specs.Journeys.{final_arrival, catches_first, catches_next}
use Rattle.feed_rows.specs.PartialJourneys.{arrives_in_window}
use Rattle.feed_examples.specs.BaseFeed.{base, call, on_the_day, query}
use Rattle.feed_examples.proofs.CornerRides.{timed}
use Rattle.feed_examples.proofs.WorkedEntries.{ride}

-- T1 is at A from 07:58:00 to 08:00:00, at B from 08:10:00 to 08:12:00, and at C from 08:20:00 to 08:21:00; T2 leaves B
-- at 08:11:00
abbrev waiting : FeedRows
waiting =
    record base {
      stop_times =
          timed 0 0 1 (Some 28680) (Some 28800) ∷ timed 0 1 2 (Some 29400) (Some 29520)
          ∷ timed 0 2 3 (Some 30000) (Some 30060) ∷ call 1 1 1 29460 ∷ call 1 2 2 30600 ∷ [];
    }

-- a bus from one stop to another at these times of 2025-06-02
abbrev bus : ℕ → ℕ → ℕ → ℕ → Option RideFacts
bus from to departure arrival =
    Some (record {
      from = record { 0 = from };
      to = record { 0 = to };
      network = Some (record { 0 = 0 });
      departure = record { 0 = pos (on_the_day departure) };
      arrival = record { 0 = pos (on_the_day arrival) };
    })

-- the two minutes at A and those at B are part of no ride that begins or ends there
moments :
    (ride_facts waiting (ride 0 0 1) ≡ bus 0 1 28800 29400)
    × (ride_facts waiting (ride 0 1 2) ≡ bus 1 2 29520 30000)
    × (ride_facts waiting (ride 0 0 2) ≡ bus 0 2 28800 30000)
unfolding is_ride ride_facts is_active shifts_of calls_of call_at
moments = (refl, refl, refl)

-- T1 from A to B
abbrev to_b : Journey
to_b = record { first = record { 0 = 0 }; last = record { 0 = 1 }; rides = ride 0 0 1 ∷ [] }

-- T2 is caught from T1, though T1 leaves B after it; T1 is caught at A at the second of its departure, and the journey
-- to B ends as it arrives, which is in time within 10 minutes
ends :
    (catches_next waiting (ride 0 0 1 ∷ ride 1 0 1 ∷ []) 0 ≡ true)
    × (catches_first waiting (query 0 1 28800) to_b ≡ true)
    × (final_arrival waiting (query 0 1 28800) to_b ≡ Some (pos (on_the_day 29400)))
    × (arrives_in_window waiting (record (query 0 1 28800) { window = 600 }) (ride 0 0 1) ≡ true)
    × (arrives_in_window waiting (record (query 0 1 28800) { window = 599 }) (ride 0 0 1) ≡ false)
unfolding is_ride ride_facts is_active shifts_of calls_of call_at link stop_set
ends = (refl, refl, refl, refl, refl)

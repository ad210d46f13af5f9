-- Worked examples of calls, shifts, links and the ends of journeys, each at a place where a wrong reading gives another answer.
use Rattle.std.proofs.Common.{◌≡◌, refl, ℕ, Bool, true, false, List, [], ◌∷◌, ◌++◌, map, Option, Some, None}
use Rattle.std.specs.Prelude.{codes, pos}
use Rattle.feed_rows.specs.FeedRows.{FeedRows}
use Rattle.feed_rows.specs.declared.rows.LinkRow.{LinkRow}
use Rattle.feed_rows.specs.Calls.{call_at, calls_of}
use Rattle.feed_rows.specs.Shifts.{shifts_of}
use Rattle.feed_rows.specs.StopLinks.{link, stop_set}
use Rattle.feed_rows.specs.Journeys.{direct, access, egress}
use Rattle.feed_examples.specs.BaseFeed.{base, platform, query}
use Rattle.feed_examples.proofs.CornerRides.{timed, frequency}

-- three rows without times between two that have one: their times are spread evenly and rounded down
three_untimed : map (λ c. c.arrival) (calls_of (record base {
  stop_times = timed 0 0 40 (Some 21) None ∷ timed 0 0 9 None None ∷ timed 0 0 0 None (Some 10) ∷ timed 0 0 2 None None ∷ timed 0 0 5 None None ∷ [];
}) (record { 0 = 0 })) ≡ 10 ∷ 12 ∷ 15 ∷ 18 ∷ 21 ∷ []
unfolding calls_of call_at
three_untimed = refl

-- the shifts of T1 where it has no stop time and this one frequency row
abbrev uncalled : ℕ → ℕ → ℕ → FeedRows
uncalled start end headway = record base { stop_times = []; frequencies = frequency 0 start end headway ∷ [] }

-- a trip without calls has shifts all the same, against a first departure at 0; a run at the end of a row is none, and one a
-- second before it is
uncalled_shifts : (shifts_of (uncalled 60 181 60) (record { 0 = 0 }) ≡ pos 60 ∷ pos 120 ∷ pos 180 ∷ [])
    × (shifts_of (uncalled 60 180 60) (record { 0 = 0 }) ≡ pos 60 ∷ pos 120 ∷ [])
    × (shifts_of (uncalled 60 61 60) (record { 0 = 0 }) ≡ pos 60 ∷ [])
    × (shifts_of (uncalled 60 60 60) (record { 0 = 0 }) ≡ [])
    × (shifts_of (uncalled 61 60 60) (record { 0 = 0 }) ≡ [])
    × (shifts_of (uncalled 60 63 1) (record { 0 = 0 }) ≡ pos 60 ∷ pos 61 ∷ pos 62 ∷ [])
unfolding shifts_of calls_of call_at
uncalled_shifts = (refl, refl, refl, refl, refl, refl)

-- A and C stand alone, B and B2 are of the station P, and E is an entrance
abbrev station : FeedRows
station =
    record base {
      stops =
          platform (codes "A") ∷ record (platform (codes "B")) { parent = Some (record { 0 = 4 }) } ∷ platform (codes "C")
          ∷ record (platform (codes "B2")) { parent = Some (record { 0 = 4 }) }
          ∷ record (platform (codes "P")) { kind = 1 } ∷ record (platform (codes "E")) { kind = 2 } ∷ [];
    }

-- a row of transfers.txt
abbrev row : ℕ → ℕ → Bool → ℕ → LinkRow
row from to forbidden seconds = record { from = record { 0 = from }; to = record { 0 = to }; forbidden = forbidden; seconds = seconds }

-- the seconds from one of these stops to another, with these rows
abbrev walk : List LinkRow → ℕ → ℕ → Option ℕ
walk rows from to = link (record station { links = rows }) (record { 0 = from }) (record { 0 = to })

-- the governing row is that from platform to platform, else from platform to station, else from station to platform, else from
-- station to station; of two rows of one pair the earlier; rows of an entrance govern nothing, and a row has one direction
governing_rows : (walk (row 4 4 true 0 ∷ row 1 3 false 60 ∷ []) 1 3 ≡ Some 60)
    × (walk (row 4 4 false 9 ∷ row 4 3 false 8 ∷ row 1 4 false 7 ∷ []) 1 3 ≡ Some 7)
    × (walk (row 4 4 false 9 ∷ row 4 3 true 8 ∷ []) 1 3 ≡ None)
    × (walk (row 4 4 false 9 ∷ row 4 3 true 8 ∷ []) 3 1 ≡ Some 9)
    × (walk (row 4 3 true 8 ∷ []) 3 3 ≡ None)
    × (walk (row 4 3 true 8 ∷ []) 1 1 ≡ Some 0)
    × (walk (row 4 0 false 33 ∷ row 4 0 true 1 ∷ []) 3 0 ≡ Some 33)
    × (walk (row 4 0 false 33 ∷ []) 0 3 ≡ None)
    × (walk (row 5 3 true 1 ∷ row 3 5 true 1 ∷ []) 1 3 ≡ Some 180)
    × (walk (row 1 3 false 0 ∷ row 1 3 true 9 ∷ []) 1 3 ≡ Some 0)
unfolding link
governing_rows = (refl, refl, refl, refl, refl, refl, refl, refl, refl, refl)

-- the same with D of the station Q
abbrev two_stations : FeedRows
two_stations =
    record station {
      stops = station.stops ++ record (platform (codes "D")) { parent = Some (record { 0 = 7 }) } ∷ record (platform (codes "Q")) { kind = 1 } ∷ [];
    }

-- the seconds between these stops without rows, or with these
abbrev walk_apart : List LinkRow → ℕ → ℕ → Option ℕ
walk_apart rows from to = link (record two_stations { links = rows }) (record { 0 = from }) (record { 0 = to })

-- without a row one walks to the stop itself and within a station: not to or from another station, nor between two platforms
-- that have none; and no row makes a station or an entrance an end of a walk
apart_stations : (map (walk_apart [] 1) (0 ∷ 1 ∷ 2 ∷ 3 ∷ 4 ∷ 5 ∷ 6 ∷ 7 ∷ []) ≡ None ∷ Some 0 ∷ None ∷ Some 180 ∷ None ∷ None ∷ None ∷ None ∷ [])
    × (map (walk_apart [] 0) (0 ∷ 1 ∷ 2 ∷ 3 ∷ 4 ∷ 6 ∷ []) ≡ Some 0 ∷ None ∷ None ∷ None ∷ None ∷ None ∷ [])
    × (walk_apart [] 6 1 ≡ None) × (walk_apart [] 4 4 ≡ None) × (walk_apart [] 5 5 ≡ None) × (walk_apart [] 8 8 ≡ None)
    × (walk_apart (row 4 0 false 5 ∷ row 0 4 false 6 ∷ row 5 0 false 7 ∷ []) 4 0 ≡ None)
    × (walk_apart (row 4 0 false 5 ∷ row 0 4 false 6 ∷ row 5 0 false 7 ∷ []) 0 4 ≡ None)
    × (walk_apart (row 4 0 false 5 ∷ row 0 4 false 6 ∷ row 5 0 false 7 ∷ []) 5 0 ≡ None)
    × (walk_apart (row 4 7 false 5 ∷ []) 3 6 ≡ Some 5)
unfolding link
apart_stations = (refl, refl, refl, refl, refl, refl, refl, refl, refl, refl)

-- a boarding stop of the origin is itself the first stop, also where a row forbids the change there, and no other platform of
-- the station is; from a single platform one walks to its sister; and the like of the destination and of no rides
own_station : (access (record station { links = row 4 4 true 0 ∷ [] }) (query 4 0 0) (record { 0 = 1 }) (record { 0 = 1 }) ≡ Some 0)
    × (access station (query 4 0 0) (record { 0 = 1 }) (record { 0 = 3 }) ≡ None)
    × (access station (query 1 0 0) (record { 0 = 1 }) (record { 0 = 3 }) ≡ Some 180)
    × (egress station (query 0 4 0) (record { 0 = 3 }) (record { 0 = 3 }) ≡ Some 0)
    × (egress station (query 0 4 0) (record { 0 = 3 }) (record { 0 = 1 }) ≡ None)
    × (egress station (query 0 4 0) (record { 0 = 0 }) (record { 0 = 0 }) ≡ Some 0)
    × (direct (record station { links = row 4 4 true 0 ∷ [] }) (record { 0 = 1 }) (record { 0 = 1 }) ≡ Some 0)
    × (direct (record station { links = row 4 4 true 0 ∷ [] }) (record { 0 = 1 }) (record { 0 = 3 }) ≡ None)
unfolding link stop_set
own_station = (refl, refl, refl, refl, refl, refl, refl, refl)

-- an entrance that names the station, and a platform that names an entrance, as no sound feed has them
abbrev odd_parents : FeedRows
odd_parents =
    record base {
      stops =
          record (platform (codes "B")) { parent = Some (record { 0 = 2 }) }
          ∷ record (platform (codes "E")) { kind = 2; parent = Some (record { 0 = 2 }) }
          ∷ record (platform (codes "P")) { kind = 1 }
          ∷ record (platform (codes "D")) { parent = Some (record { 0 = 1 }) } ∷ [];
    }

-- a station stands for its platforms alone, and an entrance for no stop, though a platform names it
odd_sets : map (λ n. stop_set odd_parents (record { 0 = n })) (0 ∷ 1 ∷ 2 ∷ 3 ∷ [])
    ≡ (record { 0 = 0 } ∷ []) ∷ [] ∷ (record { 0 = 0 } ∷ []) ∷ (record { 0 = 3 } ∷ []) ∷ []
unfolding stop_set
odd_sets = refl

-- The order of a trip's calls, and the nearest timed rows of a row, where a wrong reading gives another.
use Rattle.std.proofs.Common.{◌≡◌, refl, List, [], ◌∷◌}
use Rattle.std.specs.Prelude.{Some, None, map}
use Rattle.feed_rows.specs.declared.rows.StopTimeRow.{StopTimeRow}
use Rattle.feed_rows.specs.Calls.{call_at, calls_of, timed_before, timed_after}
use Rattle.feed_examples.specs.BaseFeed.{base}
use Rattle.feed_examples.proofs.CornerRides.{timed}

-- rows of one sequence, which no sound feed has, stand in file order: C, then A and B, of which A's row comes first
equal_sequences :
    map (λ call. call.stop.0)
    (calls_of (record base {
      stop_times = timed 0 0 3 (Some 30) None ∷ timed 0 1 3 (Some 40) None ∷ timed 0 2 1 (Some 10) None ∷ [];
    }) (record { 0 = 0 }))
    ≡ 2 ∷ 0 ∷ 1 ∷ []
unfolding calls_of call_at
equal_sequences = refl

-- rows at positions 0 to 4, of which 0, 3 and 4 have times
abbrev rows : List StopTimeRow
rows =
    timed 0 0 1 (Some 10) None ∷ timed 0 1 2 None None ∷ timed 0 1 3 None None ∷ timed 0 1 4 None (Some 40)
    ∷ timed 0 2 5 (Some 50) None ∷ []

-- the nearest timed row before a row and that after it are never the row itself, though it is timed
nearest_timed :
    (map (timed_before rows) (0 ∷ 1 ∷ 2 ∷ 3 ∷ 4 ∷ []) ≡ None ∷ Some 0 ∷ Some 0 ∷ Some 0 ∷ Some 3 ∷ [])
    × (map (timed_after rows) (0 ∷ 1 ∷ 2 ∷ 3 ∷ 4 ∷ []) ≡ Some 3 ∷ Some 3 ∷ Some 3 ∷ Some 4 ∷ None ∷ [])
nearest_timed = (refl, refl)

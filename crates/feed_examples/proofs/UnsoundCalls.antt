-- Stop times that are out of order among one another, each of which is a fault of its feed.
use Rattle.std.proofs.Common.{◌≡◌, refl, zero, suc, true, false, List, [], ◌∷◌, arith}
use Rattle.std.specs.Prelude.{Some, None}
use Rattle.feed_rows.specs.declared.rows.StopTimeRow.{StopTimeRow}
use Rattle.feed_rows.specs.FeedRows.{FeedRows}
use Rattle.feed_rows.specs.SoundTimetable.{IsFirstCall, IsLastCall}
use Rattle.feed_examples.specs.BaseFeed.{base}
use Rattle.feed_examples.proofs.CornerRides.{timed}
use Rattle.feed_examples.proofs.UnsoundFeeds.{IsFaulty}

-- base with these stop times
abbrev with_calls : List StopTimeRow → FeedRows
with_calls rows = record base { stop_times = rows }

-- a row to look past the end
abbrev no_row : StopTimeRow
no_row = timed 0 0 0 None None

-- two rows of one trip and one sequence
sequence_twice : IsFaulty (with_calls (timed 0 0 1 (Some 10) None ∷ timed 0 1 1 (Some 10) None ∷ []))
sequence_twice sound = sound.calls.no_doubles 0 1 no_row (omega arith) (omega arith) refl refl

-- a trip's first row without a time, though it stands behind the last
abbrev untimed_start : FeedRows
untimed_start = with_calls (timed 0 1 7 (Some 10) None ∷ timed 0 0 3 None None ∷ [])

untimed_first : IsFaulty untimed_start
untimed_first sound = absurd (let no : false ≡ true = sound.calls.firsts 1 no_row (omega arith) is_first in cc)
  where
    is_first : IsFirstCall untimed_start (timed 0 0 3 None None)
    is_first zero d lt of = omega arith
    is_first (suc zero) d lt of = omega arith
    is_first (suc (suc n)) d lt of = absurd (omega (arith, lt))

-- a trip's last row without a time, though it stands before the first, and though another trip has a greater sequence
abbrev untimed_end : FeedRows
untimed_end = with_calls (timed 0 1 7 None None ∷ timed 0 0 3 (Some 10) None ∷ timed 1 0 9 (Some 5) None ∷ [])

untimed_last : IsFaulty untimed_end
untimed_last sound = absurd (let no : false ≡ true = sound.calls.lasts 0 no_row (omega arith) is_last in cc)
  where
    is_last : IsLastCall untimed_end (timed 0 1 7 None None)
    is_last zero d lt of = omega arith
    is_last (suc zero) d lt of = omega arith
    is_last (suc (suc zero)) d lt of = absurd (omega (arith, of))
    is_last (suc (suc (suc n))) d lt of = absurd (omega (arith, lt))

-- a row that departs before it arrives
departs_before : IsFaulty (with_calls (timed 0 0 1 (Some 11) (Some 10) ∷ []))
departs_before sound = let no = sound.calls.within_rows 0 no_row (omega arith) 11 refl 10 refl in omega (arith, no)

-- a row that arrives before the timed one before it departs, though after that arrives, and though a row lies between
-- them
arrives_before : IsFaulty
    (with_calls (timed 0 2 9 (Some 29) None ∷ timed 0 1 5 None None ∷ timed 0 0 1 (Some 20) (Some 30) ∷ []))
arrives_before sound =
    let no = sound.calls.between_rows 2 no_row (omega arith) 0 no_row (omega arith) refl (omega arith) 30 refl 29 refl
    in
    omega (arith, no)

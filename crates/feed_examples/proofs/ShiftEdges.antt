-- Runs of frequency rows told by their count and by tests, at the edges of a row, and runs of a row without a headway.
use Rattle.std.proofs.Common.{◌≡◌, refl, ℕ, Bool, true, false, List, [], ◌∷◌}
use Rattle.std.specs.Prelude.{ℤ, pos, negsuc, map}
use Rattle.feed_rows.specs.FeedRows.{FeedRows}
use Rattle.feed_rows.specs.Calls.{call_at, calls_of}
use Rattle.feed_rows.specs.Limits.{least_shift, most_shift}
use Rattle.feed_rows.specs.Shifts.{run_starts, run_count, is_run_start, is_shift, shifts_of}
use Rattle.feed_examples.specs.BaseFeed.{base}
use Rattle.feed_examples.proofs.CornerRides.{frequency}
use Rattle.feed_examples.proofs.WorkedRides.{frequent}

-- a headway of no seconds, which no sound feed has, gives no run
no_headway :
    (run_starts (frequency 0 100 130 0) ≡ [])
    × (shifts_of (record base { frequencies = frequency 0 28800 28900 0 ∷ [] }) (record { 0 = 0 }) ≡ [])
    × (is_run_start (frequency 0 100 130 0) (pos 100) ≡ false)
unfolding shifts_of calls_of call_at is_run_start
no_headway = (refl, refl, refl)

-- how many runs there are: 100, 110 and 120; 105, 115 and 125; one alone; none where the end isn't after the start
run_counts :
    map run_count
    (frequency 0 100 130 10 ∷ frequency 0 105 131 10 ∷ frequency 0 110 111 7 ∷ frequency 0 60 60 60
    ∷ frequency 0 61 60 60 ∷ frequency 0 0 604799 1 ∷ [])
    ≡ 3 ∷ 3 ∷ 1 ∷ 0 ∷ 0 ∷ 604799 ∷ []
run_counts = refl

-- a run departs at the start and at each headway later, but neither before nor at the end
run_tests :
    map (is_run_start (frequency 0 100 130 10))
    (negsuc 99 ∷ pos 90 ∷ pos 99 ∷ pos 100 ∷ pos 105 ∷ pos 110 ∷ pos 120 ∷ pos 129 ∷ pos 130 ∷ pos 140 ∷ [])
    ≡ false ∷ false ∷ false ∷ true ∷ false ∷ true ∷ true ∷ false ∷ false ∷ false ∷ []
unfolding is_run_start
run_tests = refl

-- the tests of a trip's shifts
abbrev tests : FeedRows → ℕ → List ℤ → List Bool
tests feed trip shifts = map (is_shift feed (record { 0 = trip })) shifts

-- 0 alone is a shift of a trip without frequency rows; T3 departs at 08:05:00, and runs at 08:20:00 and 08:50:00
shift_tests :
    (tests base 0 (negsuc 0 ∷ pos 0 ∷ pos 1 ∷ []) ≡ false ∷ true ∷ false ∷ [])
    × (tests frequent 2 (pos 0 ∷ pos 899 ∷ pos 900 ∷ pos 2700 ∷ pos 4500 ∷ [])
    ≡ false ∷ false ∷ true ∷ true ∷ false ∷ [])
    × (tests frequent 0 (pos 0 ∷ pos 900 ∷ []) ≡ true ∷ false ∷ [])
unfolding is_shift is_run_start calls_of call_at
shift_tests = (refl, refl, refl)

-- shifts lie 700,000 seconds from 0 at most, either way
shift_limits : (least_shift ≡ negsuc 699_999) × (most_shift ≡ pos 700_000)
shift_limits = (refl, refl)

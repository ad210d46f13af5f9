-- The way of a journey on a page, as a line through time and as a list.
use Rattle.std.specs.Prelude.{ℕ, ◌/◌, ◌%◌, if◌then◌else◌, List, [], ◌∷◌, ◌++◌, Option, Some, None, slice_get, ℤ, ◌+ℤ◌, ◌-ℤ◌, int_le, unsigned_abs}
use Rattle.std.specs.Int.{saturate_signed, w64}
use Rattle.answer_page.specs.Html.{filled}
use Rattle.answer_page.specs.LineNames.{line_colour, line_name, stop_name}
use Rattle.answer_page.specs.Scales.{share_of, width_of}
use Rattle.answer_page.specs.Stamps.{time_html}
use Rattle.answer_page.specs.Threads.{threaded}
use Rattle.answer_page.specs.declared.answer.Entry.{Entry}
use Rattle.answer_page.specs.declared.answer.Ride.{Ride}
use Rattle.answer_page.specs.declared.answer.Step.{Step}
use Rattle.answer_page.specs.declared.answer.Step.TheVariants as step
use Rattle.answer_page.specs.declared.answer.Walk.{Walk}
use Rattle.answer_page.specs.declared.markup.TheConstants.{BAR_END, BAR_START, RIDE_BAR, RIDE_END, RIDE_FROM, RIDE_START, STAY, WAIT, WALK, WALK_BAR, WAY_END}
use Rattle.answer_page.specs.declared.names.Names.{Names}
use Rattle.answer_page.specs.declared.page.Value.TheVariants.{Number, Share, Text}
use Rattle.answer_page.specs.declared.scale.Scale.{Scale}

-- ---- when one leaves and goes on

-- so many seconds earlier and later, as far as 64 bits tell it
abbrev pub earlier : ℤ → ℤ → ℤ
earlier at seconds = saturate_signed w64 (at -ℤ seconds)

abbrev pub later : ℤ → ℤ → ℤ
later at seconds = saturate_signed w64 (at +ℤ seconds)

-- when a ride departs, and without one the moment at the end
abbrev pub departure_of : Option Step → ℤ → ℤ
departure_of (Some (step.Ride ride)) end = ride.departure.at
departure_of (Some (step.Walk walk)) end = end
departure_of (Some (step.Stay stop)) end = end
departure_of None end = end

-- when a way begins whose first parts are these: with its first ride, or so early that a walk before it ends in time
abbrev pub leave_by : Option Step → Option Step → ℤ → ℤ
leave_by (Some (step.Walk walk)) next end = earlier (departure_of next end) walk.seconds
leave_by (Some (step.Ride ride)) next end = ride.departure.at
leave_by (Some (step.Stay stop)) next end = end
leave_by None next end = end

-- when one leaves; without a ride, so that the way ends at the arrival
unfoldable pub leave_at : Entry → ℤ
leave_at entry = leave_by (slice_get entry.steps 0) (slice_get entry.steps 1) entry.head.arrival.at

-- when a part of the way ends that begins at this moment
abbrev pub end_of : ℤ → Step → ℤ
end_of at (step.Stay stop) = at
end_of at (step.Walk walk) = later at walk.seconds
end_of at (step.Ride ride) = ride.arrival.at

-- ---- the line through time

abbrev pub ride_bar_html : Names → Scale → Ride → List ℕ
ride_bar_html names times ride =
    filled RIDE_BAR.now
    (Share (share_of times ride.departure.at) ∷ Share (width_of times ride.departure.at ride.arrival.at)
    ∷ Text (line_colour names ride.trip) ∷ Text (line_name names ride.trip) ∷ [])

abbrev pub walk_bar_html : Scale → ℤ → Walk → List ℕ
walk_bar_html times at walk =
    filled WALK_BAR.now (Share (share_of times at) ∷ Share (share_of times (later at walk.seconds)) ∷ [])

-- a part of the way that begins at this moment
abbrev pub bar_html : Names → Scale → ℤ → Step → List ℕ
bar_html names times at (step.Stay stop) = []
bar_html names times at (step.Walk walk) = walk_bar_html times at walk
bar_html names times at (step.Ride ride) = ride_bar_html names times ride

-- all of it
unfoldable pub bars_html : Names → Scale → ℕ → Entry → List ℕ
bars_html names times number entry =
    filled BAR_START.now
    (Number number ∷ Share (share_of times (leave_at entry)) ∷ Share (share_of times entry.head.arrival.at) ∷ [])
    ++ threaded (bar_html names times) end_of (leave_at entry) entry.steps ++ filled BAR_END.now []

-- ---- the list

abbrev pub walk_html : Names → Walk → List ℕ
walk_html names walk =
    let seconds = unsigned_abs walk.seconds in
    filled WALK.now
    (Number (seconds / 60) ∷ Number (seconds % 60) ∷ Number (seconds % 60) ∷ Text (stop_name names walk.from)
    ∷ Text (stop_name names walk.to) ∷ [])

-- the time that one waits, where there is any
abbrev pub wait_html : ℤ → ℤ → List ℕ
wait_html from to =
    if int_le to from then []
    else filled WAIT.now
    (Number (unsigned_abs (to -ℤ from) / 60) ∷ Number (unsigned_abs (to -ℤ from) % 60)
    ∷ Number (unsigned_abs (to -ℤ from) % 60) ∷ [])

unfoldable pub ride_html : Names → List ℕ → Ride → List ℕ
ride_html names date ride =
    filled RIDE_START.now (Text (line_colour names ride.trip) ∷ Text (line_name names ride.trip) ∷ [])
    ++ time_html ride.departure date ++ filled RIDE_FROM.now (Text (stop_name names ride.from) ∷ [])
    ++ time_html ride.arrival date ++ filled RIDE_END.now (Text (stop_name names ride.to) ∷ Text ride.trip ∷ [])

-- a part of the way, which begins at this moment, and what one waits before it
abbrev pub step_html : Names → List ℕ → ℤ → Step → List ℕ
step_html names date at (step.Stay stop) = filled STAY.now (Text (stop_name names stop) ∷ [])
step_html names date at (step.Walk walk) = walk_html names walk
step_html names date at (step.Ride ride) = wait_html at ride.departure.at ++ ride_html names date ride

unfoldable pub way_html : Names → List ℕ → Entry → List ℕ
way_html names date entry =
    threaded (step_html names date) end_of (leave_at entry) entry.steps ++ filled WAY_END.now []

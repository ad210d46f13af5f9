-- Times, as feeds and commands write them: one to three digits of hours, two of minutes and two of seconds, with colons
-- between (GTFS Schedule Reference, field type Time; hours up to 167 are this project's profile).
use Rattle.std.specs.Prelude.{ℕ, ◌+◌, ◌-◌, ◌*◌, ◌==◌, ◌&&◌, nat_le, if◌then◌else◌, List, length, take, drop, slice_index, slice_range, Option, Some, None}
use Rattle.feed_rows.specs.Numerals.{number_value, when_at_most}

-- the seconds of hours, minutes and seconds
abbrev pub clock_seconds : Option ℕ → Option ℕ → Option ℕ → Option ℕ
clock_seconds (Some hours) (Some minutes) (Some seconds) = Some (3600 * hours + 60 * minutes + seconds)
clock_seconds (Some hours) (Some minutes) None = None
clock_seconds (Some hours) None seconds = None
clock_seconds None minutes seconds = None

-- the seconds of a time whose first colon stands at this place
abbrev pub time_with_colon : ℕ → ℕ → List ℕ → Option ℕ
time_with_colon colon most text =
    let hours = when_at_most 167 (number_value (take colon text)) in
    let minutes = when_at_most 59 (number_value (slice_range text (colon + 1) (colon + 3))) in
    let seconds = when_at_most 59 (number_value (drop (colon + 4) text)) in
    if (slice_index text colon == 58) && (slice_index text (colon + 3) == 58)
    then when_at_most most (clock_seconds hours minutes seconds) else None

-- the seconds of a time of at most so many seconds; its first colon stands six places before its end
unfoldable pub time_value : ℕ → List ℕ → Option ℕ
time_value most text =
    if nat_le 7 (length text) && nat_le (length text) 9 then time_with_colon (length text - 6) most text else None

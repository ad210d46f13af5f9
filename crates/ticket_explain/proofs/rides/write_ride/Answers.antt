use Rattle.std.proofs.Common.{◌≡◌, ◌∙◌, sym, ap, ℕ}
use Rattle.std.specs.Prelude.{slice_get}
use Rattle.std.proofs.lemmas.Option.{slice_get_within}
use Rattle.feed_rows.specs.FeedRows.{FeedRows}
use Rattle.ticket_explain.proofs.PartLaws.{ride_line_known, ride_line_tripless, ride_line_unboarded, ride_line_unended}
use Rattle.ticket_explain.proofs.rides.write_ride.Goals as goal

-- what the rows of the timetable's feed are, those of the timetable are
same_trip : {rows feed : FeedRows} → rows ≡ feed → (trip : ℕ) → slice_get rows.trips trip ≡ slice_get feed.trips trip
same_trip same trip = ap (λ (its : FeedRows). slice_get its.trips trip) same

pub returns-in_default : goal.returns-in_default
returns-in_default c =
    ride_line_tripless c.args.timetable.now c.args.ride c.args.facts
    (c.in_default.ensures ∙ same_trip (c.feed.view_is ∙ c.feed-feed.ensures.value) c.args.ride.trip.0)

pub call_at-requires : goal.call_at-requires
call_at-requires c =
    slice_get_within c.args.timetable.now.trips c.args.ride.trip.0 c.in-Some.row.now
    (sym (c.in-Some.ensures ∙ same_trip (c.feed.view_is ∙ c.feed-feed.ensures.value) c.args.ride.trip.0))

pub returns-in_default-call_at : goal.returns-in_default-call_at
returns-in_default-call_at c =
    ride_line_unboarded c.args.timetable.now c.args.ride c.args.facts c.in-Some.row.now
    (c.in-Some.ensures ∙ same_trip (c.feed.view_is ∙ c.feed-feed.ensures.value) c.args.ride.trip.0) c.in_default-call_at.ensures

pub call_at-requires-2 : goal.call_at-requires-2
call_at-requires-2 c =
    slice_get_within c.args.timetable.now.trips c.args.ride.trip.0 c.in-Some.row.now
    (sym (c.in-Some.ensures ∙ same_trip (c.feed.view_is ∙ c.feed-feed.ensures.value) c.args.ride.trip.0))

pub returns-in_default-call_at-2 : goal.returns-in_default-call_at-2
returns-in_default-call_at-2 c =
    ride_line_unended c.args.timetable.now c.args.ride c.args.facts c.in-Some.row.now c.in-Some-call_at.boarding
    (c.in-Some.ensures ∙ same_trip (c.feed.view_is ∙ c.feed-feed.ensures.value) c.args.ride.trip.0) c.in-Some-call_at.ensures c.in_default-call_at-2.ensures

pub write_ride_between-requires : goal.write_ride_between-requires
write_ride_between-requires c =
    slice_get_within c.args.timetable.now.trips c.args.ride.trip.0 c.in-Some.row.now
    (sym (c.in-Some.ensures ∙ same_trip (c.feed.view_is ∙ c.feed-feed.ensures.value) c.args.ride.trip.0))

pub returns : goal.returns
returns c =
    let trip = c.in-Some.ensures ∙ same_trip (c.feed.view_is ∙ c.feed-feed.ensures.value) c.args.ride.trip.0 in
    let line =
    ride_line_known c.args.timetable.now c.args.ride c.args.facts c.in-Some.row.now c.in-Some-call_at.boarding c.in-Some-call_at-2.alighting
    trip c.in-Some-call_at.ensures c.in-Some-call_at-2.ensures in
    rw (← line, ← c.bytes-trip.ensures.value) c.write_ride_between.ensures

use Rattle.std.proofs.Common.{◌≡◌, ◌∙◌, ap, sym, ◌<◌, length, append-nil, arith, ℤ}
use Rattle.transit_base.specs.declared.calendar.Day.{Day}
use Rattle.feed_rows.specs.Rides.{runs_on}
use Rattle.feed_rows.specs.ServiceDays.{is_active}
use Rattle.plain_laws.proofs.Laws.{length-list_below}
use Rattle.plan_patterns.specs.HeldRuns.{day_after_first, days_of, first_day, held_of_trip, held_on_day}
use Rattle.plan_patterns.proofs.HeldLaws.{active_at, day_without, days_more}
use Rattle.plan_patterns.proofs.held.add_trip.Goals as goal
use Rattle.plan_patterns.proofs.held.add_trip.Goals.{then-runs_with+in_ok-add_day, else-runs_with}

pub runs_with-requires-clause-many : goal.runs_with-requires-clause-many
runs_with-requires-clause-many c =
    let feed = c.args.timetable.now in
    let days = c.days_of-days-end.ensures.value in
    let lt : c.loop-days.days < days_of c.args.span.now = omega arith in
    ap length (c.get.ensures ∙ active_at feed c.args.span.now c.args.active.now c.loop-days.days c.requires.active lt)
    ∙ length-list_below (length feed.service_names) (λ s. is_active feed (record { 0 = s }) (day_after_first (first_day c.args.span.now) c.loop-days.days).0)

pub runs_with-requires-clause-trip : goal.runs_with-requires-clause-trip
runs_with-requires-clause-trip c = c.requires.inside

pub day_after-day-requires-clause-low : goal.day_after-day-requires-clause-low
day_after-day-requires-clause-low c = c.first_day-first.ensures.low

pub day_after-day-requires-clause-high : goal.day_after-day-requires-clause-high
day_after-day-requires-clause-high c = c.first_day-first.ensures.high

pub day_after-day-requires-clause-few : goal.day_after-day-requires-clause-few
day_after-day-requires-clause-few c = omega (arith, c.loop-days-test.true, c.days_of-days-end.ensures.few)

pub add_day-requires-clause-sound : goal.add_day-requires-clause-sound
add_day-requires-clause-sound c = c.requires.sound

pub add_day-requires-clause-inside : goal.add_day-requires-clause-inside
add_day-requires-clause-inside c = c.requires.inside

pub add_day-requires-clause-day : goal.add_day-requires-clause-day
add_day-requires-clause-day c = c.day_after-day.ensures.near

pub loop-days-init : goal.loop-days-init
loop-days-init c = sym (append-nil c.args.runs.now.items)

pub add_day-requires-clause-runs : goal.add_day-requires-clause-runs
add_day-requires-clause-runs c =
    let days = c.days_of-days-end.ensures.value in
    let lt : c.loop-days.days < days_of c.args.span.now = omega arith in
    let active = c.get.ensures ∙ active_at c.args.timetable.now c.args.span.now c.args.active.now c.loop-days.days c.requires.active lt in
    let day = c.day_after-day.ensures.value ∙ ap (λ (first : ℤ). day_after_first first c.loop-days.days) c.first_day-first.ensures.value in
    ap (λ (d : Day). runs_on c.args.timetable.now c.args.trip d.0) day ∙ sym (c.runs_with.ensures _ active) ∙ c.if-runs_with.true

pub loop-days-preserved : goal.loop-days-preserved
loop-days-preserved c =
    let days = c.days_of-days-end.ensures.value in
    let lt : c.loop-days.days < days_of c.args.span.now = omega arith in
    let active = c.get.ensures ∙ active_at c.args.timetable.now c.args.span.now c.args.active.now c.loop-days.days c.requires.active lt in
    elim c.if-runs_with.branch [
      | then-runs_with+in_ok-add_day w ↦
          (let day = w.day_after-day.ensures.value ∙ ap (λ (first : ℤ). day_after_first first c.loop-days.days) c.first_day-first.ensures.value in
          rw w.runs-is (days_more c.args.timetable.now c.args.span.now c.args.trip c.loop-days.days c.args.runs.now.items c.loop-days.runs.items _ _ c.loop-days.invariant (ap (held_on_day c.args.timetable.now c.args.span.now c.args.trip) day) w.in_ok-add_day.ensures))
      | else-runs_with w ↦
          (let none = day_without c.args.timetable.now c.args.span.now c.args.trip (day_after_first (first_day c.args.span.now) c.loop-days.days) (sym (c.runs_with.ensures _ active) ∙ w.if-runs_with.false) in
          rw w.runs-is (days_more c.args.timetable.now c.args.span.now c.args.trip c.loop-days.days c.args.runs.now.items c.loop-days.runs.items _ _ c.loop-days.invariant (sym none) (sym (append-nil c.loop-days.runs.items))))
    ]

pub returns : goal.returns
unfolding held_of_trip
returns c =
    let days = c.days_of-days-end.ensures.value in
    let all : c.loop-days.days ≡ days_of c.args.span.now = omega arith in
    rw (← all) c.loop-days.invariant

use Rattle.std.proofs.Common.{◌∙◌, ℕ, ℤ, pos, ◌+ℤ◌, ◌≤ℤ◌, List, Contains, get_or, subst, take, take_all, ap, sym}
use mir.Syntax.{w64}
use mir.Val.{of_z, to_z}
use Rattle.std.proofs.lemmas.Int.{to_z-of_z}
use Rattle.std.proofs.lemmas.List.{get_or_default, take_more}
use Rattle.feed_rows.specs.declared.rows.TripRow.{TripRow}
use Rattle.feed_rows.specs.Calls.{calls_of}
use Rattle.feed_rows.specs.FeedRows.{FeedRows}
use Rattle.feed_rows.specs.Limits.{least_shift, most_shift}
use Rattle.feed_rows.specs.Rides.{trip_network}
use Rattle.feed_rows.specs.ServiceDays.{is_active}
use Rattle.feed_rows.specs.Shifts.{shifts_of}
use Rattle.fare_audit.specs.Days.{AreWithin}
use Rattle.fare_audit.specs.Runs.{CoversRun, CoversShift}
use Rattle.fare_audit.proofs.FoundLaws.{grows_on}
use Rattle.fare_audit.proofs.RunLaws.{active_at, among_more, near_run, run_later, runs_by_service, shift_covered, shift_near, trip_service}
use Rattle.fare_audit.proofs.judge.Audit.add_shift.Goals as goal

pub reach_of-requires-clause-low : goal.reach_of-requires-clause-low
reach_of-requires-clause-low c =
    subst (λ (z : ℤ). least_shift ≤ℤ z) (sym (to_z-of_z w64 c.args.shift c.ranges.shift))
    (shift_near c.args.self.now.feed c.args.trip c.args.shift c.feed.ensures.sound c.requires.shift).0

pub reach_of-requires-clause-high : goal.reach_of-requires-clause-high
reach_of-requires-clause-high c =
    subst (λ (z : ℤ). z ≤ℤ most_shift) (sym (to_z-of_z w64 c.args.shift c.ranges.shift))
    (shift_near c.args.self.now.feed c.args.trip c.args.shift c.feed.ensures.sound c.requires.shift).1

pub ends_of-requires-clause-run : goal.ends_of-requires-clause-run
ends_of-requires-clause-run c =
    let self = c.args.self.now in
    let trip = c.args.trip in
    let none = c.index-items-trip.result in
    let row = get_or c.items.result.now trip.0 none in
    let rows = c.items.ensures.value ∙ ap (λ (f : FeedRows). f.trips) (c.behind-self.view_is ∙ c.feed.ensures.value) in
    let is = ap (λ (rs : List TripRow). get_or rs trip.0 none) rows ∙ get_or_default self.feed.trips trip.0 none row c.requires.trip in
    let like = c.of-number-items.ensures self.feed self.first self.count c.requires.days (trip_service self.feed trip row c.feed.ensures.sound is c.requires.trip) in
    let on = active_at self row.service _ c.loop-number.number-index like.within c.loop-number-test.true in
    near_run _ c.first.result.0 (get_or c.of-number-items.result.now c.loop-number.number-index 0) self.count c.day_after-day.ensures c.first.ensures.low c.first.ensures.high on.0 c.first.ensures.few
    (subst (λ (z : ℤ). (least_shift ≤ℤ z) × (z ≤ℤ most_shift)) (sym (to_z-of_z w64 c.args.shift c.ranges.shift))
    (shift_near self.feed trip c.args.shift c.feed.ensures.sound c.requires.shift))

pub add_run-requires-clause-run : goal.add_run-requires-clause-run
add_run-requires-clause-run c =
    let self = c.args.self.now in
    let trip = c.args.trip in
    let none = c.index-items-trip.result in
    let row = get_or c.items.result.now trip.0 none in
    let rows = c.items.ensures.value ∙ ap (λ (f : FeedRows). f.trips) (c.behind-self.view_is ∙ c.feed.ensures.value) in
    let is = ap (λ (rs : List TripRow). get_or rs trip.0 none) rows ∙ get_or_default self.feed.trips trip.0 none row c.requires.trip in
    let like = c.of-number-items.ensures self.feed self.first self.count c.requires.days (trip_service self.feed trip row c.feed.ensures.sound is c.requires.trip) in
    let on = active_at self row.service _ c.loop-number.number-index like.within c.loop-number-test.true in
    let n = get_or c.of-number-items.result.now c.loop-number.number-index 0 in
    let day = c.day_after-day.ensures ∙ ap (λ (z : ℤ). z +ℤ pos n) c.first.ensures.value in
    record {
      number = n;
      within = on.0;
      day = day;
      runs = runs_by_service self.feed trip row is c.requires.trip c.day_after-day.result.0 ∙ ap (is_active self.feed row.service) day ∙ on.1;
      shift = subst (λ (z : ℤ). Contains (shifts_of self.feed trip) z) (sym (to_z-of_z w64 c.args.shift c.ranges.shift)) c.requires.shift;
      network = c.network-network.ensures ∙ ap (λ (f : FeedRows). trip_network f trip) c.requires.trips;
    }

pub loop-number-preserved : goal.loop-number-preserved
loop-number-preserved c =
    let self = c.args.self.now in
    let trip = c.args.trip in
    let z = to_z w64 (of_z w64 c.args.shift) in
    let network = c.network-network.result in
    let days = c.of-number-items.result.now in
    let i = c.loop-number.number-index in
    let n = get_or days i 0 in
    let e = c.in_ok-add_run.ensures in
    let old = c.loop-number.found in
    let new = c.add_run.new.found in
    let day = c.day_after-day.ensures ∙ ap (λ (y : ℤ). y +ℤ pos n) c.first.ensures.value in
    record {
      found = e.found;
      grows = grows_on c.args.found.now old new c.loop-number.invariant.grows e.grows;
      covers = among_more (λ k. CoversRun self old (record { trip = trip; day = record { 0 = self.first +ℤ pos k }; shift = z; network = network }))
          (λ k. CoversRun self new (record { trip = trip; day = record { 0 = self.first +ℤ pos k }; shift = z; network = network })) (take i days) _ n
          (λ k. run_later self old new e.grows (record { trip = trip; day = record { 0 = self.first +ℤ pos k }; shift = z; network = network })) c.loop-number.invariant.covers
          (subst (λ (y : ℤ). CoversRun self new (record { trip = trip; day = record { 0 = y }; shift = z; network = network })) day e.covers)
          (take_more days i 0 c.loop-number-test.true);
    }

pub returns-clause-covers : goal.returns-clause-covers
returns-clause-covers c =
    let self = c.args.self.now in
    let trip = c.args.trip in
    let none = c.index-items-trip.result in
    let row = get_or c.items.result.now trip.0 none in
    let rows = c.items.ensures.value ∙ ap (λ (f : FeedRows). f.trips) (c.behind-self.view_is ∙ c.feed.ensures.value) in
    let is = ap (λ (rs : List TripRow). get_or rs trip.0 none) rows ∙ get_or_default self.feed.trips trip.0 none row c.requires.trip in
    let like = c.of-number-items.ensures self.feed self.first self.count c.requires.days (trip_service self.feed trip row c.feed.ensures.sound is c.requires.trip) in
    let days = c.of-number-items.result.now in
    let z = to_z w64 (of_z w64 c.args.shift) in
    let within = subst (AreWithin c.reach_of.result z) (c.calls_of-calls.ensures.value ∙ ap (λ (f : FeedRows). calls_of f trip) c.requires.trips) c.reach_of.ensures in
    subst (CoversShift self c.loop-number.found trip) (to_z-of_z w64 c.args.shift c.ranges.shift)
    (shift_covered self c.loop-number.found trip z c.network-network.result c.reach_of.result row.service days like (runs_by_service self.feed trip row is c.requires.trip) within
    (λ n at. c.loop-number.invariant.covers n (subst (λ (ns : List ℕ). Contains ns n) (sym (take_all c.loop-number.number-index days c.loop-number-test.false)) at)))

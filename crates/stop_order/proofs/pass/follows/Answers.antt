use Rattle.std.proofs.Common.{◌≡◌, ◌∙◌, ◌<◌, refl, sym, ap, get_or, length, true, false, ◌≤◌, Some, arith}
use Rattle.std.proofs.lemmas.List.{get_or_default}
use Rattle.std.proofs.lemmas.Grind.{common_steps}
use Rattle.stop_order.specs.declared.times.TripTime.{TripTime}
use Rattle.stop_order.specs.Order.{trip_at}
use Rattle.stop_order.proofs.TogetherLaws.{before_is, marked_if_more, marked_anew, scattered_none, scattered_if_not, scattered_past, scattered_again}
use Rattle.stop_order.proofs.pass.follows.Goals as goal
use Rattle.stop_order.proofs.pass.follows.Goals.{then-trip-len-via-then-trip-len, then-trip-len-via-else-trip-len+then-index}

pub returns-in_default-clause-apart : goal.returns-in_default-clause-apart
returns-in_default-clause-apart g c =
    scattered_none (g.T.StopTimes.times c.args.times.now) c.args.row c.requires.within (ap (λ (time : TripTime). time.trip) (sym c.time-time.ensures) ∙ c.in_default.is)

pub overflow_sub-row : goal.overflow_sub-row
overflow_sub-row g c =
    let some = (before_is (g.T.StopTimes.times c.args.times.now) c.args.row (sym c.goes_on.ensures ∙ c.if-goes_on.true)).0 in
    omega (arith, some)

pub returns-then-goes_on-clause-on : goal.returns-then-goes_on-clause-on
returns-then-goes_on-clause-on g c =
    let times = g.T.StopTimes.times c.args.times.now in
    let row = c.args.row in
    let on = sym c.goes_on.ensures ∙ c.if-goes_on.true in
    marked_if_more times row c.args.begun.now.items _ c.requires.before on (rw (c.time.ensures, c.time-time.ensures) refl)

pub returns-then-goes_on-clause-apart : goal.returns-then-goes_on-clause-apart
returns-then-goes_on-clause-apart g c =
    let times = g.T.StopTimes.times c.args.times.now in
    let row = c.args.row in
    let on = sym c.goes_on.ensures ∙ c.if-goes_on.true in
    scattered_if_not times row _ c.requires.within on (rw (c.time.ensures, c.time-time.ensures) refl)

pub returns-then-trip-len-clause-apart : goal.returns-then-trip-len-clause-apart
returns-then-trip-len-clause-apart g c =
    let times = g.T.StopTimes.times c.args.times.now in
    let row = c.args.row in
    let begun = c.args.begun.now.items in
    let off = sym c.goes_on.ensures ∙ c.if-goes_on.false in
    let trip = c.in-Some.trip in
    let here : trip_at times row ≡ Some trip = ap (λ (time : TripTime). time.trip) (sym c.time-time.ensures) ∙ c.in-Some.is in
    elim c.then-trip-len.branch [
      | then-trip-len-via-then-trip-len w ↦
          let past : length begun ≤ trip.0 = omega (arith, w.if-trip-len.true) in
          scattered_past times row trip begun c.requires.within c.requires.before here past
      | then-trip-len-via-else-trip-len+then-index w ↦
          let inside : trip.0 < length begun = omega (arith, w.if-trip-len.false) in
          let again : get_or begun trip.0 false ≡ true =
          get_or_default begun trip.0 false w.index.result.now inside ∙ sym w.index.ensures ∙ w.if-index.true in
          scattered_again times row trip begun c.requires.within c.requires.before off here again
    ]

pub returns-clause-on : goal.returns-clause-on
returns-clause-on g c =
    let times = g.T.StopTimes.times c.args.times.now in
    let row = c.args.row in
    let begun = c.args.begun.now.items in
    let trip = c.in-Some.trip in
    let here : trip_at times row ≡ Some trip = ap (λ (time : TripTime). time.trip) (sym c.time-time.ensures) ∙ c.in-Some.is in
    let inside : trip.0 < length begun = grind (arith, common_steps) in
    let unmarked : get_or begun trip.0 false ≡ false = grind (arith, common_steps) in
    marked_anew times row trip begun c.requires.before here inside unmarked

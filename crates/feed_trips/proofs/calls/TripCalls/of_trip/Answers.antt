use Rattle.std.proofs.Common.{◌∙◌, ap, length, sym, arith, Some}
use Rattle.std.specs.Prelude.{slice_range}
use Rattle.feed_rows.specs.CallPass.{pass}
use Rattle.feed_trips.proofs.LaidTimes.{lies, has_stretch, calls_there, filled_there, reach}
use Rattle.feed_trips.proofs.calls.TripCalls.of_trip.Goals as goal

pub index-stretch-requires : goal.index-stretch-requires
index-stretch-requires c =
    let lt = has_stretch _ _ _ _ c.self.view_is c.requires in
    rw c.self.inside.stretches.ok.0 lt

pub slice_bounds-rows-count : goal.slice_bounds-rows-count
slice_bounds-rows-count c =
    let lt = has_stretch _ _ _ _ c.self.view_is c.requires in
    (lies _ _ _ _ _ c.self.invariant lt c.index-stretch.ensures).0

pub slice_bounds-rows-start : goal.slice_bounds-rows-start
slice_bounds-rows-start c =
    let lt = has_stretch _ _ _ _ c.self.view_is c.requires in
    let at = lies _ _ _ _ _ c.self.invariant lt c.index-stretch.ensures in
    let forward = at.0 in
    let ends = at.1 in
    let same = ap length c.as_slice.ensures.value in
    omega (arith, forward, ends, same)

pub slice_bounds-rows-end : goal.slice_bounds-rows-end
slice_bounds-rows-end c =
    let lt = has_stretch _ _ _ _ c.self.view_is c.requires in
    let ends = (lies _ _ _ _ _ c.self.invariant lt c.index-stretch.ensures).1 in
    let same = ap length c.as_slice.ensures.value in
    omega (arith, ends, same)

pub times_of-requires-clause-forward : goal.times_of-requires-clause-forward
times_of-requires-clause-forward c =
    let lt = has_stretch _ _ _ _ c.self.view_is c.requires in
    (lies _ _ _ _ _ c.self.invariant lt c.index-stretch.ensures).0

pub times_of-requires-clause-within : goal.times_of-requires-clause-within
times_of-requires-clause-within c =
    let lt = has_stretch _ _ _ _ c.self.view_is c.requires in
    rw c.deref.ensures.value
    (reach _ _ _ (lies _ _ _ _ _ c.self.invariant lt c.index-stretch.ensures).1 c.self.invariant.many)

pub of-requires : goal.of-requires
of-requires c =
    let lt = has_stretch _ _ _ _ c.self.view_is c.requires in
    rw (c.times_of.ensures, c.deref.ensures.value, c.as_slice.ensures.value)
    (filled_there _ _ _ _ _ c.self.invariant lt c.index-stretch.ensures)

pub returns : goal.returns
returns c =
    let lt = has_stretch _ _ _ _ c.self.view_is c.requires in
    let from = c.index-stretch.result.now.from in
    let to = c.index-stretch.result.now.to in
    calls_there _ _ _ _ _ c.self.view_is lt c.index-stretch.ensures
    ∙ ap (λ rs. Some (pass (slice_range rs from to))) (sym c.as_slice.ensures.value) ∙ ap Some (sym c.of.ensures)

use Rattle.std.proofs.Common.{◌≡◌, sym, ◌∙◌, Some, slice_get, arith}
use Rattle.feed_trips.proofs.MadeCalls.{row_within, timed_call, has_time, filled_call}
use Rattle.feed_trips.proofs.calls.Calls.at.Goals as goal

pub offset_bounds-rows-position : goal.offset_bounds-rows-position
offset_bounds-rows-position c =
    let lt = row_within c.self.inside.rows.now c.args.self.now c.args.position c.self.view_is c.requires in
    let size = c.self.told.0 in
    omega (arith, lt, size)

pub bounds-rows-position : goal.bounds-rows-position
bounds-rows-position c = row_within c.self.inside.rows.now c.args.self.now c.args.position c.self.view_is c.requires

-- the call of a row that has a time
timed : (c : goal.After-call_of) → slice_get c.args.self.now c.args.position ≡ Some c.call_of.result
timed c =
    let lt = row_within c.self.inside.rows.now c.args.self.now c.args.position c.self.view_is c.requires in
    let first = c.unwrap_or-arrival.ensures in
    let firsts = c.first_time.ensures in
    let last = c.unwrap_or.ensures in
    let lasts = c.last_time.ensures in
    timed_call _ c.self.inside.times.now _ _ _ c.self.view_is lt c.index-rows-position.is _
    (sym c.is_timed.ensures ∙ c.if-is_timed.true) (cc (c.call_of.ensures, first, firsts, last, lasts))

pub returns-then-is_timed : goal.returns-then-is_timed
returns-then-is_timed c = timed c

pub offset_bounds-times-position : goal.offset_bounds-times-position
offset_bounds-times-position c =
    let lt = row_within c.self.inside.rows.now c.args.self.now c.args.position c.self.view_is c.requires in
    let size = c.self.told.0 in
    omega (arith, lt, size)

pub bounds-times-position : goal.bounds-times-position
bounds-times-position c =
    let lt = row_within c.self.inside.rows.now c.args.self.now c.args.position c.self.view_is c.requires in
    has_time _ _ _ _ _ c.self.view_is lt c.index-rows-position.is c.self.invariant
    (sym c.is_timed.ensures ∙ c.if-is_timed.false)

-- the call of a row that has none
filled : (c : goal.After-call_of-2) → slice_get c.args.self.now c.args.position ≡ Some c.call_of-2.result
filled c =
    let lt = row_within c.self.inside.rows.now c.args.self.now c.args.position c.self.view_is c.requires in
    filled_call _ c.self.inside.times.now _ _ _ c.self.view_is lt c.index-rows-position.is _ _ c.self.invariant
    (sym c.is_timed.ensures ∙ c.if-is_timed.false) c.call_of-2.ensures

pub returns : goal.returns
returns c = filled c

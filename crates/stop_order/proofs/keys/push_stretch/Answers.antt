use Rattle.std.proofs.Common.{◌∙◌, ◌++◌, ◌∷◌, [], sym, ap, arith}
use Rattle.stop_order.specs.declared.keys.PlaceKey.{PlaceKey}
use Rattle.stop_order.proofs.StretchLaws.{rest_none, rest_end, stretch_more, stretch_all}
use Rattle.stop_order.proofs.keys.push_stretch.Goals as goal

pub loop-row-preserved : goal.loop-row-preserved
loop-row-preserved g c =
    let times = g.T.StopTimes.times c.args.times.now in
    let row = c.loop-row.row in
    let lt = rw c.len-row-end.ensures at c.loop-row-test.true in
    let on = sym c.goes_on.ensures ∙ c.if-not-goes_on.false in
    stretch_more times row c.loop-row.keys.items _ _ lt on
    (c.in_ok-push-2.ensures.items ∙ ap (λ (key : PlaceKey). c.loop-row.keys.items ++ key ∷ []) c.key_of-in-loop-row.ensures) c.loop-row.invariant

pub returns-then-not-goes_on : goal.returns-then-not-goes_on
returns-then-not-goes_on g c =
    let times = g.T.StopTimes.times c.args.times.now in
    let off = sym c.goes_on.ensures ∙ c.if-not-goes_on.true in
    stretch_all times c.loop-row.row c.loop-row.keys.items _ (rest_none times c.loop-row.row off) c.loop-row.invariant

pub returns : goal.returns
returns g c =
    let times = g.T.StopTimes.times c.args.times.now in
    stretch_all times c.loop-row.row c.loop-row.keys.items _ (rest_end times c.loop-row.row (omega arith)) c.loop-row.invariant

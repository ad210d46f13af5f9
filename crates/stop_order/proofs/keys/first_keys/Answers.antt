use Rattle.std.proofs.Common.{◌≡◌, ◌∙◌, ◌+◌, ◌++◌, ◌∷◌, [], subst, sym, ap, arith}
use Rattle.stop_order.specs.Order.{key_of}
use Rattle.stop_order.specs.declared.keys.PlaceKey.{PlaceKey}
use Rattle.stop_order.proofs.StretchLaws.{AreFirstTo, first_none, first_on, first_more, first_all}
use Rattle.stop_order.proofs.keys.first_keys.Goals as goal
use Rattle.stop_order.proofs.keys.first_keys.Goals.{then-not-goes_on+in_ok-push, else-not-goes_on}

pub loop-row-init : goal.loop-row-init
loop-row-init g c = first_none (g.T.StopTimes.times c.args.times.now) c.new-firsts.result.items c.new-firsts.ensures.items

pub loop-row-preserved : goal.loop-row-preserved
loop-row-preserved g c =
    let times = g.T.StopTimes.times c.args.times.now in
    let row = c.loop-row.row in
    let firsts = c.loop-row.firsts.items in
    let lt = rw c.len-row-end.ensures at c.loop-row-test.true in
    elim c.if-not-goes_on.branch [
      | then-not-goes_on+in_ok-push w ↦
          let off = sym c.goes_on.ensures ∙ w.if-not-goes_on.true in
          let pushed : c.if-not-goes_on.firsts.items ≡ firsts ++ key_of times row ∷ [] =
          ap (λ v. v.items) w.firsts-is ∙ w.in_ok-push.ensures.items ∙ ap (λ (key : PlaceKey). firsts ++ key ∷ []) w.key_of.ensures in
          subst (AreFirstTo times (row + 1)) (sym pushed) (first_more times row firsts lt off c.loop-row.invariant)
      | else-not-goes_on w ↦
          let on = sym c.goes_on.ensures ∙ w.if-not-goes_on.false in
          rw w.firsts-is (first_on times row firsts lt on c.loop-row.invariant)
    ]

pub returns : goal.returns
returns g c = first_all (g.T.StopTimes.times c.args.times.now) c.loop-row.row c.loop-row.firsts.items (omega arith) c.loop-row.invariant

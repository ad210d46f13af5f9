use Rattle.std.proofs.Common.{◌≡◌, ◌∙◌, ap, arith}
use Rattle.plain_laws.specs.Plain.{list_below}
use Rattle.plain_laws.proofs.Laws.{list_below_more}
use Rattle.fare_areas.specs.AreaRows.{areas_at, ordered}
use Rattle.fare_areas.proofs.each_in_order.Goals as goal

pub loop-stop-preserved : goal.loop-stop-preserved
loop-stop-preserved c = λ most within.
    let here = c.in_ok-areas.ensures most (rw c.get.ensures (within c.loop-stop.stop)) in
    list_below_more c.loop-stop.stop _ _ _ _ (c.loop-stop.invariant most within) c.in_ok-push.ensures.ok
    (c.as_slice.ensures.value ∙ here ∙ ap (ordered most) c.get.ensures)

pub returns : goal.returns
returns c = λ most within.
    let end : c.loop-stop.stop ≡ c.args.count = omega (arith, c.loop-stop-test.false, c.loop-stop.auto.stop-end) in
    c.loop-stop.invariant most within ∙ ap (λ n. list_below n (λ stop. ordered most (areas_at c.args.groups.now stop))) end

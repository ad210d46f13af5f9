use Rattle.std.proofs.Common.{◌≡◌, length, arith}
use Rattle.std.proofs.lemmas.Grind.{common_steps}
use Rattle.stop_order.specs.Order.{row_at, AreOrdered}
use Rattle.stop_order.proofs.OrderLaws.{faults_from}
use Rattle.stop_order.proofs.KeyLaws.{placed_by}
use Rattle.stop_order.proofs.ToldLaws.{none_told}
use Rattle.stop_order.proofs.pass.order_faults.Goals as goal

pub loop-place-init : goal.loop-place-init
loop-place-init g c =
    none_told (g.T.StopTimes.times c.args.times.now) (row_at c.deref.result.now) c.new-faults.result.items (grind (arith, common_steps))

pub returns : goal.returns
returns g c =
    let times = g.T.StopTimes.times c.args.times.now in
    let row = row_at c.deref.result.now in
    let all : c.loop-place.place ≡ length times = omega arith in
    let ordered : AreOrdered times row = rw c.deref.ensures.value c.in_ok-keys.ensures in
    let faults = faults_from times row c.loop-place.place c.loop-place.latest c.loop-place.faults.items ordered all c.loop-place.invariant in
    record { count = faults.count; value = faults.value }

pub invariant_of-order : goal.invariant_of-order
invariant_of-order g c =
    let times = g.T.StopTimes.times c.args.times.now in
    let ordered : AreOrdered times (row_at c.deref.result.now) = rw c.deref.ensures.value c.in_ok-keys.ensures in
    record { placed = placed_by times (row_at c.deref.result.now) ordered }

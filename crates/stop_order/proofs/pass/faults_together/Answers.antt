use Rattle.std.proofs.Common.{◌≡◌, length, arith}
use Rattle.std.proofs.lemmas.Grind.{common_steps}
use Rattle.stop_order.specs.Order.{StandTogether}
use Rattle.stop_order.proofs.OrderLaws.{faults_from}
use Rattle.stop_order.proofs.ToldLaws.{none_told}
use Rattle.stop_order.proofs.TogetherLaws.{in_file, none_marked, file_order}
use Rattle.stop_order.proofs.pass.faults_together.Goals as goal

pub loop-row-init : goal.loop-row-init
loop-row-init g c =
    let times = g.T.StopTimes.times c.args.times.now in
    let blank = c.in_ok-begun.ensures.items_if_clones_equal (λ y clone. clone) in
    (none_marked times c.in_ok-begun.begun.items (rw c.len.ensures at blank), none_told times in_file c.new-faults.result.items (grind (arith, common_steps)))

pub returns-clause-together : goal.returns-clause-together
returns-clause-together g c =
    let times = g.T.StopTimes.times c.args.times.now in
    let all : c.loop-row.row ≡ length times = omega arith in
    let stand : StandTogether times (length times) = rw (← all) c.loop-row.invariant.0.stand in
    faults_from times in_file c.loop-row.row c.loop-row.latest c.loop-row.faults.items (file_order times stand) all c.loop-row.invariant.1

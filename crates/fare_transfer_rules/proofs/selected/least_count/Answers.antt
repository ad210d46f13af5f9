-- One row more, and what the least of all rows tells.
use Rattle.std.proofs.Common.{subst, take_all}
use Rattle.fare_transfer_rules.specs.Changes.{asked_of}
use Rattle.fare_transfer_rules.specs.Fits.{AreLeast}
use Rattle.fare_transfer_rules.proofs.CountLaws.{least_more}
use Rattle.fare_transfer_rules.proofs.SelectedLaws.{least_for}
use Rattle.fare_transfer_rules.proofs.selected.least_count.Goals as goal

pub loop-classed-preserved : goal.loop-classed-preserved
loop-classed-preserved c =
    least_more c.args.among.now c.loop-classed.classed-index _ c.loop-classed.least c.with_count-least.result
    c.loop-classed-test.true c.loop-classed.invariant c.with_count-least.ensures.within c.with_count-least.ensures.some

pub returns : goal.returns
returns c = λ feed rows between.
    let change = asked_of c.args.change.now in
    let least = subst (λ among. AreLeast c.args.rules.now change among c.loop-classed.least)
    (take_all c.loop-classed.classed-index c.args.among.now c.loop-classed-test.false) c.loop-classed.invariant in
    least_for feed change c.args.among.now between c.loop-classed.least
    (subst (λ rules. AreLeast rules change c.args.among.now c.loop-classed.least) rows least)

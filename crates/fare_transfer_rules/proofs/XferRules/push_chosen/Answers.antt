use Rattle.std.proofs.Common.{◌∙◌, ap, ◌++◌, take_all}
use Rattle.fare_transfer_rules.specs.Changes.{asked_of}
use Rattle.fare_transfer_rules.specs.Fits.{chosen_among}
use Rattle.fare_transfer_rules.proofs.XferRules.push_chosen.Goals as goal

pub returns : goal.returns
returns c =
    c.loop-classed.invariant
    ∙ ap (λ among. c.args.rows.now.items ++ chosen_among c.args.self.now.rules.items (asked_of c.args.change.now) c.args.least among)
    (take_all c.loop-classed.classed-index c.args.among.now c.loop-classed-test.false)
